use Rattle.std.proofs.Common.{◌≡◌, ℕ, ◌<◌, ◌≤◌, ◌⊎◌, List, [], ◌∷◌, Ok, Err, Result, MatchResult, get_or, refl, ⊎_elim, true, arith}
use Rattle.std.specs.Result.{IsOk}
use Rattle.writing.specs.Writer.{variables}
use Rattle.length.specs.Limits.{IsOutOfOrder}
use Rattle.runner.proofs.Listing.{all_at_most, at_most}
use Rattle.runner.proofs.limits.Limits.new.Goals as goal

-- limits that are in order are taken
in_order : {X E : Type 0} (r : Result X E) (P : X → Type 0) (Q : E → Type 0) (least most : List ℕ) → all_at_most 0 least ≡ true → all_at_most 1000000 most ≡ true → MatchResult r P (λ e. Q e × ((v : ℕ) × (v < 26) × IsOutOfOrder (get_or least v 0) (get_or most v 0))) → IsOk r
in_order (Ok x) P Q least most hl hm h = refl
in_order (Err e) P Q least most hl hm h =
    let v = h.1.0 in
    let low : get_or least v 0 ≤ 0 = at_most 0 least v hl in
    let high : get_or most v 0 ≤ 1000000 = at_most 1000000 most v hm in
    absurd (⊎_elim (λ (o : get_or most v 0 < get_or least v 0). omega arith) (λ (o : 1000000 < get_or most v 0). omega arith) h.1.2)

pub unwrap-requires : goal.unwrap-requires
unwrap-requires c = in_order c.new.result _ _ (0 ∷ 0 ∷ 0 ∷ 0 ∷ 0 ∷ 0 ∷ 0 ∷ 0 ∷ 0 ∷ 0 ∷ 0 ∷ 0 ∷ 0 ∷ 0 ∷ 0 ∷ 0 ∷ 0 ∷ 0 ∷ 0 ∷ 0 ∷ 0 ∷ 0 ∷ 0 ∷ 0 ∷ 0 ∷ 0 ∷ []) (1000000 ∷ 1000000 ∷ 1000000 ∷ 1000000 ∷ 1000000 ∷ 1000000 ∷ 1000000 ∷ 1000000 ∷ 1000000 ∷ 1000000 ∷ 1000000 ∷ 1000000 ∷ 1000000 ∷ 1000000 ∷ 1000000 ∷ 1000000 ∷ 1000000 ∷ 1000000 ∷ 1000000 ∷ 1000000 ∷ 1000000 ∷ 1000000 ∷ 1000000 ∷ 1000000 ∷ 1000000 ∷ 1000000 ∷ []) refl refl c.new.ensures

pub returns : goal.returns
unfolding variables
returns c =
    let k = rw c.unwrap.ensures at c.new.ensures in
    record { least = refl; most = refl; listed = refl; kind_least = k.0; kind_most = k.1; in_order = λ x lt. (omega arith, omega arith) }
