-- A line cut at a place, and a field taken apart by a pattern. Assumes nothing.
use Rattle.std.proofs.Common.{◌≡◌, ℕ, suc, ◌+◌, ◌-◌, ◌<◌, ◌≤◌, true, [], ◌∷◌, ◌++◌, length, get_or, take, drop, sym, refl, ap, ◌∙◌, arith}
use Rattle.std.proofs.lemmas.List.{take_rest, drop_more, take-append-drop, get_or-take, length-take-le}
use Rattle.std.specs.Int.{IsInRange}
use Rattle.text.specs.Pieces.{Bytes, free}
use Rattle.text.proofs.Cuts.{free_cons}

-- `[b, rest @ ..]`
pub headed : (bs : Bytes) (b : ℕ) → 0 < length bs → get_or bs 0 0 ≡ b → b ∷ take (length bs - 1) (drop 1 bs) ≡ bs
headed bs b some is = (λ i. sym is i ∷ take_rest bs 1 i) ∙ sym (drop_more bs 0 0 some)

-- `bs[..n]`, `bs[n]` and `bs[n + 1..]`
pub cut_at : (bs : Bytes) (n b : ℕ) → n < length bs → get_or bs n 0 ≡ b → take n bs ++ b ∷ take (length bs - (n + 1)) (drop (n + 1) bs) ≡ bs
cut_at bs n b lt is =
    (λ i. take n bs ++ sym is i ∷ take_rest bs (n + 1) i)
    ∙ ap (λ l. take n bs ++ l) (sym (drop_more bs n 0 lt))
    ∙ take-append-drop n bs

pub free_from : (b : ℕ) (bs : Bytes) → ((k : ℕ) → k < length bs → get_or bs k 0 ≡ b → ⊥) → free b bs ≡ true
free_from b [] h = refl
free_from b (c ∷ cs) h = free_cons b c cs (λ e. h 0 (omega arith) e) (free_from b cs (λ k lt e. h (suc k) (omega arith) e))

pub free_front : (bs : Bytes) (n b : ℕ) → n ≤ length bs → ((k : ℕ) → k < n → get_or bs k 0 ≡ b → ⊥) → free b (take n bs) ≡ true
free_front bs n b le before =
    free_from b (take n bs) (λ k lt is.
    let under : k < n = omega (arith, length-take-le n bs le) in
    before k under (sym (get_or-take n bs k 0 under) ∙ is))

-- only some bytes begin with a digit
pub digit_some : (bs : Bytes) → IsInRange 48 57 (get_or bs 0 0) → 0 < length bs
digit_some [] d = absurd (omega arith)
digit_some (c ∷ cs) d = omega arith
