-- What `push` leaves where there is room. Assumes nothing.
use Rattle.std.proofs.Common.{◌≡◌, ℕ, ◌<◌, List, [], ◌∷◌, ◌++◌, length, Ok, Err, Result, arith, MatchResult}

pub pushed : {X E : Type 0} (r : Result (Unit {0}) E) (old new : List X) (x : X) (n : ℕ) → MatchResult r (λ _. (length old < n) × (new ≡ old ++ (x ∷ []))) (λ _. (length old ≡ n) × (new ≡ old)) → length old < n → new ≡ old ++ (x ∷ [])
pushed (Ok u) old new x n h room = h.1
pushed (Err e) old new x n h room = absurd (omega (arith, h.0))
