-- A place of two lists that are gone over together. Assumes nothing.
use Rattle.std.proofs.Common.{◌≡◌, ℕ, ◌<◌, List, length, get_or, subst, arith}
use Rattle.std.specs.List.{zip, HoldsAt}
use Rattle.std.proofs.lemmas.Slice.Zip.{get_or-zip, length-zip}

-- what holds at some place of the pairs holds of the two elements there
pub place_of_pair : (P : ℕ × ℕ → Type 0) (xs ys : List ℕ) (n : ℕ) → length xs ≡ n → length ys ≡ n → (i : ℕ) × (i < length (zip xs ys)) × HoldsAt P (zip xs ys) i → (i : ℕ) × (i < n) × P (get_or xs i 0, get_or ys i 0)
place_of_pair P xs ys n p q found =
    let i = found.0 in
    let low : i < n = omega (arith, found.1, length-zip xs ys) in
    (i, low, subst P (get_or-zip xs ys i (0, 0) (omega arith) (omega arith)) (found.2 (0, 0)))
