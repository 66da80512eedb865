-- Tests that agree on each element replace the same. Assumes nothing.
use Rattle.std.proofs.Common.{◌≡◌, ℕ, suc, Bool, List, [], ◌∷◌, refl}
use Rattle.systems.specs.Rows.{replace_pairs, replace_blocks}

module _ {A : Type 0} (p q : A → Bool) (agree : (x : A) → p x ≡ q x) where
  pub same_blocks : (a : A) (n : ℕ) (new : A) (k : ℕ) (xs : List A) → replace_blocks p a n new k xs ≡ replace_blocks q a n new k xs
  same_blocks a n new k [] = refl
  same_blocks a n new k (x ∷ xs) = rw (agree x, same_blocks a n new (suc k) xs, same_blocks a n new 0 xs) refl

  pub same_pairs : (r s : A → Bool) → ((x : A) → r x ≡ s x) → (new : A) (xs : List A) → replace_pairs p r new xs ≡ replace_pairs q s new xs
  same_pairs r s h new [] = refl
  same_pairs r s h new (x ∷ []) = refl
  same_pairs r s h new (x ∷ (y ∷ xs)) = rw (same_pairs r s h new (y ∷ xs), same_pairs r s h new xs, agree x, h y) refl
