-- Whether a variable fails, and the first that does. Assumes nothing.
use Rattle.std.proofs.Common.{◌≡◌, ℕ, Bool, true, false, not, ◌&&◌, sym, ap, ◌∙◌, ap₂}
use Rattle.systems.specs.Standings.{Standing}
use Rattle.guarantee.specs.Closing.{Meaning, fails, found_word, value_of}

module _ {V : Type 0} (m : Meaning V) (system : ℕ → Bool) (S : Standing) where
  pub by_passing : (x y : ℕ) (v : V) (passed : Bool) → system x ≡ true → y ≡ x → v ≡ value_of m (found_word S x) → passed ≡ m.passes y v → not passed ≡ fails m system S x
  by_passing x y v passed of same value is = ap not (is ∙ ap₂ m.passes same value) ∙ sym (ap (λ b. b && not (m.passes x (value_of m (found_word S x)))) of)

  pub not_of_system : (x : ℕ) → system x ≡ false → false ≡ fails m system S x
  not_of_system x other = sym (ap (λ b. b && not (m.passes x (value_of m (found_word S x)))) other)
