use Rattle.std.proofs.Common.{◌≡◌, ℕ, ◌^◌, ◌<◌, min, max, ◌||◌, eqb, [], ◌∷◌, sym, ap, ◌∙◌, inl, inr, arith}
use lib.Bits.{bit_or}
use Rattle.std.specs.Int.{bit_at}
use Rattle.std.proofs.lemmas.Bool.{cases_eq, eq-eqb, ne_eqb}
use Rattle.std.proofs.lemmas.Bool.Decides.{nat_tests}
use Rattle.std.proofs.lemmas.Nat.Bits.{bit_at-zero, bit_at_or, bit_at-pow_same, bit_at-pow_other, bit_at-lt}
use Rattle.systems.specs.Values.{word_value}
use Rattle.measure.specs.Sets.{holds}
use Rattle.letters_used.specs.LetterSets.{only, none, union}
use Rattle.letters_used.specs.Theorems.{ValueIsLettersUsed}
use Rattle.letters_used.proofs.kind.value_is_letters_used.Goals as goal

either_digit : (p q : ℕ) → p < 2 → q < 2 → eqb (max p q) 1 ≡ (eqb p 1 || eqb q 1)
either_digit p q h k = grind (arith, nat_tests)

holds_or : (x y a : ℕ) → holds (bit_or x y) a ≡ (holds x a || holds y a)
holds_or x y a = ap (λ n. eqb n 1) (bit_at_or x y a) ∙ either_digit (bit_at x a) (bit_at y a) (bit_at-lt x a) (bit_at-lt y a)

holds_one : (a b : ℕ) → holds (2 ^ b) a ≡ eqb a b
holds_one a b = elim (cases_eq a b) [
  | inl same ↦ ap (λ k. holds (2 ^ k) a) (sym same) ∙ ap (λ n. eqb n 1) (bit_at-pow_same a) ∙ sym (eq-eqb a b same)
  | inr other ↦ ap (λ n. eqb n 1) (bit_at-pow_other b a other) ∙ sym (ne_eqb a b other)
]

used : ValueIsLettersUsed
used [] all a = ap (λ n. eqb n 1) (bit_at-zero a)
used (b ∷ w) all a =
    let b26 : b < 26 = all.0 in
    let low : min b 25 ≡ b = omega arith in
    let rest = word_value only none union w in
    holds_or (2 ^ min b 25) rest.bits a ∙ ap (λ k. holds (2 ^ k) a || holds rest.bits a) low ∙ ap (λ t. t || holds rest.bits a) (holds_one a b)
    ∙ ap (λ t. eqb a b || t) (used w all.1 a)

pub returns : goal.returns
returns c = used
