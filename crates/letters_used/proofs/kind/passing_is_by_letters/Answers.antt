use Rattle.std.proofs.Common.{◌≡◌, ℕ, ◌<◌, min, true, sym, ap, ◌∙◌, inl, inr, arith}
use lib.Bits.{bit_and}
use Rattle.std.specs.Int.{bit_at}
use Rattle.std.proofs.lemmas.Bool.{eqb-true, eq-eqb, and_parts, and_from, cases_lt}
use Rattle.std.proofs.lemmas.Nat.Bits.{bit_at_and, bit_at-lt, same_from_bits}
use Rattle.letters_used.specs.LetterSets.{covers}
use Rattle.letters_used.specs.Theorems.{Within}
use Rattle.letters_used.proofs.kind.passing_is_by_letters.Goals as goal

covers_within : (big small : ℕ) → covers big small ≡ true → Within small big
covers_within big small h a has =
    let both : min (bit_at big a) (bit_at small a) ≡ bit_at small a = sym (bit_at_and big small a) ∙ ap (λ n. bit_at n a) (eqb-true (bit_and big small) small h) in
    let one : bit_at small a ≡ 1 = eqb-true (bit_at small a) 1 has in
    let low = bit_at-lt big a in
    eq-eqb (bit_at big a) 1 (omega arith)

least_digit : (b s : ℕ) → b < 2 → s < 2 → (s ≡ 1 → b ≡ 1) → min b s ≡ s
least_digit b s low small h = elim (cases_lt s 1) [ inl none ↦ omega arith | inr some ↦ let one = h (omega arith) in omega arith ]

within_covers : (big small : ℕ) → Within small big → covers big small ≡ true
within_covers big small all =
    eq-eqb _ _ (same_from_bits (bit_and big small) small (λ a.
    let digits : bit_at small a ≡ 1 → bit_at big a ≡ 1 = λ has. eqb-true (bit_at big a) 1 (all a (eq-eqb (bit_at small a) 1 has)) in
    bit_at_and big small a ∙ least_digit (bit_at big a) (bit_at small a) (bit_at-lt big a) (bit_at-lt small a) digits))

pub returns : goal.returns
returns c = record {
  passing = λ required allowed x h. let p = and_parts (covers x required) (covers allowed x) h in (covers_within x required p.0, covers_within allowed x p.1);
  within = λ required allowed x low high. and_from (covers x required) (covers allowed x) (within_covers x required low) (within_covers allowed x high);
}
