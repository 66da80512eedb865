use Rattle.std.proofs.Common.{◌≡◌, ℕ, ◌/◌, ◌%◌, ◌^◌, ◌<◌, Bool, false, eqb, Option, Some, None, MatchOption, sym, ap, ◌∙◌, arith, rules}
use Rattle.std.specs.Option.{SomeIff}
use Rattle.std.proofs.lemmas.Nat.Bits.{bit_at_above}
use Rattle.measure.specs.Sets.{holds}
use Rattle.measure.proofs.sets.has.Goals as goal

shifted : (set n : ℕ) (rest : Option ℕ) (r : Bool) → set < 2 ^ 32 → SomeIff rest (n < 32) (set / 2 ^ n) → MatchOption rest (r ≡ false) (λ x. r ≡ eqb (x % 2) 1) → r ≡ holds set n
shifted set n (Some x) r fits h is = is ∙ ap (λ y. eqb (y % 2) 1) h.1
shifted set n None r fits h is = is ∙ ap (λ digit. eqb digit 1) (sym (bit_at_above set 32 n fits (omega arith)))

pub returns : goal.returns
returns c = shifted c.args.set c.args.number c.checked_shr.result _ (omega arith) (search rules) (search rules)
