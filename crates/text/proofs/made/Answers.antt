use Rattle.std.proofs.Common.{◌≡◌, ℕ, ◌^◌, ◌<◌, ◌≤◌, ◌∷◌, Bool, true, false, Some, decimal, sym, ap, ◌∙◌, arith, rules}
use Rattle.std.specs.Bool.{Decides, then_some}
use Rattle.std.proofs.lemmas.Bool.{true≢false}
use Rattle.std.proofs.lemmas.Bool.Decides.{nat_tests}
use Rattle.std.proofs.lemmas.Fmt.{decimal_injective}
use Rattle.text.specs.Names.{letter_name}
use Rattle.text.specs.Pieces.{Bytes}
use Rattle.text.specs.Reading.{Below, Reads}
use Rattle.text.proofs.Names.{letter_made, name_made}
use Rattle.text.proofs.made.Goals as goal

-- the letter that the digits of a number name
the_number : (digits : Bytes) (n a : ℕ) → Reads (Below (10 ^ 16)) decimal digits (Some n) → a < 538 → 35 ∷ digits ≡ letter_name a → (26 ≤ a) × (n ≡ a)
the_number digits n a h lt e =
    let m = name_made digits a e in
    let few : n < 10 ^ 16 = h.0 in
    (m.0, decimal_injective n a (omega arith) (omega arith) (sym h.1 ∙ m.1))

-- a number from 26 to 537 is the letter
kept : (digits : Bytes) (n : ℕ) (b : Bool) → Reads (Below (10 ^ 16)) decimal digits (Some n) → Decides b ((26 ≤ n) × (n < 538)) → Reads (Below 538) letter_name (35 ∷ digits) (then_some b n)
kept digits n true h d = ((d.0 search rules).1, ap (λ ds. 35 ∷ ds) h.1 ∙ sym (letter_made n (d.0 search rules).0))
kept digits n false h d = λ a lt e. let m = the_number digits n a h lt e in
    let range : (26 ≤ n) × (n < 538) = (omega arith, omega arith) in
    absurd (true≢false (sym (d.1 range)))

pub returns-in_err-a : goal.returns-in_err-a
returns-in_err-a c =
    let large : 65536 ≤ c.in_ok-number.field-0 = grind arith in
    let h = c.in_ok-number.ensures in
    rw c.from_residual-in_err-a.ensures (λ a lt e. omega (arith, the_number c.args.digits.now c.in_ok-number.field-0 a h lt e))

pub returns : goal.returns
returns c =
    let is : c.in_ok-a.a ≡ c.in_ok-number.field-0 = grind arith in
    let d : Decides c.contains.result ((26 ≤ c.in_ok-a.a) × (c.in_ok-a.a < 538)) = search (rules, nat_tests) in
    let r : Reads (Below (10 ^ 16)) decimal c.args.digits.now (Some c.in_ok-a.a) = rw is c.in_ok-number.ensures in
    rw c.then_some.ensures (kept c.args.digits.now c.in_ok-a.a c.contains.result r d)
