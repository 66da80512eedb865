use Rattle.std.proofs.Common.{◌≡◌, ℕ, ◌^◌, ◌<◌, length, get_or, decimal, refl, ap, ◌∙◌, subst, arith}
use Rattle.std.specs.Int.{IsInRange}
use Rattle.text.specs.Reading.{Below, Reads}
use Rattle.text.specs.Pieces.{Bytes}
use Rattle.text.proofs.Numbers.{exact_number}
use Rattle.text.proofs.Parts.{digit_some}
use Rattle.text.proofs.Tokens.{other_token}
use Rattle.text.proofs.number.Goals as goal

some : (digits field : Bytes) → digits ≡ field → IsInRange 48 57 (get_or field 0 0) → 0 < length digits
some digits field same d = omega (arith, digit_some field d, ap length same)

pub returns-in-Number : goal.returns-in-Number
returns-in-Number c =
    let r = c.value_of.result in
    let h = c.in-Number.ensures in
    let same : c.in-Number.digits.bytes.now ≡ c.args.field.now = h.0 ∙ c.whole.ensures.bytes in
    let first : IsInRange 48 57 (get_or c.args.field.now 0 0) = subst (λ bs. IsInRange 48 57 (get_or bs 0 0)) c.whole.ensures.bytes h.2 in
    subst (λ ds. Reads (Below (10 ^ 16)) decimal ds r) same (exact_number c.in-Number.digits.bytes.now r (some _ _ same first) c.value_of.ensures)

pub returns-in_default : goal.returns-in_default
returns-in_default c =
    rw (← c.whole.ensures.bytes) (other_token c.token_of.result c.whole.result c.token_of.ensures c.in_default.not-Number)
