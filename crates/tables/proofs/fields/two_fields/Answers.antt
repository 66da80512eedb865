use Rattle.std.proofs.Common.{length, ap, arith}
use Rattle.tables.proofs.Cutting.{fields_one, not_two, is_two}
use Rattle.tables.proofs.fields.two_fields.Goals as goal

pub returns-in_err-first : goal.returns-in_err-first
returns-in_err-first c = rw c.from_residual.ensures (λ two. omega (arith, ap length (fields_one c.args.whole.bytes.now c.in_err-first.ensures)))

pub returns-in-Some : goal.returns-in-Some
returns-in-Some c = not_two c.args.whole (c.in_ok-first.first, c.in_ok-first.second) c.in-Some.field-0 c.in_ok-first.ensures c.in-Some.ensures

pub returns-in-None : goal.returns-in-None
returns-in-None c = is_two c.args.whole (c.in_ok-first.first, c.in_ok-first.second) c.in_ok-first.ensures c.in-None.ensures
