use Rattle.std.proofs.Common.{length, ap, arith}
use Rattle.tables.proofs.Cutting.{cut_fields, fields_one, is_three}
use Rattle.tables.proofs.fields.three_fields.Goals as goal

pub returns-in_err-first : goal.returns-in_err-first
returns-in_err-first c = rw c.from_residual.ensures (λ three. omega (arith, ap length (fields_one c.args.whole.bytes.now c.in_err-first.ensures)))

pub returns-in_err-second : goal.returns-in_err-second
returns-in_err-second c =
    rw c.from_residual-in_err-second.ensures
    (λ three. c.in_err-second.ensures (omega (arith, ap length (cut_fields c.args.whole (c.in_ok-first.first, c.in_ok-first.rest) c.in_ok-first.ensures))))

pub returns : goal.returns
returns c = is_three c.args.whole c.in_ok-second.second c.in_ok-second.third (c.in_ok-first.first, c.in_ok-first.rest) c.in_ok-first.ensures c.in_ok-second.ensures
