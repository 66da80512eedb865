use Rattle.std.proofs.Common.{refl}
use Rattle.tables.proofs.RowLines.{at_unreadable, at_count, equation_first, equation_second, equation_row}
use Rattle.tables.proofs.sides.read_equation.Goals as goal

pub returns-in_err-first : goal.returns-in_err-first
returns-in_err-first c = at_count _ _ _ _ 2 c.from_residual.ensures.1 c.in_err-first.ensures.0 (refl, c.in_err-first.ensures.1)

pub returns-in_err-left : goal.returns-in_err-left
returns-in_err-left c =
    let f = c.in_ok-first.ensures in
    at_unreadable _ _ _ _ _ 0 c.from_residual-in_err-left.ensures.1 c.in_err-left.ensures.1 f.first_place
    (equation_first c.args.line.now c.in_ok-first.first.bytes.now c.in_ok-first.second.bytes.now f.fields c.in_err-left.ensures.0)

pub returns-in_err-right : goal.returns-in_err-right
returns-in_err-right c =
    let f = c.in_ok-first.ensures in
    let l = c.in_ok-left.ensures in
    at_unreadable _ _ _ _ _ _ c.from_residual-in_err-right.ensures.1 c.in_err-right.ensures.1 f.second_place
    (equation_second c.args.line.now c.in_ok-first.first.bytes.now c.in_ok-first.second.bytes.now c.in_ok-left.left.now f.fields l.0 l.1 c.in_err-right.ensures.0)

pub returns : goal.returns
returns c =
    let f = c.in_ok-first.ensures in
    let l = c.in_ok-left.ensures in
    let r = c.in_ok-right.ensures in
    equation_row c.args.line.now c.in_ok-first.first.bytes.now c.in_ok-first.second.bytes.now c.in_ok-left.left.now c.in_ok-right.right.now f.fields l.0 l.1 r.0 r.1
