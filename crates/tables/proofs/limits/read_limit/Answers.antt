use Rattle.std.proofs.Common.{refl}
use Rattle.tables.proofs.RowLines.{at_unreadable, at_count, limit_first, limit_second, limit_third, limit_row}
use Rattle.tables.proofs.limits.read_limit.Goals as goal

pub returns-in_err-first : goal.returns-in_err-first
returns-in_err-first c = at_count _ _ _ _ 3 c.from_residual.ensures.1 c.in_err-first.ensures.0 (refl, c.in_err-first.ensures.1)

pub returns-in_err-variable : goal.returns-in_err-variable
returns-in_err-variable c =
    let f = c.in_ok-first.ensures in
    at_unreadable _ _ _ _ _ 0 c.from_residual-in_err-variable.ensures.1 c.in_err-variable.ensures.1 f.first_place
    (limit_first c.args.line.now c.in_ok-first.first.bytes.now c.in_ok-first.second.bytes.now c.in_ok-first.third.bytes.now f.fields (rw c.in_err-variable.ensures.0 at c.variable.ensures))

pub returns-in_err-least : goal.returns-in_err-least
returns-in_err-least c =
    let f = c.in_ok-first.ensures in
    at_unreadable _ _ _ _ _ _ c.from_residual-in_err-least.ensures.1 c.in_err-least.ensures.1 f.second_place
    (limit_second c.args.line.now c.in_ok-first.first.bytes.now c.in_ok-first.second.bytes.now c.in_ok-first.third.bytes.now c.in_ok-variable.variable f.fields (rw c.in_ok-variable.ensures at c.variable.ensures) (rw c.in_err-least.ensures.0 at c.small_number.ensures))

pub returns-in_err-most : goal.returns-in_err-most
returns-in_err-most c =
    let f = c.in_ok-first.ensures in
    at_unreadable _ _ _ _ _ _ c.from_residual-in_err-most.ensures.1 c.in_err-most.ensures.1 f.third_place
    (limit_third c.args.line.now c.in_ok-first.first.bytes.now c.in_ok-first.second.bytes.now c.in_ok-first.third.bytes.now c.in_ok-variable.variable c.in_ok-least.least f.fields (rw c.in_ok-variable.ensures at c.variable.ensures) (rw c.in_ok-least.ensures at c.small_number.ensures) (rw c.in_err-most.ensures.0 at c.small_number-2.ensures))

pub returns : goal.returns
returns c =
    let f = c.in_ok-first.ensures in
    limit_row c.args.line.now c.in_ok-first.first.bytes.now c.in_ok-first.second.bytes.now c.in_ok-first.third.bytes.now c.in_ok-variable.variable c.in_ok-least.least c.in_ok-most.most f.fields
    (rw c.in_ok-variable.ensures at c.variable.ensures) (rw c.in_ok-least.ensures at c.small_number.ensures) (rw c.in_ok-most.ensures at c.small_number-2.ensures)
