use Rattle.std.proofs.Common.{sym}
use Rattle.tables.specs.declared.types.Table.TheVariants.{Choices}
use Rattle.runner.proofs.Rows.{some_none}
use Rattle.runner.proofs.Loops.{at_err, limiting_starts, limiting_begun, limiting_more, limiting_refused, limiting_lacks, limiting_ended}
use Rattle.runner.proofs.limits.limit_rows.Goals as goal

pub loop-line-init : goal.loop-line-init
loop-line-init c = λ all equations first. limiting_starts all equations c.new-limits.result c.args.reader.now first c.new-limits.ensures

pub loop-line-preserved-in-Ok-Begun : goal.loop-line-preserved-in-Ok-Begun
loop-line-preserved-in-Ok-Begun c = λ all equations first.
    let g = rw c.in-Ok-Begun.field-0-is at c.in-Ok-Begun.ensures in
    limiting_begun all equations c.loop-line.limits c.loop-line.reader c.step.new.self (c.loop-line.invariant all equations first) g.0 g.1 g.2

pub loop-line-preserved : goal.loop-line-preserved
loop-line-preserved c = λ all equations first.
    let g = rw c.in-Ok-Row.field-0-is at c.in-Ok-Row.ensures in
    let l = c.loop-line.invariant all equations first in
    limiting_more all equations c.loop-line.limits c.set_row.new.self c.loop-line.reader c.step.new.self c.in-Ok-Row.line.now l g.0 g.1 g.3 (c.in_ok-set_row-in-Ok-Row.ensures l.limits l.holds)

pub returns-in_err-set_row-in-Ok-Row : goal.returns-in_err-set_row-in-Ok-Row
returns-in_err-set_row-in-Ok-Row c = λ all equations first.
    let g = rw c.in-Ok-Row.field-0-is at c.in-Ok-Row.ensures in
    let l = c.loop-line.invariant all equations first in
    at_err _ _ _ _ c.from_residual.ensures.1
    (limiting_refused all equations c.loop-line.limits c.loop-line.reader c.step.new.self c.in-Ok-Row.line.now c.in_err-set_row-in-Ok-Row.field-0.0 l g.0 g.1 (g.2 (λ e. some_none Choices (sym e))) g.3 (rw c.line.ensures at (c.in_err-set_row-in-Ok-Row.ensures l.limits l.holds)))

pub returns-in-Ok-Ended : goal.returns-in-Ok-Ended
returns-in-Ok-Ended c = λ all equations first.
    let g = rw c.in-Ok-Ended.field-0-is at c.in-Ok-Ended.ensures in
    let l = c.loop-line.invariant all equations first in
    (l.limits, limiting_ended all equations c.loop-line.limits c.loop-line.reader c.step.new.self l g.0 g.1.0 g.1.1, l.holds)

pub returns-in-Err : goal.returns-in-Err
returns-in-Err c = λ all equations first.
    limiting_lacks all equations c.loop-line.limits c.loop-line.reader c.in-Err.lacks c.from.result (c.loop-line.invariant all equations first) c.in-Err.ensures c.from.ensures
