use Rattle.runner.proofs.Loops.{at_err, choosing_begun, choosing_more, choosing_refused, choosing_lacks, choosing_ended}
use Rattle.runner.proofs.choices.choose_rows.Goals as goal

pub loop-line-preserved-in-Ok-Begun : goal.loop-line-preserved-in-Ok-Begun
loop-line-preserved-in-Ok-Begun c = λ all equations limits second came.
    let g = rw c.in-Ok-Begun.field-0-is at c.in-Ok-Begun.ensures in
    choosing_begun all equations limits c.loop-line.check c.loop-line.reader c.step.new.self (c.loop-line.invariant all equations limits second came) g.0 g.1 g.2

pub loop-line-preserved : goal.loop-line-preserved
loop-line-preserved c = λ all equations limits second came.
    let g = rw c.in-Ok-Row.field-0-is at c.in-Ok-Row.ensures in
    choosing_more all equations limits c.loop-line.check c.choose_row.new.check c.loop-line.reader c.step.new.self c.in-Ok-Row.line.now (c.loop-line.invariant all equations limits second came) g.0 g.1 g.3 c.in_ok-choose_row-in-Ok-Row.ensures

pub returns-in_err-choose_row-in-Ok-Row : goal.returns-in_err-choose_row-in-Ok-Row
returns-in_err-choose_row-in-Ok-Row c = λ all equations limits second came.
    let g = rw c.in-Ok-Row.field-0-is at c.in-Ok-Row.ensures in
    at_err _ _ _ _ c.from_residual.ensures.1
    (choosing_refused all equations limits c.loop-line.check c.loop-line.reader c.step.new.self c.in-Ok-Row.line.now c.in_err-choose_row-in-Ok-Row.field-0.0 (c.loop-line.invariant all equations limits second came) g.0 g.1 g.3 (rw c.line.ensures at c.in_err-choose_row-in-Ok-Row.ensures))

pub returns-in-Ok-Ended : goal.returns-in-Ok-Ended
returns-in-Ok-Ended c = λ all equations limits second came.
    let g = rw c.in-Ok-Ended.field-0-is at c.in-Ok-Ended.ensures in
    let l = c.loop-line.invariant all equations limits second came in
    (l.choices, choosing_ended all equations limits c.loop-line.check c.loop-line.reader l g.0 g.1, l.came)

pub returns-in-Err : goal.returns-in-Err
returns-in-Err c = λ all equations limits second came.
    choosing_lacks all equations limits c.loop-line.check c.loop-line.reader c.in-Err.lacks c.from.result (c.loop-line.invariant all equations limits second came) c.in-Err.ensures c.from.ensures
