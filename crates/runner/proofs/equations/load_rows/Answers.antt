use Rattle.std.proofs.Common.{sym}
use Rattle.checker.specs.Holding.{loading}
use Rattle.tables.specs.declared.types.Table.TheVariants.{Limits}
use Rattle.runner.proofs.Rows.{some_none}
use Rattle.runner.proofs.Loops.{at_err, loading_starts, loading_begun, loading_more, loading_refused, loading_lacks, loading_ended}
use Rattle.runner.proofs.equations.load_rows.Goals as goal

pub loop-line-init : goal.loop-line-init
loop-line-init c = λ all starts none. loading_starts all (loading c.args.system.now) c.args.reader.now starts none

pub loop-line-preserved-in-Ok-Begun : goal.loop-line-preserved-in-Ok-Begun
loop-line-preserved-in-Ok-Begun c = λ all starts none.
    let g = rw c.in-Ok-Begun.field-0-is at c.in-Ok-Begun.ensures in
    loading_begun all (loading c.loop-line.system) c.loop-line.reader c.step.new.self (c.loop-line.invariant all starts none) g.0 g.1 g.2

pub loop-line-preserved : goal.loop-line-preserved
loop-line-preserved c = λ all starts none.
    let g = rw c.in-Ok-Row.field-0-is at c.in-Ok-Row.ensures in
    loading_more all (loading c.loop-line.system) (loading c.load_row.new.system) c.loop-line.reader c.step.new.self c.in-Ok-Row.line.now (c.loop-line.invariant all starts none) g.0 g.1 g.3 c.in_ok-load_row-in-Ok-Row.ensures

pub returns-in_err-load_row-in-Ok-Row : goal.returns-in_err-load_row-in-Ok-Row
returns-in_err-load_row-in-Ok-Row c = λ all starts none.
    let g = rw c.in-Ok-Row.field-0-is at c.in-Ok-Row.ensures in
    at_err _ _ _ _ c.from_residual.ensures.1
    (loading_refused all (loading c.loop-line.system) c.loop-line.reader c.step.new.self c.in-Ok-Row.line.now c.in_err-load_row-in-Ok-Row.field-0.0 (c.loop-line.invariant all starts none) g.0 g.1 (g.2 (λ e. some_none Limits (sym e))) g.3 (rw c.line.ensures at c.in_err-load_row-in-Ok-Row.ensures))

pub returns-in-Ok-Ended : goal.returns-in-Ok-Ended
returns-in-Ok-Ended c = λ all starts none.
    let g = rw c.in-Ok-Ended.field-0-is at c.in-Ok-Ended.ensures in
    let l = c.loop-line.invariant all starts none in
    (l.equations, loading_ended all (loading c.loop-line.system) c.loop-line.reader c.step.new.self l g.0 g.1.0 g.1.1, l.stands)

pub returns-in-Err : goal.returns-in-Err
returns-in-Err c = λ all starts none.
    loading_lacks all (loading c.loop-line.system) c.loop-line.reader c.in-Err.lacks c.from.result (c.loop-line.invariant all starts none) c.in-Err.ensures c.from.ensures
