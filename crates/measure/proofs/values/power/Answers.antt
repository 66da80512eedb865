use Rattle.std.proofs.Common.{◌∙◌, arith}
use Rattle.measure.proofs.Folding.{power_even, power_odd}
use Rattle.measure.proofs.values.power.Goals as goal
use Rattle.measure.proofs.values.power.Goals.{then-left-eq1, else-left-eq1}

pub loop-left-preserved : goal.loop-left-preserved
loop-left-preserved g c =
    let k = c.args.kind.now in
    let assoc = g.K.Measure.associative k in
    let neutral = g.K.Measure.neutral k in
    let n = c.loop-left.left in
    elim c.if-left-eq1.branch [
      | then-left-eq1 w ↦ power_odd assoc neutral c.loop-left.done c.loop-left.square _ _ _ n (w.done-is ∙ w.join-done.ensures) c.join-square.ensures (omega arith) c.loop-left.invariant
      | else-left-eq1 w ↦ power_even assoc neutral c.loop-left.done c.loop-left.square _ _ _ n w.done-is c.join-square.ensures (omega arith) c.loop-left.invariant
    ]
