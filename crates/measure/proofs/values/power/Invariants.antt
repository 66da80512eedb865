use Rattle.std.proofs.Common.{◌≡◌}
use Rattle.systems.specs.Values.{times}
use Rattle.measure.proofs.values.power.Given as goal

abbrev pub invariant-loop-left : goal.invariant-loop-left
invariant-loop-left g l =
    let empty = g.K.Measure.nothing l.kind in
    let join = g.K.Measure.joined l.kind in
    join l.done (times empty join l.left l.square) ≡ times empty join l.count l.initial.square

abbrev pub decreases-loop-left : goal.decreases-loop-left
decreases-loop-left g l = l.left
