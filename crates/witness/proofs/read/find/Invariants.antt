use Rattle.std.proofs.Common.{length}
use Rattle.witness.proofs.Cutting.{Before}
use Rattle.witness.proofs.read.find.Given as goal

abbrev pub invariant-loop-seat : goal.invariant-loop-seat
invariant-loop-seat l = Before l.seats l.before l.letters l.variable l.end

abbrev pub decreases-loop-seat : goal.decreases-loop-seat
decreases-loop-seat l = length l.before
