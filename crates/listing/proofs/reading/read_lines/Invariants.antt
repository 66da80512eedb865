use Rattle.std.proofs.Common.{length}
use Rattle.witness.specs.Holding.{contents_of}
use Rattle.listing.specs.Stages.{Even, Passed, state_of}
use Rattle.listing.proofs.reading.read_lines.Given as goal

abbrev pub invariant-loop-rest : goal.invariant-loop-rest
invariant-loop-rest l =
    Passed l.initial.rest l.line (state_of l.stage (contents_of l.witness)) l.rest
    × Even l.stage (contents_of l.witness)

abbrev pub decreases-loop-rest : goal.decreases-loop-rest
decreases-loop-rest l = length l.rest
