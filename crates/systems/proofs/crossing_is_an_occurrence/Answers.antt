use Rattle.systems.proofs.Occurring.{crossing_is_an_occurrence}
use Rattle.systems.proofs.crossing_is_an_occurrence.Goals as goal

pub returns : goal.returns
returns c = crossing_is_an_occurrence
