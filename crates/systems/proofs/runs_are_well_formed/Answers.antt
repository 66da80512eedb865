use Rattle.systems.proofs.Forming.{runs_are_well_formed}
use Rattle.systems.proofs.runs_are_well_formed.Goals as goal

pub returns : goal.returns
returns c = runs_are_well_formed
