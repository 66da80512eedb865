use Rattle.worked.proofs.Whole.{worked_systems}
use Rattle.worked.proofs.worked_systems.Goals as goal

pub returns : goal.returns
returns c = worked_systems
