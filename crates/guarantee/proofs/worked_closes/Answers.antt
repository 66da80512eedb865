use Rattle.guarantee.proofs.Examples.{worked_closes}
use Rattle.guarantee.proofs.worked_closes.Goals as goal

pub returns : goal.returns
returns c = worked_closes
