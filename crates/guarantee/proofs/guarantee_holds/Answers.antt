use Rattle.guarantee.proofs.Whole.{guarantee}
use Rattle.guarantee.proofs.guarantee_holds.Goals as goal

pub returns : goal.returns
returns g c = guarantee _
