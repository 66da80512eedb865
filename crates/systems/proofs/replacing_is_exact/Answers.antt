use Rattle.systems.proofs.Exact.{replacing_is_exact}
use Rattle.systems.proofs.replacing_is_exact.Goals as goal

pub returns : goal.returns
returns c = replacing_is_exact
