use Rattle.systems.proofs.Keeping.{complete}
use Rattle.systems.proofs.complete.Goals as goal

pub returns : goal.returns
returns c = complete
