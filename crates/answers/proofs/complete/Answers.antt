use Rattle.answers.proofs.Needless.{complete}
use Rattle.answers.proofs.complete.Goals as goal

pub returns : goal.returns
returns c = complete
