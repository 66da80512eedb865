use Rattle.format.proofs.Runs.{one_contents}
use Rattle.format.proofs.one_contents.Goals as goal

pub returns : goal.returns
returns c = one_contents
