use Rattle.systems.proofs.Examples.{worked_examples}
use Rattle.systems.proofs.worked_examples.Goals as goal

pub returns : goal.returns
returns c = worked_examples
