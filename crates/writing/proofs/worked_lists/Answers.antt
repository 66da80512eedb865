use Rattle.writing.proofs.Examples.{worked_lists}
use Rattle.writing.proofs.worked_lists.Goals as goal

pub returns : goal.returns
returns c = worked_lists
