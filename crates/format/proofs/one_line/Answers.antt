use Rattle.format.proofs.Refusals.{one_line}
use Rattle.format.proofs.one_line.Goals as goal

pub returns : goal.returns
returns c = one_line
