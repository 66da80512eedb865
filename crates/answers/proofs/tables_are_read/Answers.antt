use Rattle.answers.proofs.Read.{tables_are_read}
use Rattle.answers.proofs.tables_are_read.Goals as goal

pub returns : goal.returns
returns c = tables_are_read
