use Rattle.model.proofs.Spelling.{lengths}
use Rattle.model.proofs.lengths_follow_rules.Goals as goal

pub returns : goal.returns
returns c = lengths
