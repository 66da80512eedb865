use Rattle.model.proofs.Spelling.{spell_kept}
use Rattle.model.proofs.later_rules_keep_spelling.Goals as goal

pub returns : goal.returns
returns c = spell_kept
