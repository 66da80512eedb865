use Rattle.model.proofs.Fitting.{spell_basic}
use Rattle.model.proofs.spelling_ends_in_a_to_z.Goals as goal

pub returns : goal.returns
returns c = spell_basic
