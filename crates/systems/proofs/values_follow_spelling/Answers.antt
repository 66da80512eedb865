use Rattle.systems.proofs.Values.{values_follow_spelling}
use Rattle.systems.proofs.values_follow_spelling.Goals as goal

pub returns : goal.returns
returns g c = values_follow_spelling _
