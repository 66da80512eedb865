use Rattle.systems.proofs.Soundness.{sound_at_end}
use Rattle.systems.proofs.sound_at_end.Goals as goal

pub returns : goal.returns
returns c = sound_at_end
