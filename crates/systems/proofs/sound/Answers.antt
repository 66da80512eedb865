use Rattle.systems.proofs.Soundness.{sound}
use Rattle.systems.proofs.sound.Goals as goal

pub returns : goal.returns
returns c = sound
