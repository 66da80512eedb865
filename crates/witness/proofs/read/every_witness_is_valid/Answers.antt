use Rattle.witness.proofs.Keeping.{always_valid}
use Rattle.witness.proofs.read.every_witness_is_valid.Goals as goal

pub returns : goal.returns
returns c = always_valid
