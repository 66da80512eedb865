use Rattle.answers.proofs.Listed.{listed_exactly}
use Rattle.answers.proofs.listed_exactly.Goals as goal

pub returns : goal.returns
returns c = listed_exactly
