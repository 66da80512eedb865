use Rattle.answers.proofs.Same.{one_answer}
use Rattle.answers.proofs.one_answer.Goals as goal

pub returns : goal.returns
returns c = one_answer
