use Rattle.answers.proofs.Before.{refused_rightly}
use Rattle.answers.proofs.refused_rightly.Goals as goal

pub returns : goal.returns
returns c = refused_rightly
