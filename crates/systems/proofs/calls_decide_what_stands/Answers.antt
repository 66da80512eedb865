use Rattle.systems.proofs.Determined.{calls_decide_what_stands}
use Rattle.systems.proofs.calls_decide_what_stands.Goals as goal

pub returns : goal.returns
returns c = calls_decide_what_stands
