use Rattle.writing.specs.Writer.{for_pair}
use Rattle.writer.specs.Following.{Does}
use Rattle.writer.proofs.Following.{upto}
use Rattle.writer.proofs.store.Draft.prepare_pairs.Given as goal

abbrev pub invariant-loop-x : goal.invariant-loop-x
invariant-loop-x l = Does (upto (for_pair l.a l.b) 0 l.x) l.initial.self l.self
