use Rattle.writing.specs.Writer.{erase_empty}
use Rattle.writer.specs.Following.{Does}
use Rattle.writer.proofs.Following.{upto}
use Rattle.writer.proofs.store.Draft.erase_all.Given as goal

abbrev pub invariant-loop-x : goal.invariant-loop-x
invariant-loop-x l = Does (upto erase_empty 0 l.x) l.initial.self l.self
