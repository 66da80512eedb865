use Rattle.writing.specs.Writer.{for_block}
use Rattle.writer.specs.Following.{Does}
use Rattle.writer.proofs.Following.{upto}
use Rattle.writer.proofs.store.Draft.prepare_blocks.Given as goal

abbrev pub invariant-loop-x : goal.invariant-loop-x
invariant-loop-x l = Does (upto (for_block l.a) 0 l.x) l.initial.self l.self
