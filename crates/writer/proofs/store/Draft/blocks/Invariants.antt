use Rattle.writer.specs.Following.{Does}
use Rattle.writer.proofs.Following.{upto}
use Rattle.writer.proofs.Rowing.{block_at}
use Rattle.writer.proofs.store.Draft.blocks.Given as goal

abbrev pub invariant-loop-n : goal.invariant-loop-n
invariant-loop-n l = Does (upto (block_at l.a l.noted) 2 l.n) l.initial.self l.self
