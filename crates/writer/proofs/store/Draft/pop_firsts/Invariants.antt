use Rattle.writing.specs.Writer.{pop_first}
use Rattle.writer.specs.Following.{Does}
use Rattle.writer.proofs.Following.{upto}
use Rattle.writer.proofs.store.Draft.pop_firsts.Given as goal

abbrev pub invariant-loop : goal.invariant-loop
invariant-loop l = Does (upto (λ _. pop_first l.a l.x) 0 l.counter) l.initial.self l.self
