use Rattle.std.proofs.Common.{◌+◌}
use Rattle.letters.specs.Holding.{rules_of}
use Rattle.witness.proofs.Filling.{Filling}
use Rattle.witness.proofs.spelling.fill_word.Given as goal

abbrev pub invariant-loop-letter : goal.invariant-loop-letter
invariant-loop-letter l = Filling (rules_of l.letters) l.word l.start l.initial.out 0 (l.fn.spot.index + l.letter-index) l.skip l.out l.end
