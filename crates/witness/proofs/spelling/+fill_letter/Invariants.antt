use Rattle.letters.specs.Holding.{rules_of}
use Rattle.witness.specs.Rows.{parts}
use Rattle.witness.proofs.Filling.{Filling}
use Rattle.witness.proofs.spelling.+fill_letter.Given as goal

abbrev pub decreases-fill_letter : goal.decreases-fill_letter
decreases-fill_letter l = l.letter

abbrev pub invariant-loop-i : goal.invariant-loop-i
invariant-loop-i l = Filling (rules_of l.letters) (parts l.rule) l.start l.initial.out l.at l.i l.skip l.out l.end
