use Rattle.witness.proofs.spelling.+letter_at.Given as goal

abbrev pub decreases-letter_at : goal.decreases-letter_at
decreases-letter_at l = l.letter
