use Rattle.std.proofs.Common.{◌≡◌, drop}
use Rattle.letters.specs.Holding.{rules_of}
use Rattle.model.specs.Spelling.{spell_word}
use Rattle.witness.proofs.spelling.scan.Given as goal

abbrev pub invariant-loop-index : goal.invariant-loop-index
invariant-loop-index l = drop l.place (spell_word (rules_of l.letters) l.word) ≡ drop l.skip (spell_word (rules_of l.letters) (drop l.index l.word))
