use Rattle.std.proofs.Common.{◌≡◌, take}
use Rattle.witness.specs.Holding.{contents_of}
use Rattle.checker.specs.Popped.{lengthened_by, with_entries}
use Rattle.checker.proofs.output.add_letters.Given as goal

abbrev pub invariant-loop-letter : goal.invariant-loop-letter
invariant-loop-letter l = contents_of l.witness ≡ with_entries (contents_of l.initial.witness) (lengthened_by (take l.letter-index l.word) (contents_of l.initial.witness).entries)
