use Rattle.std.proofs.Common.{map}
use Rattle.witness.specs.Holding.{contents_of}
use Rattle.listing.specs.Words.{Midway}
use Rattle.listing.proofs.words.read_word.Given as goal

abbrev pub invariant-loop-piece : goal.invariant-loop-piece
invariant-loop-piece l = Midway (contents_of l.initial.witness) (map (λ x. x.now) l.yielded) (contents_of l.witness)
