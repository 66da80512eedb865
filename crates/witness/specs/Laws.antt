-- What every witness keeps. Assumes nothing.
use Rattle.std.specs.Prelude.{◌≡◌, true}
use Rattle.model.specs.Witnesses.{valid}
use Rattle.witness.specs.Holding.{contents_of}
use Rattle.witness.specs.declared.store.Witness.{Witness}

-- rules and words within their limits, letters known, variables rising: whatever calls led to it
abbrev pub EveryWitnessIsValid : Type 0
EveryWitnessIsValid = (w : Witness) → valid (contents_of w) ≡ true
