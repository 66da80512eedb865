use Rattle.std.proofs.Common.{[], ◌∷◌, arith}
use Rattle.length.specs.Theorems.{ValueIsCappedLength}
use Rattle.length.proofs.kind.value_is_capped_length.Goals as goal

counted : ValueIsCappedLength
counted [] = omega arith
counted (a ∷ w) = let rest = counted w in omega arith

pub returns : goal.returns
returns c = counted
