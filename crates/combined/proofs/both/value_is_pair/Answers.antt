use Rattle.std.proofs.Common.{[], ◌∷◌, refl, ap}
use Rattle.combined.specs.Pairs.{pair, pair_join}
use Rattle.combined.specs.Theorems.{ValueIsPair}
use Rattle.combined.proofs.both.value_is_pair.Goals as goal

paired : (V W : Type 0) → ValueIsPair V W
paired V W f e j g u k [] = refl
paired V W f e j g u k (a ∷ w) = ap (pair_join j k (pair (f a) (g a))) (paired V W f e j g u k w)

pub returns : goal.returns
returns g c = paired _ _
