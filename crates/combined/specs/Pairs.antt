-- Pairs of values, and their laws. Assumes nothing.
use Rattle.systems.specs.Values.{Associative, Neutral}
use Rattle.combined.specs.declared.pair.Pair.{Pair}

abbrev pub pair : {V W : Type 0} → V → W → Pair V W
pair x y = record { first = x; second = y }

-- each part joined by its own join
abbrev pub pair_join : {V W : Type 0} → (V → V → V) → (W → W → W) → Pair V W → Pair V W → Pair V W
pair_join f g x y = pair (f x.first y.first) (g x.second y.second)

pub pair_associative : {V W : Type 0} {f : V → V → V} {g : W → W → W} → Associative f → Associative g → Associative (pair_join f g)
pair_associative p q = record { associates = λ x y z. λ i. pair (p.associates x.first y.first z.first i) (q.associates x.second y.second z.second i) }

pub pair_neutral : {V W : Type 0} {e : V} {f : V → V → V} {u : W} {g : W → W → W} → Neutral e f → Neutral u g → Neutral (pair e u) (pair_join f g)
pair_neutral p q = record {
  left = λ x. λ i. pair (p.left x.first i) (q.left x.second i);
  right = λ x. λ i. pair (p.right x.first i) (q.right x.second i);
}
