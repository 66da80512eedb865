-- What the combined kinds measure. Assumes nothing.
use Rattle.std.specs.Prelude.{◌≡◌, ℕ, Bool, true, false, not}
use Rattle.model.specs.Spelling.{Word}
use Rattle.measure.specs.Sets.{holds}
use Rattle.systems.specs.Values.{word_value}
use Rattle.combined.specs.Pairs.{pair, pair_join}
use Rattle.combined.specs.Turning.{turned_for}

-- under two kinds with values in V and W the value of a word is the pair of its values
abbrev pub ValueIsPair : Type 0 → Type 0 → Type 0
ValueIsPair V W = (f : ℕ → V) (e : V) (j : V → V → V) (g : ℕ → W) (u : W) (k : W → W → W) (w : Word)
    → word_value (λ a. pair (f a) (g a)) (pair e u) (pair_join j k) w ≡ pair (word_value f e j w) (word_value g u k w)

-- the answer is the other one for a variable of the set, and the same for another
pub record PassAndFailChangePlaces : Type 0 where
  pub its_own : (set v : ℕ) (pass : Bool) → holds set v ≡ true → turned_for set v pass ≡ not pass
  pub others : (set v : ℕ) (pass : Bool) → holds set v ≡ false → turned_for set v pass ≡ pass
