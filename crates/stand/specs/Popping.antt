-- Parts of what a choice does: a letter popped, a rule made. Assumes nothing.
use Rattle.std.specs.Prelude.{◌≡◌, ℕ, ◌<◌, cond, [], ◌∷◌, ◌++◌, length, Some, None, Option, nat_lt}
use Rattle.model.specs.declared.Rule.{Rule}
use Rattle.model.specs.declared.Rule.TheVariants.{Pair, Block}
use Rattle.systems.specs.declared.Choice.{Choice}
use Rattle.systems.specs.declared.Choice.TheVariants.{Left, Right, Pair as PairChoice, Block as BlockChoice}
use Rattle.systems.specs.declared.ChoiceRefusal.{ChoiceRefusal}
use Rattle.systems.specs.declared.ChoiceRefusal.TheVariants.{TooManyPlaces}
use Rattle.systems.specs.declared.Pop.{Pop}
use Rattle.systems.specs.declared.Pop.TheVariants.{AtLeft, AtRight}
use Rattle.systems.specs.Choices.{swap}
use Rattle.systems.specs.Refusals.{pop_refusal}
use Rattle.systems.specs.Sides.{Side, on_sides}
use Rattle.systems.specs.Standings.{Standing}

-- the refusal that comes however many places would stand then; where there is none, only the places are left to judge, and there is room for the pop
abbrev pub RefusesBeforePlaces : Standing → ℕ → ℕ → Option ChoiceRefusal → Type 0
RefusesBeforePlaces S x a (Some why) = (n : ℕ) → pop_refusal S x a n ≡ Some why
RefusesBeforePlaces S x a None = ((n : ℕ) → pop_refusal S x a n ≡ cond (nat_lt 2048 n) (Some TooManyPlaces) None) × (length S.pops < 1024)

-- the choice that pops this letter
abbrev pub popping : Pop → Choice
popping (AtLeft x a) = Left x a
popping (AtRight x a) = Right x a

-- the choice that makes a letter by this rule
abbrev pub joining : Rule → Choice
joining (Pair a b) = PairChoice a b
joining (Block a n) = BlockChoice a n

-- what stands with a row for x and one more pop
abbrev pub with_pop : Standing → ℕ → Side → Pop → Standing
with_pop S x row pop = record { equations = on_sides (swap x row) S.equations; rules = S.rules; pops = S.pops ++ (pop ∷ []) }

-- what stands with one more rule
abbrev pub with_rule : Standing → Rule → Standing
with_rule S rule = record { equations = S.equations; rules = rule ∷ S.rules; pops = S.pops }
