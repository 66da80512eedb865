-- What each choice does where it is taken. Assumes nothing.
use Rattle.std.specs.Prelude.{ℕ, cond, List, [], ◌∷◌, ◌++◌, ◌==◌}
use Rattle.std.specs.List.{flat_map}
use Rattle.model.specs.declared.Rule.{Rule}
use Rattle.model.specs.declared.Rule.TheVariants.{Pair as PairRule, Block as BlockRule}
use Rattle.systems.specs.declared.Place.{Place}
use Rattle.systems.specs.declared.Place.TheVariants.{Letter, Variable}
use Rattle.systems.specs.declared.Choice.{Choice}
use Rattle.systems.specs.declared.Choice.TheVariants.{Left, Right, Erase, Pair, Block}
use Rattle.systems.specs.declared.Pop.{Pop}
use Rattle.systems.specs.declared.Pop.TheVariants.{AtLeft, AtRight}
use Rattle.systems.specs.Sides.{Side, on_sides, side_pairs, side_blocks}
use Rattle.systems.specs.Standings.{Standing, fresh}

-- what becomes of a place where the variable x becomes the row v
abbrev pub swapped : ℕ → Side → Place → Side
swapped x v (Letter a) = Letter a ∷ []
swapped x v (Variable y) = cond (x == y) v (Variable y ∷ [])

-- the same in every place of a side
abbrev pub swap : ℕ → Side → Side → Side
swap x v = flat_map (swapped x v)

-- what a choice does to a side, where c is the letter that the next rule makes
abbrev pub effect : Choice → ℕ → Side → Side
effect (Left x a) c = swap x (Letter a ∷ Variable x ∷ [])
effect (Right x a) c = swap x (Variable x ∷ Letter a ∷ [])
effect (Erase x) c = swap x []
effect (Pair a b) c = side_pairs a b c
effect (Block a n) c = side_blocks a n c

-- the rule that it makes, even where nothing was replaced
abbrev pub new_rules : Choice → List Rule
new_rules (Left x a) = []
new_rules (Right x a) = []
new_rules (Erase x) = []
new_rules (Pair a b) = PairRule a b ∷ []
new_rules (Block a n) = BlockRule a n ∷ []

-- the pop that it notes
abbrev pub new_pops : Choice → List Pop
new_pops (Left x a) = AtLeft x a ∷ []
new_pops (Right x a) = AtRight x a ∷ []
new_pops (Erase x) = []
new_pops (Pair a b) = []
new_pops (Block a n) = []

-- what stands once the choice is taken
abbrev pub taken : Standing → Choice → Standing
taken S choice = record {
  equations = on_sides (effect choice (fresh S)) S.equations;
  rules = new_rules choice ++ S.rules;
  pops = S.pops ++ new_pops choice;
}
