-- What stands: the equations, the rules of the made letters, and the letters popped. Assumes nothing.
use Rattle.std.specs.Prelude.{ℕ, Bool, cond, List, [], ◌∷◌, ◌++◌, reverse, ◌==◌}
use Rattle.std.specs.List.{flat_map}
use Rattle.model.specs.declared.Rule.{Rule}
use Rattle.model.specs.Spelling.{Word, known, spell_word}
use Rattle.systems.specs.declared.Pop.{Pop}
use Rattle.systems.specs.declared.Pop.TheVariants.{AtLeft, AtRight}
use Rattle.systems.specs.Sides.{Equation, stands_in, Words}

-- the rules stand newest first, the equations and the pops in the order in which they came
pub record Standing : Type 0 where
  pub equations : List Equation
  pub rules : List Rule
  pub pops : List Pop

-- nothing is loaded, made or popped
abbrev pub new : Standing
new = record { equations = []; rules = []; pops = [] }

-- the letter that the next rule makes; the letters below it are known
abbrev pub fresh : Standing → ℕ
fresh S = known S.rules

-- the variable x stands in an equation
abbrev pub live : Standing → ℕ → Bool
live S = stands_in S.equations

-- the letter that this pop took at the left of x, if it did
abbrev pub left_of : ℕ → Pop → Word
left_of x (AtLeft y a) = cond (y == x) (a ∷ []) []
left_of x (AtRight y a) = []

-- and at the right
abbrev pub right_of : ℕ → Pop → Word
right_of x (AtLeft y a) = []
right_of x (AtRight y a) = cond (y == x) (a ∷ []) []

-- the letters popped at the left of x, in order
abbrev pub lefts : Standing → ℕ → Word
lefts S x = flat_map (left_of x) S.pops

-- the letters popped at the right of x, in order
abbrev pub rights : Standing → ℕ → Word
rights S x = flat_map (right_of x) S.pops

-- the word w of x, with what was popped set around it: the letters popped left in order, w, the letters popped right in reverse
abbrev pub around : Standing → ℕ → Word → Word
around S x w = lefts S x ++ (w ++ reverse (rights S x))

-- the whole word that each variable spells, where τ has what is left of it
abbrev pub whole : Standing → Words → Words
whole S τ x = spell_word S.rules (around S x (τ x))

-- the word of x where nothing is left of it
abbrev pub popped_word : Standing → ℕ → Word
popped_word S x = around S x []
