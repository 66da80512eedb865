-- Tables of values, by the letters' numbers. Assumes nothing.
use Rattle.std.specs.Prelude.{◌≡◌, ℕ, ◌<◌, Bool, true, ◌&&◌, cond, Option, None, Some, List, [], ◌∷◌, get_or, nat_le, slice_index_or}
use Rattle.model.specs.declared.Rule.{Rule}
use Rattle.measure.specs.declared.values.FillRefusal.{FillRefusal}
use Rattle.measure.specs.declared.values.FillRefusal.TheVariants.{SmallTable, OutOfTurn}
use Rattle.model.specs.Spelling.{Word, known, spell}
use Rattle.model.specs.Witnesses.{lower}
use Rattle.systems.specs.Values.{word_value}

-- the value of a word whose letters have their values in a table; a letter past the table counts as empty
abbrev pub table_value : {V : Type 0} → V → (V → V → V) → List V → Word → V
table_value empty join table = word_value (λ a. get_or table a empty) empty join

-- the table holds, at each known letter's number, the value of what the letter spells
abbrev pub Filled : {V : Type 0} → (ℕ → V) → V → (V → V → V) → List Rule → List V → Type 0
Filled letter empty join rules table = (a : ℕ) → a < known rules → slice_index_or table a empty ≡ word_value letter empty join (spell rules a)

-- each rule is made of letters known before it
abbrev pub in_turn : List Rule → Bool
in_turn [] = true
in_turn (rule ∷ older) = lower (known older) rule && in_turn older

-- the rules are made in turn, and a table of this size has room for every known letter
abbrev pub fillable : List Rule → ℕ → Bool
fillable rules size = nat_le (known rules) size && in_turn rules

-- why a table of this size is not filled: it has no room for every known letter, or else the rules are not made in turn
abbrev pub fill_refusal : List Rule → ℕ → Option FillRefusal
fill_refusal rules size = cond (nat_le (known rules) size) (cond (in_turn rules) None (Some OutOfTurn)) (Some SmallTable)
