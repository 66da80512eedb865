-- The writer's list as a function of the state: turn by turn. Assumes nothing.
use Rattle.std.specs.Prelude.{ℕ, zero, suc, cond, List, [], ◌∷◌, Some, None, Option, nat_eq}
use Rattle.model.specs.Spelling.{Word}
use Rattle.systems.specs.declared.Choice.TheVariants.{Left}
use Rattle.writing.specs.Counting.{counted_lengths}
use Rattle.writing.specs.Writer.{State, Part, then, erasures, filled_sides, first_live, follow, join_blocks, join_pair, pop_rows}

-- the lengths of the rows behind the pops
abbrev pub block_lengths : ℕ → State → List ℕ
block_lengths a st = counted_lengths a (filled_sides (follow st (pop_rows a st)))

-- the turn of the first live variable x, by its word
abbrev pub turn : ℕ → Word → Part
turn x [] st = []
turn x (a ∷ []) st = Left x a ∷ []
turn x (a ∷ (b ∷ w)) st = cond (nat_eq a b) (join_blocks a (block_lengths a st) st) (join_pair a b st)

abbrev pub turn_of : ℕ → Part
turn_of x st = turn x (st.words x) st

-- from a state on where no live variable's word is empty: the turn of the first one, if there is one, and then a part
abbrev pub on_first : Option ℕ → Part → Part
on_first None q st = []
on_first (Some x) q st = then (turn_of x) q st

-- so many turns at most, each with the erasures behind it
abbrev pub turns : ℕ → Part
turns zero st = []
turns (suc fuel) st = on_first (first_live st) (then erasures (turns fuel)) st

-- the list of so many rounds at most
abbrev pub list_of : ℕ → Part
list_of fuel = then erasures (turns fuel)

-- more than there can be; the number is kept shut
unfoldable pub turns_enough : ℕ
turns_enough = 1051
