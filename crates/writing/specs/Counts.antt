-- What the length of the list is measured by. Assumes nothing.
use Rattle.std.specs.Prelude.{ℕ, ◌+◌, cond, length}
use Rattle.writing.specs.Writer.{State, lives, variables, filled_sides, total, letters}

-- L, the letters of the filled-in sides
abbrev pub side_letters : State → ℕ
side_letters st = letters (filled_sides st)

-- N, the letters in the words of the live variables; where nothing is chosen yet, these are the variables of the system
abbrev pub word_letters : State → ℕ
word_letters st = total (λ x. cond (lives st x) (length (st.words x)) 0) variables

-- V, the number of these
abbrev pub live_count : State → ℕ
live_count st = total (λ x. cond (lives st x) 1 0) variables

-- their sum, which each choice makes smaller
abbrev pub weight : State → ℕ
weight st = letters (filled_sides st) + word_letters st + live_count st
