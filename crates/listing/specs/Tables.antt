-- The line of one variable, and the variables below a bound. Assumes nothing.
use Rattle.std.specs.Prelude.{ℕ, cond, List, [], ◌∷◌, ◌++◌, Some, None, Option, nat_lt}
use Rattle.model.specs.Spelling.{Word}
use Rattle.model.specs.Witnesses.{Contents, Entry, word_of}
use Rattle.text.specs.Pieces.{Bytes}
use Rattle.format.specs.Listing.{entry_line}

abbrev pub entry_of : ℕ → Word → Entry
entry_of x w = record { variable = x; word = w }

-- the line of the variable x with the newline, if there is a word
abbrev pub line_of : Contents → ℕ → Option Word → Bytes
line_of c x None = []
line_of c x (Some w) = entry_line c.rules (entry_of x w) ++ 10 ∷ []

abbrev pub variable_text : Contents → ℕ → Bytes
variable_text c x = line_of c x (word_of c.entries x)

-- the entries of the variables below n, where variables rise
abbrev pub below : ℕ → List Entry → List Entry
below n [] = []
below n (e ∷ older) = cond (nat_lt e.variable n) (e ∷ older) (below n older)
