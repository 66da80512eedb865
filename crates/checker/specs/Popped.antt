-- The words that were popped, and a witness that gets them. Assumes nothing.
use Rattle.std.specs.Prelude.{ℕ, List, [], ◌∷◌, ◌++◌}
use Rattle.model.specs.Spelling.{Word}
use Rattle.model.specs.Witnesses.{Contents, Entry}
use Rattle.systems.specs.declared.Pop.{Pop}
use Rattle.systems.specs.Standings.{popped_word}

-- the word of x that these pops took: the letters popped left in order, then those popped right in reverse
abbrev pub word_from : List Pop → ℕ → Word
word_from pops x = popped_word (record { equations = []; rules = []; pops = pops }) x

-- the newest word with these letters too
abbrev pub lengthened_by : Word → List Entry → List Entry
lengthened_by w [] = []
lengthened_by w (e ∷ older) = record { variable = e.variable; word = e.word ++ w } ∷ older

-- the contents with these entries
abbrev pub with_entries : Contents → List Entry → Contents
with_entries c entries = record { rules = c.rules; entries = entries }
