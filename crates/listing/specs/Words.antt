-- A word as its letters are read one after another. Assumes nothing.
use Rattle.std.specs.Prelude.{◌≡◌, ℕ, ◌+◌, ◌<◌, ◌≤◌, true, List, [], ◌∷◌, ◌++◌, length, ◌≢◌}
use Rattle.model.specs.Spelling.{Word, known}
use Rattle.model.specs.Witnesses.{Contents, Entry, all_below, letters_in}
use Rattle.text.specs.Names.{letter_name}
use Rattle.text.specs.Pieces.{Bytes}
use Rattle.format.specs.Listing.{letter_names, word_text}
use Rattle.witness.specs.Answers.{with_letter}

-- the letters, each with a comma before it
abbrev pub names_after : Word → Bytes
names_after [] = []
names_after (a ∷ w) = (44 ∷ letter_name a) ++ names_after w

-- the newest word with more letters
abbrev pub grown : Word → List Entry → List Entry
grown w [] = []
grown w (e ∷ older) = record { variable = e.variable; word = e.word ++ w } ∷ older

abbrev pub with_letters : Word → Contents → Contents
with_letters w c = record { rules = c.rules; entries = grown w c.entries }

-- the piece names a letter, which is the last of the newest word now
pub record Pushed (c : Contents) (piece : Bytes) (d : Contents) : Type 0 where
  pub a : ℕ
  pub low : a < known c.rules
  pub is : piece ≡ letter_name a
  pub new : d ≡ with_letter a c

-- it names none that may come
abbrev pub NotPushed : Contents → Bytes → Type 0
NotPushed c piece = (a : ℕ) → a < known c.rules → letters_in c.entries < 1024 → piece ≢ letter_name a

-- the pieces are the names of letters, which are the last of the newest word now
pub record Midway (c : Contents) (pieces : List Bytes) (d : Contents) : Type 0 where
  pub done : Word
  pub low : all_below (known c.rules) done ≡ true
  pub named : pieces ≡ letter_names done
  pub new : d ≡ with_letters done c

-- the field is a word, whose letters are the last of the newest word now
pub record Worded (c : Contents) (field : Bytes) (d : Contents) : Type 0 where
  pub w : Word
  pub is : field ≡ word_text w
  pub new : d ≡ with_letters w c

-- it is none that may come
abbrev pub NotWorded : Contents → Bytes → Type 0
NotWorded c field = (w : Word) → all_below (known c.rules) w ≡ true → length w + letters_in c.entries ≤ 1024 → field ≢ word_text w
