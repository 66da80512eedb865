-- The words that seats cut out of one list of letters, the newest seat first. Assumes nothing.
use Rattle.std.specs.Prelude.{◌≡◌, ℕ, ◌+◌, ◌<◌, Bool, ◌&&◌, List, [], ◌∷◌, length, take, drop, ◌==◌, nat_le, slice_index}
use Rattle.model.specs.declared.Rule.{Rule}
use Rattle.model.specs.Spelling.{Word, spell_word}
use Rattle.model.specs.Witnesses.{Entry}
use Rattle.witness.specs.declared.seats.Seat.{Seat}
use Rattle.std.specs.declared.ops.Range.{Range}

-- the newest word goes to the end of the letters, and an older one to where the next starts
abbrev pub entries : List Seat → Word → List Entry
entries [] letters = []
entries (seat ∷ older) letters = record { variable = seat.variable; word = drop seat.start letters } ∷ entries older (take seat.start letters)

-- the starts rise from 0 to at most n, so that each of n letters lies in a word
abbrev pub tight : ℕ → List Seat → Bool
tight n [] = n == 0
tight n (seat ∷ older) = nat_le seat.start n && tight seat.start older

-- the letters of a word: those from its start to its end
abbrev pub cut_out : Range ℕ → Word → Word
cut_out span letters = drop span.start (take span.end letters)

-- beside each letter stands how many letters those up to it spell
abbrev pub Counted : List Rule → Word → List ℕ → Type 0
Counted rules letters ends = (i : ℕ) → i < length letters → slice_index ends i ≡ length (spell_word rules (take (i + 1) letters))
