-- What a witness answers, and when a word or a letter may be added to it. Assumes nothing.
use Rattle.std.specs.Prelude.{ℕ, ◌+◌, cond, List, [], ◌∷◌, ◌++◌, map, length, take, drop, Some, None, Ok, Err, Option, Result, nat_le, nat_lt, slice_index}
use Rattle.model.specs.declared.Rule.{Rule}
use Rattle.model.specs.Spelling.{Word, known}
use Rattle.model.specs.Witnesses.{Contents, Entry, least, letters_in}
use Rattle.witness.specs.declared.refusals.LetterRefusal.{LetterRefusal}
use Rattle.witness.specs.declared.refusals.LetterRefusal.TheVariants.{NoWord, UnknownLetter, TooManyLetters}
use Rattle.witness.specs.declared.refusals.WitnessRefusal.{WitnessRefusal}
use Rattle.witness.specs.declared.refusals.WitnessRefusal.TheVariants.{Absent, PastWord}
use Rattle.witness.specs.declared.refusals.WordRefusal.{WordRefusal}
use Rattle.witness.specs.declared.refusals.WordRefusal.TheVariants.{NoSuchVariable, NotRising}

-- the contents with one more rule, an empty word for a variable, one more letter at the newest word
abbrev pub with_rule : Rule → Contents → Contents
with_rule rule c = record { rules = rule ∷ c.rules; entries = c.entries }

abbrev pub with_word : ℕ → Contents → Contents
with_word x c = record { rules = c.rules; entries = record { variable = x; word = [] } ∷ c.entries }

abbrev pub lengthened : ℕ → List Entry → List Entry
lengthened a [] = []
lengthened a (e ∷ older) = record { variable = e.variable; word = e.word ++ (a ∷ []) } ∷ older

abbrev pub with_letter : ℕ → Contents → Contents
with_letter a c = record { rules = c.rules; entries = lengthened a c.entries }

-- the first reason why a word for the variable x may not be started
abbrev pub word_refusal : Contents → ℕ → Option WordRefusal
word_refusal c x = cond (nat_le 26 x) (Some NoSuchVariable) (cond (nat_lt x (least c.entries)) (Some NotRising) None)

-- the first reason why the letter a may not be added to the newest word
abbrev pub letter_refusal : Contents → ℕ → Option LetterRefusal
letter_refusal c a =
    cond (nat_le (length c.entries) 0) (Some NoWord)
    (cond (nat_le (known c.rules) a) (Some UnknownLetter)
    (cond (nat_le 1024 (letters_in c.entries)) (Some TooManyLetters)
    None))

-- the answers about the word over a to z that a variable's word spells, if the variable has a word
abbrev pub length_answer : Option Word → Result ℕ WitnessRefusal
length_answer None = Err Absent
length_answer (Some w) = Ok (length w)

abbrev pub letter_answer : Option Word → ℕ → Result ℕ WitnessRefusal
letter_answer None place = Err Absent
letter_answer (Some w) place = cond (nat_lt place (length w)) (Ok (slice_index w place)) (Err PastWord)

-- of a buffer of n bytes that is to be filled from the place `start` on
abbrev pub fill_answer : Option Word → ℕ → ℕ → Result (Unit {0}) WitnessRefusal
fill_answer None start n = Err Absent
fill_answer (Some w) start n = cond (nat_le (start + n) (length w)) (Ok tt) (Err PastWord)

-- letters 0 to 25 as the bytes a to z
abbrev pub as_text : Word → List ℕ
as_text = map (λ a. 97 + a)

-- what the buffer holds then: the letters of that stretch, or what it held
abbrev pub filled : Option Word → ℕ → List ℕ → List ℕ
filled None start old = old
filled (Some w) start old = cond (nat_le (start + length old) (length w)) (as_text (take (length old) (drop start w))) old
