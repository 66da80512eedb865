-- The words with which the lines of the third table begin, and what stands behind them. Assumes nothing.
use Rattle.std.specs.Prelude.{◌≡◌, ℕ, ◌^◌, ◌<◌, ◌⊎◌, [], ◌∷◌, codes, decimal}
use Rattle.systems.specs.declared.Choice.{Choice}
use Rattle.text.specs.declared.part.Part.{Part}
use Rattle.text.specs.Names.{letter_name, variable_name}
use Rattle.text.specs.Pieces.{Bytes}
use Rattle.tables.specs.declared.choices.Verb.{Verb}
use Rattle.tables.specs.declared.choices.Verb.TheVariants.{Left, Right, Erase, Pair, Block}
use Rattle.tables.specs.declared.types.LineRefusal.{LineRefusal}
use Rattle.tables.specs.declared.types.LineRefusal.TheVariants.{Unreadable}
use Rattle.tables.specs.Rows.{IsChoice, choice_fields}

abbrev pub verb_text : Verb → Bytes
verb_text Left = codes "left"
verb_text Right = codes "right"
verb_text Erase = codes "erase"
verb_text Pair = codes "pair"
verb_text Block = codes "block"

-- any verb
abbrev pub Any : Verb → Type 0
Any verb = Unit {0}

-- a variable, a letter that may be made, a number of at most seven digits
abbrev pub NamesVariable : Bytes → Type 0
NamesVariable field = (x : ℕ) × (x < 26) × (field ≡ variable_name x)

abbrev pub NamesLetter : Bytes → Type 0
NamesLetter field = (a : ℕ) × (a < 538) × (field ≡ letter_name a)

abbrev pub IsCount : Bytes → Type 0
IsCount field = (n : ℕ) × (n < 10 ^ 7) × (field ≡ decimal n)

-- what may stand in the field behind the verb
abbrev pub IsFirst : Verb → Bytes → Type 0
IsFirst Left field = NamesVariable field
IsFirst Right field = NamesVariable field
IsFirst Erase field = NamesVariable field
IsFirst Pair field = NamesLetter field
IsFirst Block field = NamesLetter field

-- and in the last
abbrev pub IsSecond : Verb → Bytes → Type 0
IsSecond Left field = NamesLetter field
IsSecond Right field = NamesLetter field
IsSecond Erase field = field ≡ codes "-"
IsSecond Pair field = NamesLetter field
IsSecond Block field = IsCount field

-- the choice is the one of these fields
abbrev pub Argued : Verb → Bytes → Bytes → Choice → Type 0
Argued verb second third choice = IsChoice choice × (choice_fields choice ≡ verb_text verb ∷ second ∷ third ∷ [])

-- the first of them that may not stand there is named
abbrev pub Unargued : Verb → Part → Part → LineRefusal → Type 0
Unargued verb second third why =
    ((why ≡ Unreadable second.place) × (IsFirst verb second.bytes.now → ⊥))
    ⊎ ((why ≡ Unreadable third.place) × IsFirst verb second.bytes.now × (IsSecond verb third.bytes.now → ⊥))
