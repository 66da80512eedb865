-- The listing of what a witness holds, byte by byte. Assumes nothing.
--
-- letter make first second
-- #26 pair a b
-- #27 block #26 3
--
-- variable length word
-- A 0 -
-- X 7 #27,a
use Rattle.std.specs.Prelude.{ℕ, List, [], ◌∷◌, ◌++◌, length, codes, decimal}
use Rattle.model.specs.declared.Rule.{Rule}
use Rattle.model.specs.declared.Rule.TheVariants.{Pair, Block}
use Rattle.model.specs.Spelling.{Word, known, spell_word}
use Rattle.model.specs.Witnesses.{Contents, Entry}
use Rattle.text.specs.Names.{letter_name, variable_name}
use Rattle.text.specs.Pieces.{Bytes, between, lines_text}

-- fields with a space between them
abbrev pub row : Bytes → List Bytes → Bytes
row = between 32

abbrev pub letter_names : Word → List Bytes
letter_names [] = []
letter_names (a ∷ w) = letter_name a ∷ letter_names w

-- the letters with commas between them, or - for the empty word
abbrev pub word_text : Word → Bytes
word_text [] = codes "-"
word_text (a ∷ w) = between 44 (letter_name a) (letter_names w)

-- how a letter is made, as: pair a b
abbrev pub rule_fields : Rule → List Bytes
rule_fields (Pair a b) = codes "pair" ∷ letter_name a ∷ letter_name b ∷ []
rule_fields (Block a n) = codes "block" ∷ letter_name a ∷ decimal n ∷ []

-- the line of the rule that makes the letter c
abbrev pub rule_line : ℕ → Rule → Bytes
rule_line c rule = row (letter_name c) (rule_fields rule)

-- the line of a variable: its name, how many letters its word spells, the word
abbrev pub entry_line : List Rule → Entry → Bytes
entry_line rules e = row (variable_name e.variable) (decimal (length (spell_word rules e.word)) ∷ word_text e.word ∷ [])

abbrev pub rule_head : Bytes
rule_head = codes "letter make first second"

abbrev pub entry_head : Bytes
entry_head = codes "variable length word"

-- the lines of the rules, the oldest first
abbrev pub rule_lines : List Rule → List Bytes
rule_lines [] = []
rule_lines (rule ∷ older) = rule_lines older ++ (rule_line (known older) rule ∷ [])

-- the lines of the variables, as they rise
abbrev pub entry_lines : List Rule → List Entry → List Bytes
entry_lines rules [] = []
entry_lines rules (e ∷ older) = entry_lines rules older ++ (entry_line rules e ∷ [])

-- the first table, an empty line, the second table
abbrev pub lines : Contents → List Bytes
lines c = (rule_head ∷ rule_lines c.rules) ++ ([] ∷ entry_head ∷ entry_lines c.rules c.entries)

abbrev pub listing : Contents → Bytes
listing c = lines_text (lines c)
