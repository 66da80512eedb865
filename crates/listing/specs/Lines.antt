-- What the line of a rule or of a variable is read as. Assumes nothing.
use Rattle.std.specs.Prelude.{◌≡◌, ℕ, ◌^◌, ◌<◌, true, [], ◌∷◌, ◌++◌, Some, None, codes, decimal, Option, ◌≢◌}
use Rattle.model.specs.declared.Rule.{Rule}
use Rattle.model.specs.declared.Rule.TheVariants.{Pair, Block}
use Rattle.model.specs.Spelling.{known}
use Rattle.model.specs.Witnesses.{Contents, Entry, rule_fits, entry_fits}
use Rattle.text.specs.Names.{letter_name, variable_name}
use Rattle.text.specs.Pieces.{Bytes}
use Rattle.format.specs.Listing.{row, rule_line, entry_line}
use Rattle.witness.specs.Answers.{with_rule}

-- what follows the letter in a rule's line
abbrev pub rule_text : Rule → Bytes
rule_text (Pair a b) = row (codes "pair") (letter_name a ∷ letter_name b ∷ [])
rule_text (Block a n) = row (codes "block") (letter_name a ∷ decimal n ∷ [])

-- the letter that the line begins with and what is returned of the rest, or no letter with such a rest
abbrev pub Lettered : {T : Type 0} → (Bytes → Option T → Type 0) → Bytes → Option (ℕ × T) → Type 0
Lettered returns line None = (a : ℕ) (rest : Bytes) → a < 538 → line ≡ letter_name a ++ 32 ∷ rest → returns rest None
Lettered returns line (Some p) = (rest : Bytes) × (p.0 < 538) × (line ≡ letter_name p.0 ++ 32 ∷ rest) × returns rest (Some p.1)

-- the line is that of a rule that fits, which is the newest now
pub record Ruled (c : Contents) (line : Bytes) (d : Contents) : Type 0 where
  pub rule : Rule
  pub fit : rule_fits c.rules rule ≡ true
  pub is : line ≡ rule_line (known c.rules) rule
  pub new : d ≡ with_rule rule c

-- no rule that fits has the line
abbrev pub NoRule : Contents → Bytes → Type 0
NoRule c line = (rule : Rule) → rule_fits c.rules rule ≡ true → line ≢ rule_line (known c.rules) rule

-- the line has these three fields
pub record Fields (line : Bytes) (variable total : ℕ) (word : Bytes) : Type 0 where
  pub named : variable < 26
  pub short : total < 10 ^ 16
  pub is : line ≡ row (variable_name variable) (decimal total ∷ word ∷ [])

abbrev pub NoFields : Bytes → Type 0
NoFields line = (variable total : ℕ) (word : Bytes) → Fields line variable total word → ⊥

-- the line is that of an entry that fits, which is the newest now
pub record Kept (c : Contents) (line : Bytes) (d : Contents) : Type 0 where
  pub e : Entry
  pub fit : entry_fits c.rules c.entries e ≡ true
  pub is : line ≡ entry_line c.rules e
  pub new : d ≡ record { rules = c.rules; entries = e ∷ c.entries }
