-- Letters in a row, and where a place of what they spell is found. Assumes nothing.
use Rattle.std.specs.Prelude.{◌≡◌, ℕ, ◌<◌, ◌≤◌, List, [], ◌∷◌, length, drop, replicate, slice_index}
use Rattle.model.specs.declared.Rule.{Rule}
use Rattle.model.specs.declared.Rule.TheVariants.{Pair, Block}
use Rattle.model.specs.Spelling.{Word, spell, spell_word}

-- the letters that a rule puts in a row
abbrev pub parts : Rule → Word
parts (Pair a b) = a ∷ b ∷ []
parts (Block a n) = replicate n a

-- the place counted from the start of what w spells is the place `skip` counted from the start of what its letters from `index` on spell
pub record Found (rules : List Rule) (w : Word) (place index skip : ℕ) : Type 0 where
  pub within : index ≤ length w
  pub left : drop place (spell_word rules w) ≡ drop skip (spell_word rules (drop index w))
  pub inside : index < length w → skip < length (spell rules (slice_index w index))
