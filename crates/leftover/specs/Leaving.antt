-- What is left of a word, where the variable is live, and what a rule makes of it. Assumes nothing.
use Rattle.std.specs.Prelude.{ℕ, Bool, false, cond, nat_eq, [], ◌∷◌, length, Some, None, Option}
use Rattle.model.specs.declared.Rule.{Rule}
use Rattle.model.specs.declared.Rule.TheVariants.{Pair, Block}
use Rattle.model.specs.Spelling.{Word}
use Rattle.systems.specs.Sides.{Side, side_blocks, side_pairs, word_blocks, word_pairs}
use Rattle.writing.specs.Writer.{begins, ends, empty}

-- there is a word, and its first letter is a, its last is a, it has none
abbrev pub begins_with : ℕ → Option Word → Bool
begins_with a None = false
begins_with a (Some w) = begins a w

abbrev pub ends_with : ℕ → Option Word → Bool
ends_with a None = false
ends_with a (Some w) = ends a w

abbrev pub is_emptied : Option Word → Bool
is_emptied None = false
is_emptied (Some w) = empty w

-- how many letters it has
abbrev pub length_of : Option Word → ℕ
length_of None = 0
length_of (Some w) = length w

-- its first letter and its second, as far as there are such
abbrev pub two_of : Option Word → Option (ℕ × Option ℕ)
two_of None = None
two_of (Some []) = None
two_of (Some (a ∷ [])) = Some (a, None)
two_of (Some (a ∷ (b ∷ w))) = Some (a, Some b)

-- what a rule, as the letter c, makes of a word and of a side; a block of no letter is none
abbrev pub joined_word : Rule → ℕ → Word → Word
joined_word (Pair a b) c w = word_pairs a b c w
joined_word (Block a n) c w = cond (nat_eq n 0) w (word_blocks a n c w)

abbrev pub joined_side : Rule → ℕ → Side → Side
joined_side (Pair a b) c s = side_pairs a b c s
joined_side (Block a n) c s = cond (nat_eq n 0) s (side_blocks a n c s)
