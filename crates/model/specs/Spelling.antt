-- Words, rules, and the word over a to z that a letter spells. Assumes nothing.
use Rattle.std.specs.Prelude.{ℕ, zero, suc, ◌+◌, cond, List, [], ◌∷◌, ◌++◌, length, Some, None, Option, ◌==◌}
use Rattle.std.specs.List.{flat_map}
use Rattle.model.specs.declared.Rule.{Rule}
use Rattle.model.specs.declared.Rule.TheVariants.{Pair, Block}

-- letters by their numbers
abbrev pub Word : Type 0
Word = List ℕ

-- n times the word w
abbrev pub copies : ℕ → Word → Word
copies zero w = []
copies (suc n) w = w ++ copies n w

-- how many letters there are once the rules are made: a to z, and one for each rule. The next rule makes the letter of this number.
-- Rules stand newest first, so that the list behind a rule holds just the older ones
abbrev pub known : List Rule → ℕ
known rules = 26 + length rules

-- what a rule stands for, where `of` gives what each of its letters stands for
abbrev pub expand : (ℕ → Word) → Rule → Word
expand of (Pair a b) = of a ++ of b
expand of (Block a n) = copies n (of a)

-- what the letter c spells: the rules applied until only a to z remain
abbrev pub spell : List Rule → ℕ → Word
spell [] c = c ∷ []
spell (rule ∷ older) c = cond (c == known older) (expand (spell older) rule) (spell older c)

-- what a word spells: what its letters spell, in a row
abbrev pub spell_word : List Rule → Word → Word
spell_word rules = flat_map (spell rules)

-- the rule that makes the letter c
abbrev pub rule_of : List Rule → ℕ → Option Rule
rule_of [] c = None
rule_of (rule ∷ older) c = cond (c == known older) (Some rule) (rule_of older c)
