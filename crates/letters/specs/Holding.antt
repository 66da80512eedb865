-- What the letters hold, and what is answered of them. Assumes nothing.
use Rattle.std.specs.Prelude.{ℕ, ◌^◌, cond, List, reverse, length, Some, None, Ok, Err, Option, Result, nat_le, nat_lt}
use Rattle.model.specs.declared.Rule.{Rule}
use Rattle.model.specs.declared.RuleRefusal.{RuleRefusal}
use Rattle.model.specs.declared.RuleRefusal.TheVariants.{TooManyRules, TooLong}
use Rattle.model.specs.Spelling.{known, spell}
use Rattle.letters.specs.declared.store.Letters.{Letters}

-- the rules, newest first
abbrev pub rules_of : Letters → List Rule
rules_of l = reverse l.rules

-- the length of what a known letter spells
abbrev pub length_of : List Rule → ℕ → Option ℕ
length_of rules a = cond (nat_lt a (known rules)) (Some (length (spell rules a))) None

-- whether there is room for one more rule, whose letter spells n letters
abbrev pub room_for : List Rule → ℕ → Result ℕ RuleRefusal
room_for rules n = cond (nat_le 512 (length rules)) (Err TooManyRules) (cond (nat_lt (10 ^ 12) n) (Err TooLong) (Ok n))
