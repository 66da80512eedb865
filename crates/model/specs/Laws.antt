-- The laws of spelling. Assumes nothing.
use Rattle.std.specs.Prelude.{◌≡◌, ℕ, ◌+◌, ◌*◌, ◌<◌, true, List, ◌∷◌, ◌++◌, length}
use Rattle.std.specs.List.{AllByRecursion}
use Rattle.model.specs.declared.Rule.{Rule}
use Rattle.model.specs.declared.Rule.TheVariants.{Pair, Block}
use Rattle.model.specs.Spelling.{known, spell}
use Rattle.model.specs.Witnesses.{rules_fit}

-- rules that are made later change nothing that a letter spelled before
abbrev pub LaterRulesKeepSpelling : Type 0
LaterRulesKeepSpelling = (later rules : List Rule) (c : ℕ) → c < known rules → spell (later ++ rules) c ≡ spell rules c

-- a letter's length: 1 for a to z, the sum of its two letters' for a pair, the product for a block
pub record LengthsFollowRules : Type 0 where
  pub basic : (rules : List Rule) (c : ℕ) → c < 26 → length (spell rules c) ≡ 1
  pub pair : (rules : List Rule) (a b : ℕ) → length (spell (Pair a b ∷ rules) (known rules)) ≡ length (spell rules a) + length (spell rules b)
  pub block : (rules : List Rule) (a n : ℕ) → length (spell (Block a n ∷ rules) (known rules)) ≡ n * length (spell rules a)

-- what a known letter spells is over a to z
abbrev pub SpellingEndsInAToZ : Type 0
SpellingEndsInAToZ = (rules : List Rule) (c : ℕ) → rules_fit rules ≡ true → c < known rules → AllByRecursion (λ a. a < 26) (spell rules c)
