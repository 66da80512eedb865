-- What a witness holds: rules and the words of variables, in each list the newest first, and what it keeps. Assumes nothing.
use Rattle.std.specs.Prelude.{ℕ, suc, ◌+◌, ◌^◌, Bool, true, cond, not, ◌&&◌, List, [], ◌∷◌, length, Some, None, Option, ◌==◌, nat_le, nat_lt}
use Rattle.std.specs.Option.{option_map}
use Rattle.model.specs.declared.Rule.{Rule}
use Rattle.model.specs.declared.Rule.TheVariants.{Pair, Block}
use Rattle.model.specs.declared.RuleRefusal.{RuleRefusal}
use Rattle.model.specs.declared.RuleRefusal.TheVariants.{UnknownLetter, EqualLetters, CountOutOfRange, TooManyRules, TooLong}
use Rattle.model.specs.Spelling.{Word, known, expand, spell, spell_word}

-- a variable, from A as 0, and its word
pub record Entry : Type 0 where
  pub variable : ℕ
  pub word : Word

pub record Contents : Type 0 where
  pub rules : List Rule
  pub entries : List Entry

-- the letters of the rule are below n
abbrev pub lower : ℕ → Rule → Bool
lower n (Pair a b) = nat_lt a n && nat_lt b n
lower n (Block a k) = nat_lt a n

-- the letters of a pair differ
abbrev pub apart : Rule → Bool
apart (Pair a b) = not (a == b)
apart (Block a k) = true

-- the count of a block is 2 to 1,000,000
abbrev pub counted : Rule → Bool
counted (Pair a b) = true
counted (Block a k) = nat_le 2 k && nat_le k 1000000

-- how many letters the next letter spells, if this rule makes it
abbrev pub made_length : List Rule → Rule → ℕ
made_length older rule = length (expand (spell older) rule)

-- the rule may stand after the older ones
abbrev pub rule_fits : List Rule → Rule → Bool
rule_fits older rule = lower (known older) rule && (apart rule && (counted rule && (nat_lt (length older) 512 && nat_le (made_length older rule) (10 ^ 12))))

-- the first reason, in this order, why it may not
abbrev pub rule_refusal : List Rule → Rule → Option RuleRefusal
rule_refusal older rule =
    cond (not (lower (known older) rule)) (Some UnknownLetter)
    (cond (not (apart rule)) (Some EqualLetters)
    (cond (not (counted rule)) (Some CountOutOfRange)
    (cond (nat_le 512 (length older)) (Some TooManyRules)
    (cond (nat_lt (10 ^ 12) (made_length older rule)) (Some TooLong)
    None))))

abbrev pub rules_fit : List Rule → Bool
rules_fit [] = true
rules_fit (rule ∷ older) = rule_fits older rule && rules_fit older

-- each letter of the word is below n
abbrev pub all_below : ℕ → Word → Bool
all_below n [] = true
all_below n (a ∷ w) = nat_lt a n && all_below n w

-- the letters of all words together
abbrev pub letters_in : List Entry → ℕ
letters_in [] = 0
letters_in (e ∷ older) = length e.word + letters_in older

-- the first variable that may still come: variables rise
abbrev pub least : List Entry → ℕ
least [] = 0
least (e ∷ older) = suc e.variable

-- the entry may stand after the older ones
abbrev pub entry_fits : List Rule → List Entry → Entry → Bool
entry_fits rules older e =
    (nat_le (least older) e.variable && nat_lt e.variable 26)
    && (all_below (known rules) e.word && nat_le (length e.word + letters_in older) 1024)

abbrev pub entries_fit : List Rule → List Entry → Bool
entries_fit rules [] = true
entries_fit rules (e ∷ older) = entry_fits rules older e && entries_fit rules older

-- what every witness keeps
abbrev pub valid : Contents → Bool
valid c = rules_fit c.rules && entries_fit c.rules c.entries

-- the word of the variable x, if it has one
abbrev pub word_of : List Entry → ℕ → Option Word
word_of [] x = None
word_of (e ∷ older) x = cond (x == e.variable) (Some e.word) (word_of older x)

-- what that word spells
abbrev pub spelled : Contents → ℕ → Option Word
spelled c x = option_map (spell_word c.rules) (word_of c.entries x)
