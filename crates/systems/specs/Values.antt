-- The value of a word under a measure: the values of its letters, joined in order. Assumes nothing.
use Rattle.std.specs.Prelude.{◌≡◌, ℕ, zero, suc, [], ◌∷◌}
use Rattle.model.specs.declared.Rule.{Rule}
use Rattle.model.specs.declared.Rule.TheVariants.{Pair as PairRule, Block as BlockRule}
use Rattle.model.specs.Spelling.{Word}

-- it does not matter where a row of joins begins
pub record Associative {V : Type 0} (join : V → V → V) : Type 0 where
  pub associates : (x y z : V) → join (join x y) z ≡ join x (join y z)

-- the empty value changes nothing, on either side
pub record Neutral {V : Type 0} (empty : V) (join : V → V → V) : Type 0 where
  pub left : (x : V) → join empty x ≡ x
  pub right : (x : V) → join x empty ≡ x

-- the value of a word, where each letter has its value
abbrev pub word_value : {V : Type 0} → (ℕ → V) → V → (V → V → V) → Word → V
word_value letter empty join [] = empty
word_value letter empty join (a ∷ w) = join (letter a) (word_value letter empty join w)

-- n times the value v
abbrev pub times : {V : Type 0} → V → (V → V → V) → ℕ → V → V
times empty join zero v = empty
times empty join (suc n) v = join v (times empty join n v)

-- the value of what a rule makes: of a pair the join, of a block so many times the value
abbrev pub rule_value : {V : Type 0} → (ℕ → V) → V → (V → V → V) → Rule → V
rule_value letter empty join (PairRule a b) = join (letter a) (letter b)
rule_value letter empty join (BlockRule a n) = times empty join n (letter a)
