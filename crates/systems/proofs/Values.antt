-- Values follow spelling. Assumes nothing.
use Rattle.std.proofs.Common.{◌≡◌, ℕ, zero, suc, [], ◌∷◌, ◌++◌, sym, refl, ap, ◌∙◌}
use Rattle.std.specs.List.{flat_map}
use Rattle.model.specs.declared.Rule.{Rule}
use Rattle.model.specs.declared.Rule.TheVariants.{Pair as PairRule, Block as BlockRule}
use Rattle.model.specs.Spelling.{Word, copies, expand, spell}
use Rattle.model.proofs.Spelling.{spell_low}
use Rattle.model.proofs.Fitting.{made_by}
use Rattle.systems.specs.Theorems.{ValuesOf, ValuesFollowSpelling}
use Rattle.systems.specs.Values.{Associative, Neutral, word_value, times, rule_value}

module _ {V : Type 0} (letter : ℕ → V) (empty : V) (join : V → V → V) (assoc : Associative join) (neutral : Neutral empty join) where
  abbrev value : Word → V
  value = word_value letter empty join

  value-++ : (u w : Word) → value (u ++ w) ≡ join (value u) (value w)
  value-++ [] w = sym (neutral.left (value w))
  value-++ (a ∷ u) w = ap (join (letter a)) (value-++ u w) ∙ sym (assoc.associates (letter a) (value u) (value w))

  value_joined : (of : ℕ → Word) (w : Word) → value (flat_map of w) ≡ word_value (λ a. value (of a)) empty join w
  value_joined of [] = refl
  value_joined of (a ∷ w) = value-++ (of a) (flat_map of w) ∙ ap (join (value (of a))) (value_joined of w)

  value_copies : (n : ℕ) (w : Word) → value (copies n w) ≡ times empty join n (value w)
  value_copies zero w = refl
  value_copies (suc n) w = value-++ w (copies n w) ∙ ap (join (value w)) (value_copies n w)

  value_expand : (of : ℕ → Word) (rule : Rule) → value (expand of rule) ≡ rule_value (λ a. value (of a)) empty join rule
  value_expand of (PairRule a b) = value-++ (of a) (of b)
  value_expand of (BlockRule a n) = value_copies n (of a)

  pub values_of : ValuesOf letter empty join
  values_of = record {
    of_word = λ rules w. value_joined (spell rules) w;
    of_a_to_z = λ rules a low. ap value (spell_low rules a low) ∙ neutral.right (letter a);
    of_made = λ rules a rule fit by. ap value (made_by rules a rule fit by).spells ∙ value_expand (spell rules) rule;
  }

pub values_follow_spelling : (V : Type 0) → ValuesFollowSpelling V
values_follow_spelling V letter empty join assoc neutral = values_of letter empty join assoc neutral
