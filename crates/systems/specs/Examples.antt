-- The definitions at work: a is 0 and b is 1, X is 23 and Y is 24. Assumes nothing.
use Rattle.std.specs.Prelude.{◌≡◌, ℕ, List, [], ◌∷◌, replicate, Some, codes}
use Rattle.model.specs.declared.Rule.TheVariants.{Pair as PairRule, Block as BlockRule}
use Rattle.model.specs.Spelling.{spell_word}
use Rattle.systems.specs.declared.Place.TheVariants.{Letter}
use Rattle.systems.specs.declared.Choice.TheVariants.{Left, Right, Erase, Pair, Block}
use Rattle.systems.specs.declared.Pop.TheVariants.{AtLeft, AtRight}
use Rattle.systems.specs.declared.LoadRefusal.TheVariants.{NoLetter}
use Rattle.systems.specs.declared.ChoiceRefusal.TheVariants.{NotLive, UnknownLetter, EqualLetters, CountOutOfRange, TooManyPops, TooManyPlaces}
use Rattle.systems.specs.Choices.{effect}
use Rattle.systems.specs.Fitting.{Crosses}
use Rattle.systems.specs.Loading.{side_of, load_refusal}
use Rattle.systems.specs.Refusals.{choice_refusal, after_choice}
use Rattle.systems.specs.Runs.{Load, opened, Reaches}
use Rattle.systems.specs.Standings.{Standing, new, popped_word}

-- one equation, as it is loaded
abbrev pub one : List ℕ → List ℕ → List Load
one left right = (left, right) ∷ []

-- what stands at the end of the lists below
abbrev pub both_found : Standing
both_found = record { equations = ((Letter 26 ∷ Letter 0 ∷ [], Letter 26 ∷ Letter 0 ∷ [])) ∷ []; rules = PairRule 0 1 ∷ []; pops = AtLeft 23 26 ∷ AtLeft 24 0 ∷ [] }

abbrev pub one_row : Standing
one_row = record { equations = ((Letter 26 ∷ [], Letter 26 ∷ [])) ∷ []; rules = BlockRule 0 3 ∷ []; pops = AtLeft 23 0 ∷ AtLeft 23 0 ∷ [] }

abbrev pub sides_differ : Standing
sides_differ = record { equations = ((Letter 0 ∷ Letter 1 ∷ [], Letter 26 ∷ [])) ∷ []; rules = PairRule 0 1 ∷ []; pops = AtLeft 23 0 ∷ [] }

abbrev pub from_the_right : Standing
from_the_right = record { equations = ((Letter 0 ∷ Letter 1 ∷ [], Letter 0 ∷ Letter 1 ∷ [])) ∷ []; rules = []; pops = AtRight 23 1 ∷ AtRight 23 0 ∷ [] }

pub record WorkedExamples : Type 0 where
  -- pair a b turns abab into #26 #26 and leaves aXb
  pub pairs : effect (Pair 0 1) 26 (side_of (codes "abab")) ≡ Letter 26 ∷ Letter 26 ∷ []
  pub no_pair_across : effect (Pair 0 1) 26 (side_of (codes "aXb")) ≡ side_of (codes "aXb")
  -- block a 2 leaves aaa, and replaces each row of exactly two
  pub no_longer_row : effect (Block 0 2) 26 (side_of (codes "aaa")) ≡ side_of (codes "aaa")
  pub exact_rows : effect (Block 0 2) 26 (side_of (codes "aabaaabaa")) ≡ Letter 26 ∷ Letter 1 ∷ Letter 0 ∷ Letter 0 ∷ Letter 0 ∷ Letter 1 ∷ Letter 26 ∷ []
  -- right X b, then right X a, spells ab
  pub right_pops : Reaches (one (codes "X") (codes "ab")) (Right 23 1 ∷ Right 23 0 ∷ Erase 23 ∷ []) from_the_right
  pub right_word : spell_word from_the_right.rules (popped_word from_the_right 23) ≡ 0 ∷ 1 ∷ []
  -- ab crosses in aXb where X's word is empty
  pub over_an_empty_word : Crosses 0 1 (λ _. []) (side_of (codes "aXb"))
  -- a pair that stands in no equation still makes a letter
  pub pair_of_none : (after_choice (opened (one (codes "X") (codes "X"))) (Pair 0 1)).rules ≡ PairRule 0 1 ∷ []
  -- Xa = abY: X is ab and Y is a
  pub found : Reaches (one (codes "Xa") (codes "abY")) (Pair 0 1 ∷ Left 23 26 ∷ Erase 23 ∷ Left 24 0 ∷ Erase 24 ∷ []) both_found
  pub found_X : spell_word both_found.rules (popped_word both_found 23) ≡ 0 ∷ 1 ∷ []
  pub found_Y : spell_word both_found.rules (popped_word both_found 24) ≡ 0 ∷ []
  -- aX = Xa with X = aa
  pub rows : Reaches (one (codes "aX") (codes "Xa")) (Left 23 0 ∷ Left 23 0 ∷ Erase 23 ∷ Block 0 3 ∷ []) one_row
  -- Xb = ab: the sides ab and #26 differ, since the pair was joined before X was popped
  pub too_early : Reaches (one (codes "Xb") (codes "ab")) (Pair 0 1 ∷ Left 23 0 ∷ Erase 23 ∷ []) sides_differ
  -- X = empty: nothing is popped
  pub nothing : Reaches (one (codes "X") []) (Erase 23 ∷ []) (record { equations = (([], [])) ∷ []; rules = []; pops = [] })
  -- the first reason counts
  pub no_letter : load_refusal new (codes "a1") (codes "a") ≡ Some NoLetter
  pub not_live_first : choice_refusal new (Left 23 26) ≡ Some (NotLive 23)
  pub unknown_first : choice_refusal new (Pair 26 26) ≡ Some UnknownLetter
  pub equal_letters : choice_refusal new (Pair 0 0) ≡ Some EqualLetters
  pub short_block : choice_refusal new (Block 0 1) ≡ Some CountOutOfRange
  pub long_block : choice_refusal new (Block 0 1000001) ≡ Some CountOutOfRange
  -- a second left A a on 1,024 A's would leave 3,072 places
  pub too_many_places : choice_refusal (after_choice (opened (one (replicate 1024 65) [])) (Left 0 0)) (Left 0 0) ≡ Some TooManyPlaces
  -- the 1,025th left on X = a
  pub too_many_pops : choice_refusal (record { equations = (opened (one (codes "X") (codes "a"))).equations; rules = []; pops = replicate 1024 (AtLeft 23 0) }) (Left 23 0) ≡ Some TooManyPops
