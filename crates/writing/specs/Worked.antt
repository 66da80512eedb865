-- The writer at work: a is 0 and b is 1, X is 23 and Y is 24. Assumes nothing.
use Rattle.std.specs.Prelude.{◌≡◌, ℕ, List, [], ◌∷◌, ◌++◌, map, replicate, Some, None, codes}
use Rattle.systems.specs.declared.Choice.TheVariants.{Left, Right, Erase, Pair, Block}
use Rattle.systems.specs.Examples.{one}
use Rattle.systems.specs.Runs.{opened}
use Rattle.systems.specs.Sides.{Words}
use Rattle.systems.specs.Standings.{Standing}
use Rattle.writing.specs.declared.Span.{Span}
use Rattle.writing.specs.declared.WriteRefusal.TheVariants.{ShortList, NoWord, TooManyLetters, NoSolution}
use Rattle.writing.specs.Refusals.{write_number, write_refusal}
use Rattle.writing.specs.Writer.{put, Writes}

-- the words of X and Y
abbrev pub two_words : List ℕ → List ℕ → Words
two_words u v = put (put (λ _. []) 23 u) 24 v

-- so many bytes from a place on
abbrev pub span : ℕ → ℕ → Span
span start length = record { start = start; length = length }

-- the spans of X and Y; those of the other variables lie in no buffer below
abbrev pub two_spans : Span → Span → List Span
two_spans s t = replicate 23 (span 9999 9) ++ (s ∷ t ∷ span 9999 9 ∷ [])

-- Xa = abY
abbrev pub two_variables : Standing
two_variables = opened (one (codes "Xa") (codes "abY"))

pub record WorkedLists : Type 0 where
  -- Xa = abY with X = ab, Y = a: right Y a, erase Y, pair a b, left X #26, erase X
  pub pairs : Writes two_variables (two_words (0 ∷ 1 ∷ []) (0 ∷ [])) (Right 24 0 ∷ Erase 24 ∷ Pair 0 1 ∷ Left 23 26 ∷ Erase 23 ∷ [])
  -- Xb = aY with X = ab, Y = bb: left Y b, pair a b though Y's word still begins with b, left X #26, erase X, left Y b, erase Y
  pub one_pop_each : Writes (opened (one (codes "Xb") (codes "aY"))) (two_words (0 ∷ 1 ∷ []) (1 ∷ 1 ∷ [])) (Left 24 1 ∷ Pair 0 1 ∷ Left 23 26 ∷ Erase 23 ∷ Left 24 1 ∷ Erase 24 ∷ [])
  -- aX = Xa with X = aa: left X a, left X a, erase X, block a 3
  pub blocks : Writes (opened (one (codes "aX") (codes "Xa"))) (two_words (0 ∷ 0 ∷ []) []) (Left 23 0 ∷ Left 23 0 ∷ Erase 23 ∷ Block 0 3 ∷ [])
  -- X = aa with X = aa: left X a, left X a, erase X, block a 2
  pub block_of_two : Writes (opened (one (codes "X") (codes "aa"))) (two_words (0 ∷ 0 ∷ []) []) (Left 23 0 ∷ Left 23 0 ∷ Erase 23 ∷ Block 0 2 ∷ [])
  -- X is ab and Y is a, at the end of the buffer
  pub given_words : write_refusal two_variables (codes "aba") (two_spans (span 0 2) (span 2 1)) 1050 ≡ None
  pub short_list : write_refusal two_variables (codes "aba") (two_spans (span 0 2) (span 2 1)) 1049 ≡ Some ShortList
  -- Y's word has a byte that is none of a to z, it ends outside, it is empty and begins outside
  pub capital : write_refusal two_variables (codes "abA") (two_spans (span 0 2) (span 2 1)) 1050 ≡ Some (NoWord 24)
  pub outside : write_refusal two_variables (codes "aba") (two_spans (span 0 2) (span 2 2)) 1050 ≡ Some (NoWord 24)
  pub empty_outside : write_refusal two_variables (codes "aba") (two_spans (span 0 2) (span 4 0)) 1050 ≡ Some (NoWord 24)
  -- neither word is given: X is the first
  pub both_outside : write_refusal two_variables (codes "aba") (two_spans (span 3 2) (span 4 0)) 1050 ≡ Some (NoWord 23)
  -- X = X with 256 letters in its word, and with 257
  pub letters_512 : write_refusal (opened (one (codes "X") (codes "X"))) (replicate 256 97) (two_spans (span 0 256) (span 0 0)) 1050 ≡ None
  pub letters_514 : write_refusal (opened (one (codes "X") (codes "X"))) (replicate 257 97) (two_spans (span 0 257) (span 0 0)) 1050 ≡ Some TooManyLetters
  -- X is ab and Y is empty
  pub no_solution : write_refusal two_variables (codes "aba") (two_spans (span 0 2) (span 3 0)) 1050 ≡ Some NoSolution
  pub numbers : map write_number (ShortList ∷ NoWord 23 ∷ TooManyLetters ∷ NoSolution ∷ []) ≡ 51 ∷ 52 ∷ 53 ∷ 54 ∷ []
