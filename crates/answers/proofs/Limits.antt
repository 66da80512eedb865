-- A word passes exactly if it is within the limits. Assumes nothing.
use Rattle.std.proofs.Common.{◌≡◌, ℕ, zero, suc, ◌+◌, ◌<◌, true, List, [], ◌∷◌, map, length, min, slice_index, leb, leb-true, le-leb, ap, ◌∙◌, arith}
use Rattle.std.proofs.lemmas.Bool.{and_parts, and_from}
use Rattle.model.specs.Spelling.{Word}
use Rattle.writing.specs.Writer.{from, variables}
use Rattle.guarantee.specs.Closing.{value_of}
use Rattle.length.specs.Theorems.{ValueIsCappedLength}
use Rattle.tables.specs.declared.types.Limit.{Limit}
use Rattle.answers.specs.Limits.{limit_of, leasts, mosts, judging, IsWithin}

counted : ValueIsCappedLength
counted [] = omega arith
counted (a ∷ w) = let rest = counted w in omega arith

-- what stands at x in a list of something for each of A to Z

at_from : (f : ℕ → ℕ) (n k x : ℕ) → x < n → slice_index (map f (from k n)) x ≡ f (k + x)
at_from f zero k x lt = absurd (omega arith)
at_from f (suc n) k zero lt = ap f (omega arith)
at_from f (suc n) k (suc x) lt = at_from f n (suc k) x (omega arith) ∙ ap f (omega arith)

at_variable : (f : ℕ → ℕ) (x : ℕ) → x < 26 → slice_index (map f variables) x ≡ f x
unfolding variables
at_variable f x lt = at_from f 26 0 x lt ∙ ap f (omega arith)

module _ (limits : List Limit) (x : ℕ) (w : Word) (low : x < 26) where
  least_is : slice_index (leasts limits) x ≡ (limit_of limits x).least
  least_is = at_variable (λ y. (limit_of limits y).least) x low

  most_is : slice_index (mosts limits) x ≡ (limit_of limits x).most
  most_is = at_variable (λ y. (limit_of limits y).most) x low

  n : ℕ
  n = (value_of (judging limits) w).count

  n_is : n ≡ min (length w) 1000000
  unfolding n
  n_is = counted w

  pub passing_is_within : (judging limits).passes x (value_of (judging limits) w) ≡ true → IsWithin limits x w
  unfolding n
  passing_is_within ok =
      let parts = and_parts (leb (slice_index (leasts limits) x) n) (leb n (slice_index (mosts limits) x)) ok in
      (omega (arith, leb-true (slice_index (leasts limits) x) n parts.0, least_is, n_is), omega (arith, leb-true n (slice_index (mosts limits) x) parts.1, most_is, n_is))

  pub within_passes : IsWithin limits x w → (judging limits).passes x (value_of (judging limits) w) ≡ true
  unfolding n
  within_passes within =
      and_from (leb (slice_index (leasts limits) x) n) (leb n (slice_index (mosts limits) x))
      (le-leb (slice_index (leasts limits) x) n (omega (arith, within.0, least_is, n_is)))
      (le-leb n (slice_index (mosts limits) x) (omega (arith, within.1, most_is, n_is)))
