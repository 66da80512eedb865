-- Closes at work: a is 0 and b is 1, X is 23 and Y is 24. Assumes nothing.
use Rattle.std.specs.Prelude.{◌≡◌, ℕ, ◌+◌, true, List, [], ◌∷◌, map, replicate, Some, None, codes, nat_lt}
use Rattle.model.specs.Witnesses.{Contents, spelled}
use Rattle.systems.specs.declared.Detail.TheVariants.{Variable, Equation}
use Rattle.systems.specs.Examples.{one, both_found, sides_differ, from_the_right}
use Rattle.systems.specs.Runs.{Load, opened, loaded}
use Rattle.systems.specs.Sides.{stands_in}
use Rattle.systems.specs.Standings.{Standing, new}
use Rattle.guarantee.specs.declared.CloseRefusal.TheVariants.{SmallTable, StillLive, SidesDiffer, Fails}
use Rattle.guarantee.specs.Closing.{close_number, close_detail, Meaning, Closed, close}

-- the length of a word, which passes below 2
abbrev pub counting : Meaning ℕ
counting = record { letter = λ _. 1; empty = 0; join = ◌+◌; passes = λ x n. nat_lt n 2 }

-- the same, which always passes
abbrev pub any_length : Meaning ℕ
any_length = record { letter = λ _. 1; empty = 0; join = ◌+◌; passes = λ x n. true }

-- the same, which passes unless the word is empty
abbrev pub some_length : Meaning ℕ
some_length = record { letter = λ _. 1; empty = 0; join = ◌+◌; passes = λ x n. nat_lt 0 n }

abbrev pub empty_witness : Contents
empty_witness = record { rules = []; entries = [] }

-- a close at S after these loads, with a table of so many zeros
abbrev pub closed : Meaning ℕ → List Load → Standing → ℕ → Closed ℕ
closed m loads S room = close m (stands_in (loaded loads)) S (replicate room 0) empty_witness

-- what is left of X = empty once X is erased
abbrev pub nothing_left : Standing
nothing_left = record { equations = (([], [])) ∷ []; rules = []; pops = [] }

pub record WorkedCloses : Type 0 where
  -- no equations: accepted, with the empty witness
  pub no_equations : (closed any_length [] new 26).answer ≡ None
  pub empty : (closed any_length [] new 26).written ≡ empty_witness
  -- no word may be empty, and no variable of the system has a word: none is asked
  pub not_asked : (closed some_length [] new 26).answer ≡ None
  -- X = empty, erase X: accepted, X's word is empty
  pub erased : (closed any_length (one (codes "X") []) nothing_left 26).answer ≡ None
  pub empty_word : spelled (closed any_length (one (codes "X") []) nothing_left 26).written 23 ≡ Some []
  -- Xb = ab, pair a b, left X a, erase X: the sides of the first equation differ
  pub differs : (closed any_length (one (codes "Xb") (codes "ab")) sides_differ 27).answer ≡ Some (SidesDiffer 1)
  -- Xa = abY, found: X is ab and Y is a, and the table has the length of what each letter spells
  pub accepted : (closed any_length (one (codes "Xa") (codes "abY")) both_found 28).answer ≡ None
  pub word_X : spelled (closed any_length (one (codes "Xa") (codes "abY")) both_found 28).written 23 ≡ Some (0 ∷ 1 ∷ [])
  pub word_Y : spelled (closed any_length (one (codes "Xa") (codes "abY")) both_found 28).written 24 ≡ Some (0 ∷ [])
  pub lengths : (closed any_length (one (codes "Xa") (codes "abY")) both_found 28).table ≡ 1 ∷ 1 ∷ 1 ∷ 1 ∷ 1 ∷ 1 ∷ 1 ∷ 1 ∷ 1 ∷ 1 ∷ 1 ∷ 1 ∷ 1 ∷ 1 ∷ 1 ∷ 1 ∷ 1 ∷ 1 ∷ 1 ∷ 1 ∷ 1 ∷ 1 ∷ 1 ∷ 1 ∷ 1 ∷ 1 ∷ 2 ∷ 0 ∷ []
  -- X = ab by right X b, right X a, erase X
  pub right_pops : spelled (closed any_length (one (codes "X") (codes "ab")) from_the_right 26).written 23 ≡ Some (0 ∷ 1 ∷ [])
  -- the first that fails is X, since only Y's word is shorter than 2; the table is filled, the witness is not
  pub fails : (closed counting (one (codes "Xa") (codes "abY")) both_found 27).answer ≡ Some (Fails 23)
  pub untouched : (closed counting (one (codes "Xa") (codes "abY")) both_found 27).written ≡ empty_witness
  -- BA = AB with no choice: A is live; with a table of 25 that comes first
  pub still_live : (closed any_length (one (codes "BA") (codes "AB")) (opened (one (codes "BA") (codes "AB"))) 26).answer ≡ Some (StillLive 0)
  pub small_table : (closed any_length (one (codes "BA") (codes "AB")) (opened (one (codes "BA") (codes "AB"))) 25).answer ≡ Some SmallTable
  -- found, with one rule made, and a table that has no entry for its letter
  pub entry_short : (closed any_length (one (codes "Xa") (codes "abY")) both_found 26).answer ≡ Some SmallTable
  pub numbers : map close_number (SmallTable ∷ StillLive 0 ∷ SidesDiffer 1 ∷ Fails 23 ∷ []) ≡ 30 ∷ 31 ∷ 32 ∷ 33 ∷ []
  pub details : map close_detail (SmallTable ∷ StillLive 0 ∷ SidesDiffer 1 ∷ Fails 23 ∷ []) ≡ None ∷ Some (Variable 0) ∷ Some (Equation 1) ∷ Some (Variable 23) ∷ []
