-- The limits that the lines of the second table set, and words judged by them. Assumes nothing.
use Rattle.std.specs.Prelude.{◌≡◌, ℕ, ◌<◌, ◌≤◌, Bool, cond, ◌&&◌, List, [], ◌∷◌, map, length, min, ◌==◌, nat_le, slice_index}
use Rattle.model.specs.Spelling.{Word}
use Rattle.length.specs.declared.value.Capped.{Capped}
use Rattle.length.specs.Capped.{capped, longer}
use Rattle.writing.specs.Writer.{variables}
use Rattle.guarantee.specs.Closing.{Meaning}
use Rattle.tables.specs.declared.types.Limit.{Limit}
use Rattle.tables.specs.Unlisted.{unlisted}

-- the limits of x: those of its line, or what an unlisted variable has
abbrev pub limit_of : List Limit → ℕ → Limit
limit_of [] x = unlisted x
limit_of (l ∷ limits) x = cond (l.variable == x) l (limit_of limits x)

-- the fewest and the most letters that the words of A to Z may have
abbrev pub leasts : List Limit → List ℕ
leasts limits = map (λ x. (limit_of limits x).least) variables

abbrev pub mosts : List Limit → List ℕ
mosts limits = map (λ x. (limit_of limits x).most) variables

-- the length kind with these limits
abbrev pub length_meaning : List ℕ → List ℕ → Meaning Capped
length_meaning least most = record {
  letter = λ _. capped 1;
  empty = capped 0;
  join = longer;
  passes = λ x v. nat_le (slice_index least x) v.count && nat_le v.count (slice_index most x);
}

abbrev pub judging : List Limit → Meaning Capped
judging limits = length_meaning (leasts limits) (mosts limits)

-- the word w is within the limits of x, where its length counts up to 1,000,000
abbrev pub IsWithin : List Limit → ℕ → Word → Type 0
IsWithin limits x w = ((limit_of limits x).least ≤ min (length w) 1000000) × (min (length w) 1000000 ≤ (limit_of limits x).most)
