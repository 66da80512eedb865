-- The lengths of the maximal rows of a letter, counted. Assumes nothing.
use Rattle.std.specs.Prelude.{ℕ, suc, Bool, cond, nat_eq, List, [], ◌∷◌}
use Rattle.model.specs.Spelling.{Word}
use Rattle.systems.specs.Rows.{any}
use Rattle.writing.specs.Writer.{from, letters}

-- the lengths of the maximal rows of a in a word, where k times a stand right before it; between two other letters, and at an end, there is a row of none
abbrev pub row_lengths : ℕ → ℕ → Word → List ℕ
row_lengths a k [] = k ∷ []
row_lengths a k (l ∷ w) = cond (nat_eq l a) (row_lengths a (suc k) w) (k ∷ row_lengths a 0 w)

abbrev pub has_row : ℕ → ℕ → Word → Bool
has_row a n w = any (nat_eq n) (row_lengths a 0 w)

abbrev pub keep : (ℕ → Bool) → List ℕ → List ℕ
keep p [] = []
keep p (n ∷ ns) = cond (p n) (n ∷ keep p ns) (keep p ns)

-- the lengths, 2 or more, of the maximal rows of a in some words, rising
abbrev pub counted_lengths : ℕ → List Word → List ℕ
counted_lengths a ws = keep (λ n. any (has_row a n) ws) (from 2 (letters ws))
