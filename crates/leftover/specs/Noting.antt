-- The lengths of the maximal rows of a letter, as they are noted from the marks of all sides. Assumes nothing.
use Rattle.std.specs.Prelude.{ℕ, suc, Bool, false, cond, List, [], ◌∷◌, slice_index_or}
use Rattle.systems.specs.Sides.{is_letter}
use Rattle.sides.specs.declared.mark.Mark.{Mark}
use Rattle.sides.specs.Marks.{lifted}
use Rattle.writing.specs.Writer.{from}
use Rattle.writing.specs.Counting.{keep}

-- the lengths in these marks, where k times a stand right before them; an end of a side ends a row
abbrev pub mark_rows : ℕ → ℕ → List Mark → List ℕ
mark_rows a k [] = []
mark_rows a k (m ∷ ms) = cond (lifted (is_letter a) m) (mark_rows a (suc k) ms) (k ∷ mark_rows a 0 ms)

-- the lengths from 2 to 512 that are noted, rising
abbrev pub noted_lengths : List Bool → List ℕ
noted_lengths noted = keep (λ n. slice_index_or noted n false) (from 2 511)
