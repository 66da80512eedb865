-- The lines of a text. Assumes nothing.
use Rattle.std.specs.Prelude.{◌≡◌, cond, List, [], ◌∷◌, ◌++◌, ◌==◌, ◌⊎◌, ◌≢◌}
use Rattle.std.specs.List.{onto_first, AllByRecursion}
use Rattle.text.specs.Pieces.{Bytes, Line, lines_text}

-- each line ends with a newline, which the last one may lack
abbrev pub lines_of : Bytes → List Bytes
lines_of [] = []
lines_of (b ∷ bs) = cond (b == 10) ([] ∷ lines_of bs) (onto_first b (lines_of bs))

-- the text is these lines, each with its newline, or all but the last with theirs, and the last is not empty
abbrev pub IsTextOf : List Bytes → Bytes → Type 0
IsTextOf ls text = (text ≡ lines_text ls) ⊎ ((front : List Bytes) × (last : Bytes) × (ls ≡ front ++ (last ∷ [])) × (last ≢ []) × (text ≡ lines_text front ++ last))

-- so a text has these lines exactly if it is so written
pub record LinesAreWritten : Type 0 where
  pub read : (ls : List Bytes) (text : Bytes) → AllByRecursion Line ls → IsTextOf ls text → lines_of text ≡ ls
  pub written : (text : Bytes) → AllByRecursion Line (lines_of text) × IsTextOf (lines_of text) text
