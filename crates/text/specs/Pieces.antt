-- Bytes, the parts of a line, and lines. Assumes nothing.
use Rattle.std.specs.Prelude.{◌≡◌, ℕ, Bool, true, not, ◌&&◌, List, [], ◌∷◌, ◌++◌, ◌==◌}

abbrev pub Bytes : Type 0
Bytes = List ℕ

-- no byte is b
abbrev pub free : ℕ → Bytes → Bool
free b [] = true
free b (c ∷ cs) = not (c == b) && free b cs

-- parts with the byte b between them: the first part, and the others
abbrev pub between : ℕ → Bytes → List Bytes → Bytes
between b p [] = p
between b p (q ∷ qs) = p ++ b ∷ between b q qs

-- bytes without a newline
abbrev pub Line : Bytes → Type 0
Line l = free 10 l ≡ true

-- lines, each with its newline
abbrev pub lines_text : List Bytes → Bytes
lines_text [] = []
lines_text (l ∷ ls) = l ++ 10 ∷ lines_text ls
