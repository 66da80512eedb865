-- The text of a refusal. Assumes nothing.
use Rattle.std.specs.Prelude.{ℕ, ◌++◌, codes, decimal}
use Rattle.text.specs.Pieces.{Bytes}

-- a refusal by its number, with the line and a detail
abbrev pub refusal_text : ℕ → ℕ → Bytes → Bytes
refusal_text number line detail = codes "refusal line detail\n" ++ (decimal number ++ (codes " " ++ (decimal line ++ (codes " " ++ (detail ++ codes "\n")))))
