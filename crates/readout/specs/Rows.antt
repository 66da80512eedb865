-- The table of a listing's words. Assumes nothing.
use Rattle.std.specs.Prelude.{ℕ, zero, suc, cond, [], ◌∷◌, ◌++◌, length, take, Some, None, codes, decimal, Option, nat_lt}
use Rattle.model.specs.Spelling.{Word}
use Rattle.model.specs.Witnesses.{Contents, spelled}
use Rattle.text.specs.Names.{variable_name}
use Rattle.text.specs.Pieces.{Bytes}
use Rattle.witness.specs.Answers.{as_text}

-- the first 64 letters, and ... where the word goes on
abbrev pub beginning : Word → Bytes
beginning [] = codes "-"
beginning (a ∷ w) = as_text (take 64 (a ∷ w)) ++ cond (nat_lt 64 (length (a ∷ w))) (codes "...") []

abbrev pub shown : Option Word → Bytes
shown None = []
shown (Some w) = beginning w

-- the variable, the length of what its word spells, and how that begins
abbrev pub row : ℕ → Option Word → Bytes
row x None = []
row x (Some w) = variable_name x ++ (codes " " ++ (decimal (length w) ++ (codes " " ++ (beginning w ++ codes "\n"))))

-- the rows of the first n variables
abbrev pub rows : Contents → ℕ → Bytes
rows c zero = []
rows c (suc x) = rows c x ++ row x (spelled c x)

abbrev pub table : Contents → Bytes
table c = codes "variable length letters\n" ++ rows c 26
