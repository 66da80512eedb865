-- How letters and variables are named. Assumes nothing.
use Rattle.std.specs.Prelude.{ℕ, ◌+◌, cond, [], ◌∷◌, decimal, nat_lt}
use Rattle.text.specs.Pieces.{Bytes}

-- a to z, and # with the number for a made letter
abbrev pub letter_name : ℕ → Bytes
letter_name a = cond (nat_lt a 26) ((97 + a) ∷ []) (35 ∷ decimal a)

-- A to Z
abbrev pub variable_name : ℕ → Bytes
variable_name x = (65 + x) ∷ []
