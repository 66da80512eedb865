-- The rows of the three tables and how they are written. Assumes nothing.
use Rattle.std.specs.Prelude.{◌≡◌, ℕ, ◌^◌, ◌<◌, true, List, [], ◌∷◌, codes, decimal, ◌≢◌}
use Rattle.systems.specs.declared.Choice.{Choice}
use Rattle.systems.specs.declared.Choice.TheVariants.{Left, Right, Erase, Pair, Block}
use Rattle.systems.specs.Runs.{Load}
use Rattle.text.specs.Names.{letter_name, variable_name}
use Rattle.text.specs.Pieces.{Bytes, free}
use Rattle.tables.specs.declared.types.Limit.{Limit}

-- a side as a field: - for the empty side
abbrev pub side_text : Bytes → Bytes
side_text [] = codes "-"
side_text (b ∷ side) = b ∷ side

abbrev pub equation_fields : Load → List Bytes
equation_fields e = side_text e.0 ∷ side_text e.1 ∷ []

abbrev pub limit_fields : Limit → List Bytes
limit_fields l = variable_name l.variable ∷ decimal l.least ∷ decimal l.most ∷ []

abbrev pub choice_fields : Choice → List Bytes
choice_fields (Left x a) = codes "left" ∷ variable_name x ∷ letter_name a ∷ []
choice_fields (Right x a) = codes "right" ∷ variable_name x ∷ letter_name a ∷ []
choice_fields (Erase x) = codes "erase" ∷ variable_name x ∷ codes "-" ∷ []
choice_fields (Pair a b) = codes "pair" ∷ letter_name a ∷ letter_name b ∷ []
choice_fields (Block a n) = codes "block" ∷ letter_name a ∷ decimal n ∷ []

-- what can stand in a line: a side without a space that is not the one byte -
pub record IsSide (side : Bytes) : Type 0 where
  pub no_space : free 32 side ≡ true
  pub no_dash : side ≢ codes "-"

abbrev pub IsEquation : Load → Type 0
IsEquation e = IsSide e.0 × IsSide e.1

-- variables A to Z, letters below 538, and numbers of at most seven digits
abbrev pub IsLimit : Limit → Type 0
IsLimit l = (l.variable < 26) × (l.least < 10 ^ 7) × (l.most < 10 ^ 7)

abbrev pub IsChoice : Choice → Type 0
IsChoice (Left x a) = (x < 26) × (a < 538)
IsChoice (Right x a) = (x < 26) × (a < 538)
IsChoice (Erase x) = x < 26
IsChoice (Pair a b) = (a < 538) × (b < 538)
IsChoice (Block a n) = (a < 538) × (n < 10 ^ 7)
