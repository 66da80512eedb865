-- The fields of a line. Assumes nothing.
use Rattle.std.specs.Prelude.{◌≡◌, ℕ, ◌+◌, true, List, [], ◌∷◌, ◌++◌, length, ◌==◌, ◌≢◌}
use Rattle.std.specs.List.{slice_split}
use Rattle.text.specs.declared.part.Part.{Part}
use Rattle.text.specs.Pieces.{Bytes, between, free}

-- what stands between the spaces
abbrev pub fields_of : Bytes → List Bytes
fields_of = slice_split (λ b. b == 32)

-- fields with one space between them
abbrev pub line_of : List Bytes → Bytes
line_of [] = []
line_of (field ∷ fields) = between 32 field fields

-- the part is two fields, each at its place
pub record Two (whole first second : Part) : Type 0 where
  pub fields : fields_of whole.bytes.now ≡ first.bytes.now ∷ second.bytes.now ∷ []
  pub first_place : first.place ≡ whole.place
  pub second_place : second.place ≡ whole.place + length first.bytes.now + 1

-- and so are three
pub record Three (whole first second third : Part) : Type 0 where
  pub fields : fields_of whole.bytes.now ≡ first.bytes.now ∷ second.bytes.now ∷ third.bytes.now ∷ []
  pub first_place : first.place ≡ whole.place
  pub second_place : second.place ≡ whole.place + length first.bytes.now + 1
  pub third_place : third.place ≡ second.place + length second.bytes.now + 1

-- the line is these two fields
pub record InTwo (line : Bytes) (first second : Part) : Type 0 where
  pub fields : fields_of line ≡ first.bytes.now ∷ second.bytes.now ∷ []
  pub first_place : first.place ≡ 0
  pub second_place : second.place ≡ length first.bytes.now + 1

-- or these three
pub record InThree (line : Bytes) (first second third : Part) : Type 0 where
  pub fields : fields_of line ≡ first.bytes.now ∷ second.bytes.now ∷ third.bytes.now ∷ []
  pub first_place : first.place ≡ 0
  pub second_place : second.place ≡ length first.bytes.now + 1
  pub third_place : third.place ≡ length first.bytes.now + 1 + length second.bytes.now + 1
