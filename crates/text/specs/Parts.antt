-- A part of a line cut at a byte, with the places of both pieces. Assumes nothing.
use Rattle.std.specs.Prelude.{◌≡◌, ℕ, ◌+◌, true, ◌∷◌, ◌++◌, length}
use Rattle.text.specs.declared.part.Part.{Part}
use Rattle.text.specs.Pieces.{free}

-- what stands before the first `end`, and what stands behind it, each at its place
pub record Cuts (end : ℕ) (whole : Part) (p : Part × Part) : Type 0 where
  pub free_field : free end p.0.bytes.now ≡ true
  pub split : whole.bytes.now ≡ p.0.bytes.now ++ end ∷ p.1.bytes.now
  pub first_place : p.0.place ≡ whole.place
  pub rest_place : p.1.place ≡ whole.place + length p.0.bytes.now + 1
