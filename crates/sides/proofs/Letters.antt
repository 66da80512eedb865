-- The derived equality with the mark of a letter is the test for it. Assumes nothing.
use Rattle.std.proofs.Common.{◌≡◌, ℕ, refl}
use Rattle.systems.specs.declared.Place.TheVariants.{Letter, Variable}
use Rattle.systems.specs.Sides.{is_letter}
use Rattle.sides.specs.declared.mark.Mark.{Mark}
use Rattle.sides.specs.declared.mark.Mark.TheVariants.{End, At}
use Rattle.sides.specs.contracts.mark.MarkPartialEq.TheImpl.{ghosts}
use Rattle.sides.specs.Marks.{lifted}

pub equal_to_letter : (a : ℕ) (m : Mark) → ghosts.eq m (At (Letter a)) ≡ lifted (is_letter a) m
equal_to_letter a End = refl
equal_to_letter a (At (Letter b)) = refl
equal_to_letter a (At (Variable x)) = refl
