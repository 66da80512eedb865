-- What is sought in the sides: the first variable, and the first equation whose sides differ. Assumes nothing.
use Rattle.std.specs.Prelude.{◌≡◌, ℕ, ◌-◌, ◌<◌, ◌≤◌, Bool, true, false, List, [], length, take, Some, None, Option, slice_index_or}
use Rattle.std.specs.List.{AllByRecursion}
use Rattle.systems.specs.declared.Place.TheVariants.{Letter, Variable}
use Rattle.systems.specs.Sides.{Equation, SameSides}
use Rattle.sides.specs.declared.mark.Mark.{Mark}
use Rattle.sides.specs.declared.mark.Mark.TheVariants.{End, At}

-- this number is the first that passes the test, or none does
abbrev pub First : Option ℕ → (ℕ → Bool) → Type 0
First None p = (y : ℕ) → p y ≡ false
First (Some x) p = (p x ≡ true) × ((y : ℕ) → y < x → p y ≡ false)

-- the equation of this number, from 1, is the first whose sides differ, or none is
abbrev pub FirstUnequal : Option ℕ → List Equation → Type 0
FirstUnequal None equations = AllByRecursion SameSides equations
FirstUnequal (Some k) equations = (1 ≤ k) × (k ≤ length equations) × AllByRecursion SameSides (take (k - 1) equations) × (SameSides (slice_index_or equations (k - 1) ([], [])) → ⊥)

-- the variable that stands here
abbrev pub any_variable_at : Mark → Option ℕ
any_variable_at End = None
any_variable_at (At (Letter a)) = None
any_variable_at (At (Variable x)) = Some x

-- an end of a side stands here
abbrev pub is_end : Mark → Bool
is_end End = true
is_end (At place) = false
