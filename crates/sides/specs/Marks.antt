-- All sides as one list of marks, the equations that a list of marks holds, and what each pass makes of it. Assumes nothing.
use Rattle.std.specs.Prelude.{◌≡◌, ℕ, ◌+◌, ◌*◌, ◌≤◌, Bool, false, cond, List, [], ◌∷◌, ◌++◌, map, length}
use Rattle.std.specs.List.{count_by, flat_map}
use Rattle.systems.specs.declared.Place.{Place}
use Rattle.systems.specs.declared.Place.TheVariants.{Letter}
use Rattle.systems.specs.Rows.{replace_pairs, replace_blocks}
use Rattle.systems.specs.Sides.{Side, Equation, sides, is_letter, is_variable}
use Rattle.sides.specs.declared.mark.Mark.{Mark}
use Rattle.sides.specs.declared.mark.Mark.TheVariants.{End, At}

-- the marks of the sides, in order, an end after each
abbrev pub flat : List Side → List Mark
flat [] = []
flat (side ∷ more) = map At side ++ (End ∷ flat more)

-- one more place in front of the first side
abbrev pub onto : Place → List Side → List Side
onto place [] = []
onto place (side ∷ more) = (place ∷ side) ∷ more

-- the sides that the marks hold
abbrev pub sides_of : List Mark → List Side
sides_of [] = []
sides_of (End ∷ marks) = [] ∷ sides_of marks
sides_of (At place ∷ marks) = onto place (sides_of marks)

-- two sides in turn make an equation
abbrev pub pair_up : List Side → List Equation
pair_up [] = []
pair_up (left ∷ []) = []
pair_up (left ∷ (right ∷ more)) = (left, right) ∷ pair_up more

-- the equations that the marks hold
unfoldable pub equations_in : List Mark → List Equation
equations_in marks = pair_up (sides_of marks)

-- the marks of equations
unfoldable pub marks_of : List Equation → List Mark
marks_of equations = flat (sides equations)

-- the marks hold equations, and nothing else
abbrev pub Whole : List Mark → Type 0
Whole marks = marks_of (equations_in marks) ≡ marks

-- the marks hold so many equations, and no more of them or of their places than may be
pub record Kept (marks : List Mark) (number : ℕ) : Type 0 where
  pub whole : Whole marks
  pub counted : number ≡ length (equations_in marks)
  pub few : number ≤ 32
  pub short : length marks ≤ 2048 + 2 * number

-- a test of places, at marks: an end passes none
abbrev pub lifted : (Place → Bool) → Mark → Bool
lifted p End = false
lifted p (At place) = p place

-- how many marks are places of x
abbrev pub count_of : ℕ → List Mark → ℕ
count_of x = count_by (lifted (is_variable x))

-- what becomes of a mark where the variable x becomes the row v
abbrev pub mark_swapped : ℕ → Side → Mark → List Mark
mark_swapped x v mark = cond (lifted (is_variable x) mark) (map At v) (mark ∷ [])

-- the same of every mark
abbrev pub mark_swap : ℕ → Side → List Mark → List Mark
mark_swap x v = flat_map (mark_swapped x v)

-- each a with b in the next place becomes c
abbrev pub mark_pairs : ℕ → ℕ → ℕ → List Mark → List Mark
mark_pairs a b c = replace_pairs (lifted (is_letter a)) (lifted (is_letter b)) (At (Letter c))

-- each maximal row of exactly n times a becomes c
abbrev pub mark_blocks : ℕ → ℕ → ℕ → List Mark → List Mark
mark_blocks a n c = replace_blocks (lifted (is_letter a)) (At (Letter a)) n (At (Letter c)) 0
