-- What the sides hold. Assumes nothing.
use Rattle.std.specs.Prelude.{List, []}
use Rattle.std.specs.List.{flat_map}
use Rattle.systems.specs.Sides.{Side, Equation, sides}
use Rattle.systems.specs.Standings.{Standing}

-- these equations stand, and nothing is made or popped
abbrev pub only : List Equation → Standing
only equations = record { equations = equations; rules = []; pops = [] }

-- the places of all sides, in order
abbrev pub all_places : List Equation → Side
all_places equations = flat_map (λ side. side) (sides equations)
