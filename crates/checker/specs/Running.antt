-- The runs that lead to what stands. Assumes nothing.
use Rattle.std.specs.Prelude.{◌≡◌, ℕ, ◌<◌, Bool, false, List, slice_index_or}
use Rattle.systems.specs.declared.Choice.{Choice}
use Rattle.systems.specs.Runs.{Load, opened, loaded, Reaches}
use Rattle.systems.specs.Sides.{stands_in}
use Rattle.systems.specs.Standings.{Standing}

-- from new, these loads led to S
abbrev pub AfterLoads : List Load → Standing → Type 0
AfterLoads loads S = S ≡ opened loads

-- these loads, the opening and these choices led to S, and the variables of the system are those marked
pub record AfterRun (loads : List Load) (choices : List Choice) (S : Standing) (system : List Bool) : Type 0 where
  pub reaches : Reaches loads choices S
  pub variables_of_system : (x : ℕ) → x < 26 → slice_index_or system x false ≡ stands_in (loaded loads) x

-- some did
abbrev pub SomeLoads : Standing → Type 0
SomeLoads S = ∥ ((loads : List Load) × AfterLoads loads S) ∥₁

abbrev pub SomeRun : Standing → List Bool → Type 0
SomeRun S system = ∥ ((loads : List Load) × (choices : List Choice) × AfterRun loads choices S system) ∥₁
