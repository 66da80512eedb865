-- What stands in a system and in a check, and the variables of a check's system. Assumes nothing.
use Rattle.std.specs.Prelude.{ℕ, Bool, false, cond, List, nat_lt, slice_index_or}
use Rattle.systems.specs.declared.Choice.{Choice}
use Rattle.systems.specs.Runs.{Load}
use Rattle.systems.specs.Standings.{Standing}
use Rattle.checker.specs.declared.store.Check.{Check}
use Rattle.checker.specs.declared.store.System.{System}
use Rattle.checker.specs.Running.{AfterRun}

abbrev pub loading : System → Standing
loading s = s.stand

abbrev pub standing : Check → Standing
standing c = c.stand

-- those of A to Z that are marked
abbrev pub marked : List Bool → ℕ → Bool
marked flags x = cond (nat_lt x 26) (slice_index_or flags x false) false

-- the variables of the system
abbrev pub system_of : Check → ℕ → Bool
system_of c = marked c.system

-- these loads, the opening and these choices led to this check
abbrev pub CameBy : List Load → List Choice → Check → Type 0
CameBy loads choices c = AfterRun loads choices (standing c) c.system
