-- A draft follows a state: what stands, and what is left of the words. Assumes nothing.
use Rattle.std.specs.Prelude.{◌≡◌, ◌+◌, ◌≤◌, List, length}
use Rattle.systems.specs.declared.Choice.{Choice}
use Rattle.systems.specs.Sides.{Words}
use Rattle.model.specs.Buffers.{Put}
use Rattle.writing.specs.Records.{records_of}
use Rattle.writing.specs.Writer.{State, follow, Part}
use Rattle.writing.specs.Counts.{weight}
use Rattle.writing.proofs.Limited.{Holds}
use Rattle.writing.proofs.Parts.{AllSure}
use Rattle.leftover.specs.declared.store.Leftover.{Leftover}
use Rattle.leftover.specs.Left.{Leaves}
use Rattle.writer.specs.declared.store.Draft.{Draft}

-- from this state on the rounds can be written
pub record Starts (σ : Words) (r : Leftover) (st : State) : Type 0 where
  pub leaves : Leaves r st
  pub holds : Holds σ st
  pub light : weight st ≤ 1050

-- the draft has what is left at the state
abbrev pub Follows : Draft → State → Type 0
Follows w st = Leaves w.left.now st

-- choices are put into the list, behind those that are there
pub record Wrote (old : Draft) (choices : List Choice) (new : Draft) : Type 0 where
  pub long : length new.list.now ≡ length old.list.now
  pub put : Put old.list.now old.count (records_of choices) new.list.now new.count

-- the draft follows a state at which the choices of a part fit, with room for them
pub record At (σ : Words) (p : Part) (w : Draft) (st : State) : Type 0 where
  pub follows : Follows w st
  pub holds : Holds σ st
  pub sure : AllSure st (p st)
  pub room : w.count + weight st ≤ 1050
  pub list : 1050 ≤ length w.list.now

abbrev pub Ready : Part → Draft → Type 0
Ready p w = ∥ ((σ : Words) × (st : State) × At σ p w st) ∥₁

-- the part is written into the same list, at each state that the draft may follow, and then it follows the state behind the part
pub record Does (p : Part) (old new : Draft) : Type 0 where
  pub same : new.list.ghost_name ≡ old.list.ghost_name
  pub writes : (σ : Words) (st : State) → At σ p old st → Wrote old (p st) new × Follows new (follow st (p st))
