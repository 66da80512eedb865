-- What is left at a state. Assumes nothing.
use Rattle.std.specs.Prelude.{◌≡◌, ℕ, ◌<◌, cond, [], map, length, Some, None, slice_index_or}
use Rattle.systems.specs.declared.Place.TheVariants.{Letter}
use Rattle.systems.specs.Sides.{sides}
use Rattle.systems.specs.Standings.{fresh}
use Rattle.writing.specs.Writer.{State, lives, filled_sides}
use Rattle.leftover.specs.declared.store.Leftover.{Leftover}

-- no variable is live, no equation stands, and nothing is made
pub record Nothing (r : Leftover) : Type 0 where
  pub words : (x : ℕ) → x < 26 → slice_index_or r.words x None ≡ None
  pub filled : r.filled ≡ []
  pub next : r.fresh ≡ 26

-- the words of the live variables, the filled-in sides and the next letter
pub record Leaves (r : Leftover) (st : State) : Type 0 where
  pub words : (x : ℕ) → x < 26 → slice_index_or r.words x None ≡ cond (lives st x) (Some (st.words x)) None
  pub all : length r.words ≡ 26
  pub filled : sides r.filled ≡ map (map Letter) (filled_sides st)
  pub next : r.fresh ≡ fresh st.stands
