use Rattle.std.proofs.Common.{◌<◌, inr, refl, subst, ◌∙◌}
use Rattle.systems.specs.Choices.{swap}
use Rattle.systems.specs.Sides.{on_sides, places}
use Rattle.leftover.proofs.store.Leftover.fill_in.Goals as goal

pub returns-in-Err-clause-answer : goal.returns-in-Err-clause-answer
returns-in-Err-clause-answer c = (
  inr (subst (λ r. 2048 < places (on_sides (swap c.args.x r) c.args.self.now.filled)) (c.as_slice.ensures.value ∙ c.put_row.ensures) c.in-Err.ensures.0),
  refl,
  c.in-Err.ensures.2,
)
