use Rattle.std.proofs.Common.{min, ap, ◌∙◌}
use Rattle.std.specs.List.{filter_map, reduce}
use Rattle.sides.specs.Seeking.{any_variable_at}
use Rattle.sides.proofs.Ending.{first_live}
use Rattle.sides.proofs.store.Sides.first_live.Goals as goal

pub returns : goal.returns
returns c =
    let found = c.least_variable.ensures ∙ ap (λ ms. reduce min (filter_map any_variable_at ms)) c.as_slice.ensures.value in
    rw (← c.self.view_is, found) (first_live c.self.inside.marks c.self.invariant.whole)
