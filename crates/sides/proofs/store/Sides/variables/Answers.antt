use Rattle.std.proofs.Common.{sym, ap, ◌∙◌}
use Rattle.systems.specs.Rows.{any}
use Rattle.systems.specs.Sides.{is_variable, stands_in}
use Rattle.sides.specs.Marks.{lifted}
use Rattle.sides.proofs.Flat.{live_count, count_some}
use Rattle.sides.proofs.store.Sides.variables.Goals as goal

pub returns : goal.returns
returns c =
    let ms = c.self.inside.marks in
    λ x lt.
    c.variables.ensures x lt ∙ ap (any (lifted (is_variable x))) c.as_slice.ensures.value ∙ count_some x ms ∙ sym (live_count x ms c.self.invariant.whole) ∙ ap (λ E. stands_in E x) c.self.view_is
