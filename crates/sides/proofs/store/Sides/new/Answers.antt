use Rattle.std.proofs.Common.{sym, ap, ◌∙◌, subst}
use Rattle.sides.specs.Marks.{Kept, equations_in}
use Rattle.sides.proofs.Flat.{none_hold}
use Rattle.sides.proofs.Keeps.{none_kept}
use Rattle.sides.proofs.store.Sides.new.Goals as goal

pub invariant_of-result : goal.invariant_of-result
invariant_of-result c = subst (λ ms. Kept ms 0) (sym c.in_ok-new.ensures) none_kept

pub returns : goal.returns
returns c = ap equations_in c.in_ok-new.ensures ∙ none_hold
