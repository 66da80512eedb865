use Rattle.std.proofs.Common.{sym, ap, ◌∙◌, subst}
use Rattle.sides.specs.Marks.{Kept, equations_in}
use Rattle.sides.proofs.Flat.{none_hold}
use Rattle.sides.proofs.Keeps.{none_kept}
use Rattle.sides.proofs.store.Sides.clear.Goals as goal

pub invariant_of-self : goal.invariant_of-self
invariant_of-self c = subst (λ ms. Kept ms 0) (sym c.clear.ensures) none_kept

pub returns : goal.returns
returns c = ap equations_in c.clear.ensures ∙ none_hold
