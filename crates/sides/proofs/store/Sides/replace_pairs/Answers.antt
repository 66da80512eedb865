use Rattle.std.proofs.Common.{◌≡◌, length, ap, ◌∙◌, arith}
use Rattle.systems.specs.declared.Place.TheVariants.{Letter}
use Rattle.systems.specs.Sides.{is_letter, on_sides, side_pairs}
use Rattle.rows.proofs.Agreeing.{same_pairs}
use Rattle.sides.specs.declared.mark.Mark.TheVariants.{At}
use Rattle.sides.specs.Marks.{equations_in, lifted, Whole}
use Rattle.sides.proofs.Flat.{pairs_hold}
use Rattle.sides.proofs.Keeps.{kept}
use Rattle.sides.proofs.Letters.{equal_to_letter}
use Rattle.sides.proofs.store.Sides.replace_pairs.Goals as goal
use Rattle.sides.proofs.store.Sides.replace_pairs.Goals.{After-swap}

after : (c : After-swap) → (equations_in c.swap.new.x ≡ on_sides (side_pairs c.args.a c.args.b c.args.new) (equations_in c.self.inside.marks)) × Whole c.swap.new.x
after c =
    let a = c.args.a in
    let b = c.args.b in
    let new = c.args.new in
    pairs_hold a b new c.self.inside.marks c.swap.new.x c.self.invariant.whole
    (c.swap.ensures.x_after ∙ c.put_pairs.ensures.items ∙ same_pairs _ (lifted (is_letter a)) (equal_to_letter a) _ (lifted (is_letter b)) (equal_to_letter b) (At (Letter new)) _)

pub invariant_of-self : goal.invariant_of-self
invariant_of-self c =
    kept (side_pairs c.args.a c.args.b c.args.new) c.self.inside.marks c.swap.new.x c.self.inside.number c.self.invariant (after c)
    (omega (arith, ap length c.swap.ensures.x_after))

pub returns : goal.returns
returns c = (after (goal.at.returns c).After-swap).0 ∙ ap (on_sides (side_pairs c.args.a c.args.b c.args.new)) c.self.view_is
