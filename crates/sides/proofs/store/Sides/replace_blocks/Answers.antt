use Rattle.std.proofs.Common.{◌≡◌, ◌<◌, eqb, length, sym, ap, ◌∙◌, arith}
use Rattle.std.proofs.lemmas.Bool.{cond-false, ne_eqb}
use Rattle.std.specs.Int.NonZero.{non_zero_u32_get}
use Rattle.systems.specs.declared.Place.TheVariants.{Letter}
use Rattle.systems.specs.Sides.{is_letter, on_sides, side_blocks}
use Rattle.rows.proofs.Agreeing.{same_blocks}
use Rattle.sides.specs.declared.mark.Mark.TheVariants.{At}
use Rattle.sides.specs.Marks.{equations_in, lifted, Whole, mark_blocks}
use Rattle.sides.proofs.Flat.{blocks_hold}
use Rattle.sides.proofs.Keeps.{kept}
use Rattle.sides.proofs.Letters.{equal_to_letter}
use Rattle.sides.proofs.store.Sides.replace_blocks.Goals as goal
use Rattle.sides.proofs.store.Sides.replace_blocks.Goals.{After-swap}

-- the number that is not 0 is the one that was passed
number : (c : After-swap) → non_zero_u32_get c.in-Some.n ≡ c.args.n
number c = c.in-Some.ensures

some : (c : After-swap) → 0 < c.args.n
some c = omega (arith, number c, c.in-Some.n.ok)

after : (c : After-swap) → (equations_in c.swap.new.x ≡ on_sides (side_blocks c.args.a c.args.n c.args.new) (equations_in c.self.inside.marks)) × Whole c.swap.new.x
after c =
    let a = c.args.a in
    let n = c.args.n in
    let new = c.args.new in
    let marks = c.self.inside.marks in
    blocks_hold a n new (some c) marks c.swap.new.x c.self.invariant.whole
    (c.swap.ensures.x_after ∙ c.put_blocks.ensures.items ∙ same_blocks _ (lifted (is_letter a)) (equal_to_letter a) (At (Letter a)) (non_zero_u32_get c.in-Some.n) (At (Letter new)) 0 marks ∙ ap (λ k. mark_blocks a k new marks) (number c))

pub invariant_of-self : goal.invariant_of-self
invariant_of-self c =
    kept (side_blocks c.args.a c.args.n c.args.new) c.self.inside.marks c.swap.new.x c.self.inside.number c.self.invariant (after c)
    (omega (arith, ap length c.swap.ensures.x_after))

pub returns : goal.returns
returns c =
    let p = (goal.at.returns c).After-swap in
    let f = on_sides (side_blocks c.args.a c.args.n c.args.new) in
    (after p).0 ∙ ap f c.self.view_is ∙ sym (cond-false (eqb c.args.n 0) c.args.self.now (f c.args.self.now) (ne_eqb c.args.n 0 (λ e. omega (arith, some p, e))))
