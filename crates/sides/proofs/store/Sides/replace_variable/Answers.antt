use Rattle.std.proofs.Common.{◌≡◌, ◌≤◌, [], length, refl, ap, ◌∙◌, arith}
use Rattle.systems.specs.Choices.{swap}
use Rattle.systems.specs.Sides.{on_sides, places}
use Rattle.sides.specs.Marks.{equations_in, Whole, mark_swap}
use Rattle.sides.proofs.Flat.{swap_holds}
use Rattle.sides.proofs.Keeps.{kept, still_long}
use Rattle.sides.proofs.store.Sides.replace_variable.Goals as goal
use Rattle.sides.proofs.store.Sides.replace_variable.Goals.{After-as_slice, After-swap}

pub overflow_sub-kept : goal.overflow_sub-kept
overflow_sub-kept c = omega (arith, c.count-count.ensures.replaced [])

pub returns-then-saturating_add-gt-MOST_PLACES : goal.returns-then-saturating_add-gt-MOST_PLACES
returns-then-saturating_add-gt-MOST_PLACES c = (omega (arith, c.count-count.ensures.replaced c.args.row.now, c.count-count.ensures.replaced []), refl, refl)

-- there is room
fits : (c : After-as_slice) → places (on_sides (swap c.args.x c.args.row.now) c.args.self.now) ≤ 2048
fits c = omega (arith, c.count-count.ensures.replaced c.args.row.now, c.count-count.ensures.replaced [])

pub put_swapped-requires : goal.put_swapped-requires
put_swapped-requires c =
    let ms = c.self.inside.marks in
    let f = mark_swap c.args.x c.args.row.now in
    let r = swap c.args.x c.args.row.now in
    let e = swap_holds c.args.x c.args.row.now ms (f ms) c.self.invariant.whole refl in
    omega (arith, still_long r ms (f ms) c.self.inside.number e c.self.invariant.counted, ap (λ t. length (f t)) c.as_slice.ensures.value, ap (λ E. places (on_sides r E)) c.self.view_is, fits c)

after : (c : After-swap) → (equations_in c.swap.new.x ≡ on_sides (swap c.args.x c.args.row.now) (equations_in c.self.inside.marks)) × Whole c.swap.new.x
after c = swap_holds c.args.x c.args.row.now c.self.inside.marks c.swap.new.x c.self.invariant.whole (c.swap.ensures.x_after ∙ c.put_swapped.ensures ∙ ap (mark_swap c.args.x c.args.row.now) c.as_slice.ensures.value)

pub invariant_of-self : goal.invariant_of-self
invariant_of-self c =
    let r = swap c.args.x c.args.row.now in
    kept r c.self.inside.marks c.swap.new.x c.self.inside.number c.self.invariant (after c)
    (omega (arith, still_long r c.self.inside.marks c.swap.new.x c.self.inside.number (after c) c.self.invariant.counted, ap (λ E. places (on_sides r E)) c.self.view_is, fits (goal.at.After-swap c).After-as_slice))

pub returns : goal.returns
returns c =
    let p = (goal.at.returns c).After-swap in
    (fits (goal.at.After-swap p).After-as_slice, (after p).0 ∙ ap (on_sides (swap c.args.x c.args.row.now)) c.self.view_is)
