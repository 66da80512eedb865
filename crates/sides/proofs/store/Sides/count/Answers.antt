use Rattle.std.proofs.Common.{◌≡◌, ◌≤◌, ◌+◌, ◌*◌, ltb, [], length, sym, ap, ◌∙◌, subst, arith}
use Rattle.systems.specs.Choices.{swap}
use Rattle.systems.specs.Sides.{Side, on_sides, places}
use Rattle.sides.specs.Marks.{count_of, equations_in}
use Rattle.sides.proofs.Flat.{count_all, live_count}
use Rattle.sides.proofs.Keeps.{few_places, swap_places}
use Rattle.sides.proofs.store.Sides.count.Goals as goal

pub returns : goal.returns
returns c =
    let ms = c.self.inside.marks in
    let x = c.args.x in
    let n : c.count.result ≡ count_of x ms = c.count.ensures.value ∙ ap (count_of x) c.as_slice.ensures.value in
    let replaced : (row : Side) → places (on_sides (swap x row) (equations_in ms)) + c.count.result ≡ places (equations_in ms) + c.count.result * length row =
    λ row. subst (λ k. places (on_sides (swap x row) (equations_in ms)) + k ≡ places (equations_in ms) + k * length row) (sym n) (swap_places x row ms c.self.invariant.whole) in
    let few : places (equations_in ms) ≤ 2048 = few_places ms c.self.inside.number c.self.invariant in
    rw (← c.self.view_is) (record {
      value = n ∙ count_all x ms c.self.invariant.whole;
      live = live_count x ms c.self.invariant.whole ∙ ap (ltb 0) (sym n);
      replaced = replaced;
      bound = omega (arith, replaced []);
      few = few;
    })
