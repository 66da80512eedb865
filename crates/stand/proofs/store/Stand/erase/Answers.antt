use Rattle.std.proofs.Common.{◌≡◌, ◌<◌, ◌≤◌, true, [], None, sym, ap, ◌∙◌, append-nil, arith}
use Rattle.std.proofs.lemmas.Bool.{lt-ltb}
use Rattle.systems.specs.declared.Choice.TheVariants.{Erase}
use Rattle.systems.specs.Choices.{swap}
use Rattle.systems.specs.Refusals.{choice_refusal}
use Rattle.systems.specs.Sides.{on_sides, places, stands_in}
use Rattle.systems.specs.Standings.{Standing, live}
use Rattle.stand.proofs.Taking.{not_refused, only_ok, takes}
use Rattle.stand.proofs.store.Stand.erase.Goals as goal

pub returns : goal.returns
returns c =
    let S : Standing = c.args.self.now in
    let E = c.self.inside.sides in
    let x = c.args.x in
    let same = ap (λ T. T.equations) c.self.view_is in
    let some : 0 < c.count.result = omega arith in
    let alive : live S x ≡ true = sym (ap (λ F. stands_in F x) same) ∙ c.count.ensures.live ∙ lt-ltb 0 c.count.result some in
    let none : choice_refusal S (Erase x) ≡ None = not_refused S x alive in
    let fewer : places (on_sides (swap x []) E) ≤ 2048 = omega (arith, c.count.ensures.replaced []) in
    let done = only_ok c.replace_variable.result c.replace_variable.ensures (λ e h. omega (arith, h.0)) in
    record {
      refusal = done.0 ∙ sym none;
      stands = takes S _ (Erase x) none (done.1.1 ∙ ap (on_sides (swap x [])) same) (ap (λ T. T.rules) c.self.view_is) (ap (λ T. T.pops) c.self.view_is ∙ sym (append-nil S.pops));
    }
