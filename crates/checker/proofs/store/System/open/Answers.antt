use Rattle.std.proofs.Common.{refl, ap, ◌∙◌}
use Rattle.systems.specs.Sides.{stands_in}
use Rattle.systems.specs.Standings.{Standing}
use Rattle.checker.proofs.Runs.{opening_run, some_opening}
use Rattle.checker.proofs.store.System.open.Goals as goal

pub invariant_of-result : goal.invariant_of-result
invariant_of-result c =
    let s = c.args.self in
    let S : Standing = s.stand in
    record {
      run = some_opening S c.variables-system.result s.run (λ x low. c.variables-system.ensures x low ∙ ap (λ E. stands_in E x) c.sides.ensures);
    }

pub returns : goal.returns
returns c =
    let s = c.args.self in
    let S : Standing = s.stand in
    record {
      stands = refl;
      run = λ loads run. opening_run loads S c.variables-system.result run (λ x low. c.variables-system.ensures x low ∙ ap (λ E. stands_in E x) c.sides.ensures);
    }
