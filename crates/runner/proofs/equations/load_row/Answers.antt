use Rattle.std.proofs.Common.{◌≡◌, Ok, sym, refl, arith}
use Rattle.std.proofs.lemmas.Result.{MatchResult-at_ok}
use Rattle.runner.proofs.equations.load_row.Goals as goal

pub returns-in-Ok : goal.returns-in-Ok
returns-in-Ok c =
    let ok : c.read_equation.result ≡ Ok c.in_ok-sides.sides = grind arith in
    record {
      e = (c.in_ok-sides.sides.left.now, c.in_ok-sides.sides.right.now);
      is = MatchResult-at_ok _ _ _ ok c.read_equation.ensures;
      taken = sym c.in-Ok.ensures.refusal;
      run = c.in-Ok.ensures.run;
    }

pub returns-in-Err : goal.returns-in-Err
returns-in-Err c =
    let ok : c.read_equation.result ≡ Ok c.in_ok-sides.sides = grind arith in
    (refl, ((c.in_ok-sides.sides.left.now, c.in_ok-sides.sides.right.now), MatchResult-at_ok _ _ _ ok c.read_equation.ensures, sym c.in-Err.ensures.refusal))
