use Rattle.checker.specs.Holding.{loading}
use Rattle.runner.proofs.Told.{weaker}
use Rattle.runner.proofs.running.load_and_limit.Goals as goal

pub returns : goal.returns
returns c = λ all starts none.
    let first = c.in_ok-load_rows.ensures all starts none in
    weaker c.limit_rows.result _ _ _ _ (λ limits h. (first.0, h.0, h.1, h.2, first.2)) (λ why h. h) (c.limit_rows.ensures all first.0 first.1)
