use Rattle.std.proofs.Common.{◌≡◌, ℕ, ◌<◌, false}
use Rattle.guarantee.specs.Closing.{fails}
use Rattle.checker.specs.Ending.{meaning}
use Rattle.checker.specs.Holding.{standing, system_of}
use Rattle.checker.proofs.store.Check.first_failing.Given as goal

abbrev pub invariant-loop-variable : goal.invariant-loop-variable
invariant-loop-variable g l = let k = l.kind in (y : ℕ) → y < l.variable-index → fails (meaning (g.K.Measure.single k) (g.K.Measure.nothing k) (g.K.Measure.joined k) (g.K.Measure.passed k)) (system_of l.self) (standing l.self) y ≡ false
