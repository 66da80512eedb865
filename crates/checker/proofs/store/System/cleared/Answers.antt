use Rattle.std.proofs.Common.{[]}
use Rattle.checker.proofs.store.System.cleared.Goals as goal

pub invariant_of-result : goal.invariant_of-result
invariant_of-result c = record {
  run = ∣ ([], c.clear.ensures) ∣₁;
}
