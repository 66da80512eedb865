use Rattle.std.proofs.Common.{[]}
use Rattle.checker.proofs.store.System.new.Goals as goal

pub invariant_of-result : goal.invariant_of-result
invariant_of-result c = record {
  run = ∣ ([], c.in_ok-stand.ensures) ∣₁;
}
