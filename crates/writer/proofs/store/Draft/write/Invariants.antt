use Rattle.std.proofs.Common.{◌-◌}
use Rattle.writer.proofs.Turning.{Ends, Going}
use Rattle.writer.specs.declared.store.Draft.{Draft}
use Rattle.writer.proofs.store.Draft.write.Given as goal

abbrev pub invariant-loop-x : goal.invariant-loop-x
invariant-loop-x l = Going l.self × ((z : Draft) → Ends l.self z → Ends l.initial.self z)

abbrev pub decreases-loop-x : goal.decreases-loop-x
decreases-loop-x l = 1050 - l.self.count
