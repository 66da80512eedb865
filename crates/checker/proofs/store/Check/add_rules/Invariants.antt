use Rattle.std.proofs.Common.{◌≡◌, [], reverse, take}
use Rattle.witness.specs.Holding.{contents_of}
use Rattle.checker.proofs.store.Check.add_rules.Given as goal

abbrev pub invariant-loop-rule : goal.invariant-loop-rule
invariant-loop-rule l = contents_of l.witness ≡ record { rules = reverse (take l.rule-index l.rule-items); entries = [] }
