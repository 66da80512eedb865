use Rattle.std.proofs.Common.{◌≡◌}
use Rattle.guarantee.specs.Closing.{entries}
use Rattle.witness.specs.Holding.{contents_of}
use Rattle.checker.specs.Holding.{standing, system_of}
use Rattle.checker.proofs.store.Check.add_words.Given as goal

abbrev pub invariant-loop-variable : goal.invariant-loop-variable
invariant-loop-variable l = contents_of l.witness ≡ record { rules = (standing l.self).rules; entries = entries (system_of l.self) (standing l.self) l.variable-index }
