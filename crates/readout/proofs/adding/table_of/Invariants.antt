use Rattle.std.proofs.Common.{◌≡◌, ◌+◌, ◌*◌, ◌≤◌, ◌++◌, length}
use Rattle.witness.specs.Holding.{contents_of}
use Rattle.readout.specs.Rows.{rows}
use Rattle.readout.proofs.adding.table_of.Given as goal

abbrev pub invariant-loop-variable : goal.invariant-loop-variable
invariant-loop-variable l =
    (l.text.items ≡ l.initial.text.items ++ rows (contents_of l.witness) l.variable)
    × (length l.text.items ≤ 24 + 100 * l.variable)
