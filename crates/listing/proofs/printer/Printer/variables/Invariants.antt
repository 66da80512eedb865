use Rattle.witness.specs.Holding.{contents_of}
use Rattle.listing.specs.Printing.{Printed}
use Rattle.listing.proofs.Variables.{table}
use Rattle.listing.proofs.printer.Printer.variables.Given as goal

abbrev pub invariant-loop-variable : goal.invariant-loop-variable
invariant-loop-variable l = Printed l.initial.self (table (contents_of l.witness) l.variable) l.self
