use Rattle.listing.specs.Printing.{Printed}
use Rattle.listing.proofs.Texts.{front}
use Rattle.listing.proofs.printer.Printer.rules.Given as goal

abbrev pub invariant-loop-i : goal.invariant-loop-i
invariant-loop-i l = Printed l.initial.self (front l.rules l.i) l.self
