use Rattle.std.proofs.Common.{take}
use Rattle.listing.specs.Printing.{Printed}
use Rattle.listing.specs.Words.{names_after}
use Rattle.listing.proofs.printer.Printer.more_letters.Given as goal

abbrev pub invariant-loop-letter : goal.invariant-loop-letter
invariant-loop-letter l = Printed l.initial.self (names_after (take l.letter-index l.letters)) l.self
