use Rattle.std.proofs.Common.{subst}
use Rattle.witness.specs.Holding.{contents_of}
use Rattle.listing.specs.Printing.{Printed}
use Rattle.listing.proofs.Printers.{printed_then}
use Rattle.listing.proofs.Variables.{found_text}
use Rattle.listing.proofs.printer.Printer.variable.Goals as goal

pub returns : goal.returns
returns c =
    subst (λ bs. Printed c.args.self.now bs c.bytes-3.new.self) (found_text (contents_of c.args.witness.now) c.args.variable c.in-Some-Ok.word.now c.in-Some-Ok.total c.in-Some-Ok.ensures c.in-Some-Ok.ensures'.answer)
    (printed_then c.bytes.ensures (printed_then c.number.ensures (printed_then c.bytes-2.ensures (printed_then c.word-2.ensures c.bytes-3.ensures))))
