use Rattle.std.proofs.Common.{◌∷◌, decimal, sym, subst}
use Rattle.text.proofs.Names.{letter_made}
use Rattle.listing.specs.Printing.{Printed}
use Rattle.listing.proofs.Printers.{printed_then}
use Rattle.listing.proofs.printer.Printer.letter.Goals as goal

pub returns-else-a-lt26 : goal.returns-else-a-lt26
returns-else-a-lt26 c =
    subst (λ bs. Printed c.args.self.now bs c.number.new.self) (sym (letter_made c.args.a c.if-a-lt26.false))
    (subst (λ n. Printed c.args.self.now (35 ∷ decimal n) c.number.new.self) c.from.ensures
    (printed_then c.bytes-else-a-lt26.ensures c.number.ensures))
