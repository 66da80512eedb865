use Rattle.std.proofs.Common.{sym, subst}
use Rattle.model.specs.declared.Rule.TheVariants.{Block}
use Rattle.format.specs.Listing.{rule_line}
use Rattle.listing.specs.Printing.{Printed}
use Rattle.listing.proofs.Printers.{printed_then}
use Rattle.listing.proofs.printer.Printer.rule.Goals as goal

pub returns-in-Pair : goal.returns-in-Pair
returns-in-Pair c =
    subst (λ r. Printed c.args.self.now (rule_line c.args.made r) c.letter-in-Pair-2.new.self) (sym c.in-Pair.is)
    (printed_then c.letter.ensures (printed_then c.bytes.ensures (printed_then c.letter-in-Pair.ensures (printed_then c.bytes-in-Pair.ensures c.letter-in-Pair-2.ensures))))

pub returns-in-Block : goal.returns-in-Block
returns-in-Block c =
    subst (λ r. Printed c.args.self.now (rule_line c.args.made r) c.number.new.self) (sym c.in-Block.is)
    (subst (λ n. Printed c.args.self.now (rule_line c.args.made (Block c.in-Block.a n)) c.number.new.self) c.from.ensures
    (printed_then c.letter.ensures (printed_then c.bytes-in-Block.ensures (printed_then c.letter-in-Block.ensures (printed_then c.bytes-in-Block-2.ensures c.number.ensures)))))
