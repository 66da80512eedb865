use Rattle.std.proofs.Common.{length, ap, subst, arith}
use Rattle.std.proofs.lemmas.List.{length-reverse}
use Rattle.text.specs.Pieces.{lines_text}
use Rattle.format.specs.Listing.{rule_lines}
use Rattle.format.proofs.Lengths.{listing_length}
use Rattle.witness.specs.Holding.{contents_of}
use Rattle.listing.specs.Printing.{Printed}
use Rattle.listing.proofs.Holding.{known_few}
use Rattle.listing.proofs.Printers.{printed_then}
use Rattle.listing.proofs.Texts.{listing_text}
use Rattle.listing.proofs.printer.Printer.tables.Goals as goal

pub rules-requires-2-clause-few : goal.rules-requires-2-clause-few
rules-requires-2-clause-few c = omega (arith, known_few c.args.witness.now, ap length c.rules.ensures, length-reverse c.rules.result.now)

pub rules-requires-2-clause-room : goal.rules-requires-2-clause-room
rules-requires-2-clause-room c = omega (arith, listing_length (contents_of c.args.witness.now), ap (λ l. length (lines_text (rule_lines l))) c.rules.ensures)

pub bytes-requires-2 : goal.bytes-requires-2
bytes-requires-2 c =
    omega (arith, listing_length (contents_of c.args.witness.now), ap (λ l. length (lines_text (rule_lines l))) c.rules.ensures)

pub variables-requires : goal.variables-requires
variables-requires c =
    omega (arith, listing_length (contents_of c.args.witness.now), ap (λ l. length (lines_text (rule_lines l))) c.rules.ensures)

pub returns : goal.returns
returns c =
    let rules = subst (λ l. Printed c.bytes.new.self (lines_text (rule_lines l)) c.rules-2.new.self) c.rules.ensures c.rules-2.ensures in
    subst (λ bs. Printed c.args.self.now bs c.variables.new.self) (listing_text (contents_of c.args.witness.now))
    (printed_then c.bytes.ensures (printed_then rules (printed_then c.bytes-2.ensures c.variables.ensures)))
