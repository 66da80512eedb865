use Rattle.std.proofs.Common.{◌≤◌, sym, subst, arith}
use Rattle.model.specs.Witnesses.{least}
use Rattle.text.specs.Pieces.{lines_text}
use Rattle.format.specs.Listing.{entry_lines}
use Rattle.format.proofs.Lengths.{entries_few}
use Rattle.witness.specs.Holding.{contents_of}
use Rattle.listing.specs.Printing.{Printed}
use Rattle.listing.proofs.Holding.{entries_hold}
use Rattle.listing.proofs.Printers.{printed_none, printed_then}
use Rattle.listing.proofs.Variables.{table_more, table_fits, below_none, below_all}
use Rattle.listing.proofs.printer.Printer.variables.Goals as goal

pub loop-variable-init : goal.loop-variable-init
loop-variable-init c =
    let d = contents_of c.args.witness.now in
    subst (λ es. Printed c.args.self.now (lines_text (entry_lines d.rules es)) c.args.self.now) (sym (below_none d.entries)) (printed_none c.args.self.now)

pub variable-requires-clause-room : goal.variable-requires-clause-room
variable-requires-clause-room c = omega (arith, table_fits (contents_of c.args.witness.now) c.loop-variable.variable (entries_hold c.args.witness.now), c.loop-variable.invariant.put.behind)

pub loop-variable-preserved : goal.loop-variable-preserved
loop-variable-preserved c =
    let d = contents_of c.args.witness.now in
    let i = c.loop-variable.variable in
    subst (λ bs. Printed c.args.self.now bs c.variable.new.self) (sym (table_more d i (entries_hold c.args.witness.now)))
    (printed_then c.loop-variable.invariant c.variable.ensures)

pub returns : goal.returns
returns c =
    let d = contents_of c.args.witness.now in
    let few = entries_few d.rules d.entries (entries_hold c.args.witness.now) in
    let all : least d.entries ≤ c.loop-variable.variable = omega (arith, few.1) in
    subst (λ es. Printed c.args.self.now (lines_text (entry_lines d.rules es)) c.loop-variable.self) (below_all d.entries c.loop-variable.variable all) c.loop-variable.invariant
