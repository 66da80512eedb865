use Rattle.listing.proofs.EntryLines.{no_number, bad_name, bad_number}
use Rattle.listing.proofs.entries.parts_of.Goals as goal

pub returns-in_err-digits : goal.returns-in_err-digits
returns-in_err-digits c =
    let one = c.in_ok-name.ensures in
    rw c.from_residual-in_err-digits.ensures (no_number c.args.line.now _ _ one.0 one.1 c.in_err-digits.ensures)

pub returns-in_err-variable : goal.returns-in_err-variable
returns-in_err-variable c =
    let one = c.in_ok-name.ensures in
    rw c.from_residual-in_err-variable.ensures (bad_name c.args.line.now _ _ one.0 one.1 c.in_err-variable.ensures)

pub returns-in_err-total : goal.returns-in_err-total
returns-in_err-total c =
    let one = c.in_ok-name.ensures in
    let two = c.in_ok-digits.ensures in
    rw c.from_residual-in_err-total.ensures (bad_number c.args.line.now _ _ _ _ one.0 one.1 two.0 two.1 c.in_err-total.ensures)
