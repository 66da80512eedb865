use Rattle.std.proofs.Common.{refl, rules}
use Rattle.std.proofs.lemmas.Slice.{overwrites}
use Rattle.listing.proofs.printer.Printer.bytes.Goals as goal

pub returns : goal.returns
returns c = record { same = refl; long = search rules; put = record { behind = refl; front = search (rules, overwrites); rest = search (rules, overwrites) } }
