-- One print after another. Assumes nothing.
use Rattle.std.proofs.Common.{[], ◌++◌, refl, ◌∙◌}
use Rattle.model.proofs.Buffers.{put_none, put_then}
use Rattle.text.specs.Pieces.{Bytes}
use Rattle.listing.specs.declared.printer.Printer.{Printer}
use Rattle.listing.specs.Printing.{Printed}

pub printed_none : (p : Printer) → Printed p [] p
printed_none p = record { same = refl; long = refl; put = put_none p.out.now p.end }

pub printed_then : {p q r : Printer} {xs ys : Bytes} → Printed p xs q → Printed q ys r → Printed p (xs ++ ys) r
printed_then a b = record { same = b.same ∙ a.same; long = b.long ∙ a.long; put = put_then a.put b.put }
