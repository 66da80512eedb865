use Rattle.std.proofs.Common.{length, ap, arith}
use Rattle.format.proofs.Lengths.{listing_fits}
use Rattle.witness.specs.Holding.{contents_of}
use Rattle.witness.proofs.Keeping.{always_valid}
use Rattle.listing.proofs.printing.print.Goals as goal

pub tables-requires : goal.tables-requires
tables-requires c = omega (arith, listing_fits (contents_of c.args.witness.now) (always_valid c.args.witness.now), ap length c.new-printer.ensures.kept, c.new-printer.ensures.start)
