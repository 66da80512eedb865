use Rattle.format.proofs.Decided.{listing_or_line}
use Rattle.format.proofs.listing_or_line.Goals as goal

pub returns : goal.returns
returns c = listing_or_line
