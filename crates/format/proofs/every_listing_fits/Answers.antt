use Rattle.format.proofs.Lengths.{listing_fits}
use Rattle.format.proofs.every_listing_fits.Goals as goal

pub returns : goal.returns
returns c = listing_fits
