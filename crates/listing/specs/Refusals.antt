-- The number of each refusal, and what a refused text is. Assumes nothing.
use Rattle.std.specs.Prelude.{ℕ}
use Rattle.text.specs.Pieces.{Bytes}
use Rattle.format.specs.Reading.{Refused}
use Rattle.listing.specs.declared.refusals.PrintRefusal.{PrintRefusal}
use Rattle.listing.specs.declared.refusals.PrintRefusal.TheVariants.{BufferTooShort}
use Rattle.listing.specs.declared.refusals.ReadRefusal.{ReadRefusal}
use Rattle.listing.specs.declared.refusals.ReadRefusal.TheVariants.{NotListing}

abbrev pub print_number : PrintRefusal → ℕ
print_number BufferTooShort = 71

abbrev pub read_number : ReadRefusal → ℕ
read_number (NotListing line) = 72

-- the text is no listing, and the refusal has the line
abbrev pub Refuses : Bytes → ReadRefusal → Type 0
Refuses text (NotListing line) = Refused text line
