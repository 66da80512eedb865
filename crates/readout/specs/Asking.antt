-- A request for a stretch, and the three words that ask for it. Assumes nothing.
use Rattle.std.specs.Prelude.{◌^◌, ◌<◌, ◌≤◌, [], decimal}
use Rattle.text.specs.Names.{variable_name}
use Rattle.text.specs.Pieces.{Bytes}
use Rattle.readout.specs.declared.request.Request.{Request}
use Rattle.readout.specs.declared.request.Request.TheVariants.{Table, Stretch}

-- the start is below 10^16, and at most 1,000,000 letters are asked for
abbrev pub Askable : Request → Type 0
Askable Table = ⊥
Askable (Stretch s) = (s.variable < 26) × (s.start < 10 ^ 16) × (s.count ≤ 1000000)

-- a variable, the start and the count
abbrev pub three_words : Request → Bytes × Bytes × Bytes
three_words Table = ([], [], [])
three_words (Stretch s) = (variable_name s.variable, decimal s.start, decimal s.count)
