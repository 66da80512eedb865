-- The limits of a variable that the second table does not list. Assumes nothing.
use Rattle.std.specs.Prelude.{ℕ}
use Rattle.tables.specs.declared.types.TheConstants.{UNLISTED_LEAST, UNLISTED_MOST}
use Rattle.tables.specs.declared.types.Limit.{Limit}

-- as a line would say it
abbrev pub unlisted : ℕ → Limit
unlisted x = record { variable = x; least = UNLISTED_LEAST; most = UNLISTED_MOST }
