-- The names lines of the three tables. Assumes nothing.
use Rattle.std.specs.Prelude.{codes, Option, Some, None}
use Rattle.text.specs.Pieces.{Bytes}
use Rattle.tables.specs.declared.types.Table.{Table}
use Rattle.tables.specs.declared.types.Table.TheVariants.{Equations, Limits, Choices}

-- the line with which the table begins
abbrev pub names : Table → Bytes
names Equations = codes "left right"
names Limits = codes "variable least most"
names Choices = codes "do name with"

-- the table that comes behind it, with an empty line between them
abbrev pub next_table : Table → Option Table
next_table Equations = Some Limits
next_table Limits = Some Choices
next_table Choices = None
