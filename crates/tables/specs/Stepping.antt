-- What a reader of lines has before it, and what a step of it gives. Assumes nothing.
use Rattle.std.specs.Prelude.{◌≡◌, ℕ, ◌+◌, List, [], ◌∷◌, Some, None, Ok, Err, Option, Result, ◌≢◌, ◌⊎◌}
use Rattle.text.specs.Pieces.{Bytes}
use Rattle.tables.specs.declared.reader.NoNames.{NoNames}
use Rattle.tables.specs.declared.reader.Reader.{Reader}
use Rattle.tables.specs.declared.reader.Stage.{Stage}
use Rattle.tables.specs.declared.reader.Stage.TheVariants.{Names, Values, Gap}
use Rattle.tables.specs.declared.reader.Step.{Step}
use Rattle.tables.specs.declared.reader.Step.TheVariants.{Begun, Row, Ended}
use Rattle.tables.specs.declared.types.Table.{Table}
use Rattle.tables.specs.Lines.{lines_of}
use Rattle.tables.specs.Names.{names, next_table}

-- the lines that are not read yet
abbrev pub left : Reader → List Bytes
left r = lines_of r.rest.now

-- the lines left are this one and those that are left then
pub record Passes (old : Reader) (line : Bytes) (new : Reader) : Type 0 where
  pub lines : left old ≡ line ∷ left new
  pub count : new.line ≡ old.line + 1

-- a table that another follows ends with an empty line, the last with the text
abbrev pub Ends : Option Table → Reader → Reader → Type 0
Ends None old new = left old ≡ []
Ends (Some next) old new = Passes old [] new × (new.stage ≡ Gap)

-- outside the values the next line must be the names line of the table; within them, where lines are missing, it is that of the next
abbrev pub Lacks : Table → Reader → NoNames → Type 0
Lacks table old lack =
    (lack.line ≡ old.line + 1)
    × (((old.stage ≢ Values) × (lack.table ≡ table) × ((more : List Bytes) → left old ≢ names table ∷ more))
    ⊎ ((old.stage ≡ Values) × (left old ≡ []) × (next_table table ≡ Some lack.table)))

-- a step in a table
abbrev pub Gives : Table → Reader → Reader → Result Step NoNames → Type 0
Gives table old new (Ok Begun) = (old.stage ≢ Values) × Passes old (names table) new × (new.stage ≡ Values)
Gives table old new (Ok (Row line)) = (old.stage ≡ Values) × Passes old line.now new × (next_table table ≢ None → line.now ≢ []) × (new.stage ≡ Values)
Gives table old new (Ok Ended) = (old.stage ≡ Values) × Ends (next_table table) old new
Gives table old new (Err lack) = Lacks table old lack
