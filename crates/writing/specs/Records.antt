-- The records of choices. Assumes nothing.
use Rattle.std.specs.Prelude.{List, map}
use Rattle.systems.specs.declared.Choice.{Choice}
use Rattle.writing.specs.declared.ChoiceRecord.{ChoiceRecord}

abbrev pub record_of : Choice → ChoiceRecord
record_of choice = record { choice = choice }

abbrev pub records_of : List Choice → List ChoiceRecord
records_of = map record_of

abbrev pub choices_of : List ChoiceRecord → List Choice
choices_of = map (λ r. r.choice)
