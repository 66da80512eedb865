-- The number of each refusal of a line. Assumes nothing.
use Rattle.std.specs.Prelude.{ℕ}
use Rattle.tables.specs.declared.types.LineRefusal.{LineRefusal}
use Rattle.tables.specs.declared.types.LineRefusal.TheVariants.{Names, FieldCount, Unreadable, ListedTwice}

abbrev pub line_number : LineRefusal → ℕ
line_number (Names table) = 41
line_number (FieldCount wanted) = 42
line_number (Unreadable place) = 43
line_number (ListedTwice x) = 43
