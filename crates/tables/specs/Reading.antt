-- Which row a line is, or why it is none. Assumes nothing.
use Rattle.std.specs.Prelude.{◌≡◌, ℕ, List, [], ◌∷◌, ◌++◌, length, ◌≢◌}
use Rattle.text.specs.Pieces.{Bytes}
use Rattle.tables.specs.declared.types.LineRefusal.{LineRefusal}
use Rattle.tables.specs.declared.types.LineRefusal.TheVariants.{Names, FieldCount, Unreadable, ListedTwice}
use Rattle.tables.specs.Fields.{fields_of, line_of}

-- the line is that of the row r, one that can stand in the table
abbrev pub IsRow : {R : Type 0} → (R → Type 0) → (R → List Bytes) → Bytes → R → Type 0
IsRow good fields line r = good r × (line ≡ line_of (fields r))

-- the field behind so many bytes of the line is the first that no row has: some row has the fields before it, and none has it too
pub record IsUnreadable {R : Type 0} (good : R → Type 0) (fields : R → List Bytes) (line : Bytes) (place : ℕ) : Type 0 where
  pub before : List Bytes
  pub field : Bytes
  pub behind : List Bytes
  pub split : fields_of line ≡ before ++ (field ∷ behind)
  pub some_row : (r : R) × good r × ((rest : List Bytes) × (fields r ≡ before ++ rest))
  pub no_row : (r : R) → good r → (rest : List Bytes) → fields r ≢ before ++ (field ∷ rest)
  pub at : place ≡ length (line_of (before ++ ([] ∷ [])))

-- why the line is no row of a table with so many fields: it has another number of fields, or else a field that no row has
abbrev pub NoRow : {R : Type 0} → ℕ → (R → Type 0) → (R → List Bytes) → Bytes → LineRefusal → Type 0
NoRow width good fields line (Names table) = ⊥
NoRow width good fields line (FieldCount wanted) = (wanted ≡ width) × (length (fields_of line) ≢ width)
NoRow width good fields line (Unreadable place) = (length (fields_of line) ≡ width) × IsUnreadable good fields line place
NoRow width good fields line (ListedTwice x) = ⊥
