-- The three tables, whole or begun, and how they are written. Assumes nothing.
use Rattle.std.specs.Prelude.{◌≡◌, ℕ, false, Bool, ◌||◌, ◌==◌, List, [], ◌∷◌, ◌++◌, map}
use Rattle.std.specs.List.{AllByRecursion}
use Rattle.systems.specs.declared.Choice.{Choice}
use Rattle.systems.specs.Runs.{Load}
use Rattle.text.specs.Pieces.{Bytes, Line}
use Rattle.tables.specs.declared.types.Limit.{Limit}
use Rattle.tables.specs.declared.types.Table.TheVariants.{Equations, Limits, Choices}
use Rattle.tables.specs.Fields.{line_of}
use Rattle.tables.specs.Names.{names}
use Rattle.tables.specs.Rows.{equation_fields, limit_fields, choice_fields, IsEquation, IsLimit, IsChoice}

pub record Tables : Type 0 where
  pub equations : List Load
  pub limits : List Limit
  pub choices : List Choice

-- the lines of rows
abbrev pub rows : {R : Type 0} → (R → List Bytes) → List R → List Bytes
rows fields = map (λ r. line_of (fields r))

-- the lines of the first table, of the first two, and of all three, where the last of them has these rows so far; an empty line stands between two tables
abbrev pub first_lines : List Load → List Bytes
first_lines equations = names Equations ∷ rows equation_fields equations

abbrev pub second_lines : List Load → List Limit → List Bytes
second_lines equations limits = first_lines equations ++ ([] ∷ (names Limits ∷ rows limit_fields limits))

abbrev pub third_lines : List Load → List Limit → List Choice → List Bytes
third_lines equations limits choices = second_lines equations limits ++ ([] ∷ (names Choices ∷ rows choice_fields choices))

abbrev pub lines : Tables → List Bytes
lines t = third_lines t.equations t.limits t.choices

-- a line of these lists the variable x
abbrev pub is_listed : List Limit → ℕ → Bool
is_listed [] x = false
is_listed (l ∷ limits) x = (l.variable == x) || is_listed limits x

-- no variable is listed twice
abbrev pub ListedOnce : List Limit → Type 0
ListedOnce limits = (before behind : List Limit) (l : Limit) → limits ≡ before ++ (l ∷ behind) → is_listed before l.variable ≡ false

-- what can be written
pub record IsWritable (t : Tables) : Type 0 where
  pub equations : AllByRecursion IsEquation t.equations
  pub no_newline : AllByRecursion (λ e. Line e.0 × Line e.1) t.equations
  pub limits : AllByRecursion IsLimit t.limits
  pub choices : AllByRecursion IsChoice t.choices
  pub once : ListedOnce t.limits
