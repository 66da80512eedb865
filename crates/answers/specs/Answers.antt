-- What a run answers to a text: what its witness holds, or which line is refused and why. Assumes nothing.
use Rattle.std.specs.Prelude.{◌≡◌, ℕ, ◌+◌, ◌<◌, ◌≤◌, true, false, List, [], ◌∷◌, ◌++◌, length, Option, Some, None, Ok, Err, Result, ◌≢◌, ◌⊎◌}
use Rattle.model.specs.Witnesses.{Contents}
use Rattle.systems.specs.declared.Choice.{Choice}
use Rattle.systems.specs.declared.ChoiceRefusal.{ChoiceRefusal}
use Rattle.systems.specs.declared.LoadRefusal.{LoadRefusal}
use Rattle.systems.specs.Loading.{load_refusal}
use Rattle.systems.specs.Refusals.{choice_refusal}
use Rattle.systems.specs.Runs.{Load, opened, loaded, Reaches}
use Rattle.systems.specs.Sides.{stands_in}
use Rattle.systems.specs.Standings.{Standing}
use Rattle.guarantee.specs.declared.CloseRefusal.{CloseRefusal}
use Rattle.guarantee.specs.Closing.{close_refusal, witness}
use Rattle.length.specs.declared.kind.LengthRefusal.{LengthRefusal}
use Rattle.length.specs.Limits.{IsOutOfOrder}
use Rattle.text.specs.Pieces.{Bytes}
use Rattle.tables.specs.declared.types.Limit.{Limit}
use Rattle.tables.specs.declared.types.LineRefusal.{LineRefusal}
use Rattle.tables.specs.declared.types.LineRefusal.TheVariants.{Names, FieldCount, Unreadable, ListedTwice}
use Rattle.tables.specs.declared.types.Table.{Table}
use Rattle.tables.specs.declared.types.Table.TheVariants as table
use Rattle.tables.specs.Fields.{line_of}
use Rattle.tables.specs.Lines.{lines_of}
use Rattle.tables.specs.Names.{names}
use Rattle.tables.specs.Reading.{IsRow, NoRow}
use Rattle.tables.specs.Rows.{equation_fields, limit_fields, choice_fields, IsEquation, IsLimit, IsChoice}
use Rattle.tables.specs.Written.{first_lines, second_lines, third_lines, is_listed}
use Rattle.answers.specs.declared.errors.RunError.{RunError}
use Rattle.answers.specs.declared.errors.RunError.TheVariants.{Buffer, TooLong, Line, Load as NotLoaded, Limits, Choice as NotChosen, Close}
use Rattle.answers.specs.Limits.{judging}
use Rattle.answers.specs.Taken.{FirstTaken, SecondTaken, ThirdTaken}

-- behind the lines before comes this text as the line of this number, from 1
pub record Comes (lines before : List Bytes) (text : Bytes) (line : ℕ) : Type 0 where
  pub rest : List Bytes
  pub split : lines ≡ before ++ (text ∷ rest)
  pub number : line ≡ length before + 1

-- the next of these lines is not the names line of the table, or there is none
abbrev pub NotNamed : Table → List Bytes → Type 0
NotNamed t lines = (more : List Bytes) → lines ≢ names t ∷ more

-- behind the lines before, which end a table, the lines end; or an empty line comes and no names line of the next table behind it. This is the line where the names line must stand
abbrev pub Unnamed : List Bytes → List Bytes → ℕ → Table → Type 0
Unnamed lines before line t =
    ((lines ≡ before) × (line ≡ length before + 1))
    ⊎ ((rest : List Bytes) × (lines ≡ before ++ ([] ∷ rest)) × NotNamed t rest × (line ≡ length before + 2))

-- all lines before are taken, and then the names line of the table is wrong or missing
abbrev pub NamesRefused : List Bytes → ℕ → Table → Type 0
NamesRefused lines line table.Equations = (line ≡ 1) × NotNamed table.Equations lines
NamesRefused lines line table.Limits = (equations : List Load) × FirstTaken equations × Unnamed lines (first_lines equations) line table.Limits
NamesRefused lines line table.Choices = (equations : List Load) × (limits : List Limit) × SecondTaken equations limits × Unnamed lines (second_lines equations limits) line table.Choices

-- why a line is no row that may come behind these rows of the second table: it is no row, or its variable is listed
abbrev pub NoLimit : List Limit → Bytes → LineRefusal → Type 0
NoLimit limits text why =
    NoRow 3 IsLimit limit_fields text why
    ⊎ ((l : Limit) × IsRow IsLimit limit_fields text l × (is_listed limits l.variable ≡ true) × (why ≡ ListedTwice l.variable))

-- all lines before are taken, and then a line is no row of its table
abbrev pub RowRefused : List Bytes → ℕ → LineRefusal → Type 0
RowRefused lines line why =
    ((equations : List Load) × (text : Bytes) × FirstTaken equations × Comes lines (first_lines equations) text line × (text ≢ []) × NoRow 2 IsEquation equation_fields text why)
    ⊎ (((equations : List Load) × (limits : List Limit) × (text : Bytes) × SecondTaken equations limits × Comes lines (second_lines equations limits) text line × (text ≢ []) × NoLimit limits text why)
    ⊎ ((equations : List Load) × (limits : List Limit) × (choices : List Choice) × (text : Bytes) × ThirdTaken equations limits choices × Comes lines (third_lines equations limits choices) text line × NoRow 3 IsChoice choice_fields text why))

-- all lines before are taken, and then the call of a line is refused
abbrev pub LoadRefused : List Bytes → ℕ → LoadRefusal → Type 0
LoadRefused lines line why =
    (equations : List Load) × (e : Load) × FirstTaken equations × IsEquation e × Comes lines (first_lines equations) (line_of (equation_fields e)) line
    × (load_refusal (opened equations) e.0 e.1 ≡ Some why)

abbrev pub LimitRefused : List Bytes → ℕ → LengthRefusal → Type 0
LimitRefused lines line why =
    (equations : List Load) × (limits : List Limit) × (l : Limit) × SecondTaken equations limits × IsLimit l × (is_listed limits l.variable ≡ false) × Comes lines (second_lines equations limits) (line_of (limit_fields l)) line
    × IsOutOfOrder l.least l.most

abbrev pub ChoiceRefused : List Bytes → ℕ → ChoiceRefusal → Type 0
ChoiceRefused lines line why =
    (equations : List Load) × (limits : List Limit) × (choices : List Choice) × (choice : Choice) × (S : Standing) × ThirdTaken equations limits choices × IsChoice choice × Comes lines (third_lines equations limits choices) (line_of (choice_fields choice)) line × Reaches equations choices S
    × (choice_refusal S choice ≡ Some why)

-- the lines are those of three tables whose calls are all taken, and lead to S
pub record AllTaken (lines : List Bytes) (equations : List Load) (limits : List Limit) (choices : List Choice) (S : Standing) : Type 0 where
  pub are : lines ≡ third_lines equations limits choices
  pub taken : ThirdTaken equations limits choices
  pub reaches : Reaches equations choices S

-- the answer of the close then, whose value table has room for every letter
abbrev pub closes : List Load → List Limit → Standing → Option CloseRefusal
closes equations limits S = close_refusal (judging limits) (stands_in (loaded equations)) S 538

abbrev pub CloseRefused : List Bytes → CloseRefusal → Type 0
CloseRefused lines why =
    (equations : List Load) × (limits : List Limit) × (choices : List Choice) × (S : Standing) × AllTaken lines equations limits choices S × (closes equations limits S ≡ Some why)

-- or it accepts, and this is its witness
abbrev pub Accepted : List Bytes → Contents → Type 0
Accepted lines c =
    (equations : List Load) × (limits : List Limit) × (choices : List Choice) × (S : Standing) × AllTaken lines equations limits choices S × (closes equations limits S ≡ None) × (c ≡ witness (stands_in (loaded equations)) S)

-- what each refusal says of the lines
abbrev pub Refused : List Bytes → RunError → Type 0
Refused lines (Buffer why) = ⊥
Refused lines TooLong = ⊥
Refused lines (Line line (Names t)) = NamesRefused lines line t
Refused lines (Line line (FieldCount wanted)) = RowRefused lines line (FieldCount wanted)
Refused lines (Line line (Unreadable place)) = RowRefused lines line (Unreadable place)
Refused lines (Line line (ListedTwice x)) = RowRefused lines line (ListedTwice x)
Refused lines (NotLoaded line why) = LoadRefused lines line why
Refused lines (Limits line why) = LimitRefused lines line why
Refused lines (NotChosen line why) = ChoiceRefused lines line why
Refused lines (Close why) = CloseRefused lines why

-- what is answered: the contents of the close's witness, or a refusal
abbrev pub Answer : Type 0
Answer = Result Contents RunError

abbrev pub AnswersLines : List Bytes → Answer → Type 0
AnswersLines lines (Ok c) = Accepted lines c
AnswersLines lines (Err why) = Refused lines why

-- the answer to a text: 44 where it has more than 32,768 bytes, else that to its lines
abbrev pub Answers : Bytes → Answer → Type 0
Answers input answer = ((32768 < length input) × (answer ≡ Err TooLong)) ⊎ ((length input ≤ 32768) × AnswersLines (lines_of input) answer)
