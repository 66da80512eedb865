-- What is read so far, and what a row brings. Assumes nothing.
use Rattle.std.specs.Prelude.{◌≡◌, ℕ, ◌+◌, true, false, List, [], ◌∷◌, ◌++◌, length, Some, None, ◌≢◌, ◌⊎◌}
use Rattle.systems.specs.declared.Choice.{Choice}
use Rattle.systems.specs.Loading.{load_refusal}
use Rattle.systems.specs.Refusals.{choice_refusal, after_choice}
use Rattle.systems.specs.Runs.{Load}
use Rattle.systems.specs.Standings.{Standing}
use Rattle.checker.specs.declared.store.Check.{Check}
use Rattle.checker.specs.Holding.{CameBy, standing}
use Rattle.checker.specs.Running.{AfterLoads}
use Rattle.length.specs.Limits.{InOrder, IsOutOfOrder}
use Rattle.text.specs.Pieces.{Bytes}
use Rattle.tables.specs.declared.reader.Reader.{Reader}
use Rattle.tables.specs.declared.reader.Stage.TheVariants.{Names, Values, Gap}
use Rattle.tables.specs.declared.types.Limit.{Limit}
use Rattle.tables.specs.Reading.{IsRow, NoRow}
use Rattle.tables.specs.Rows.{equation_fields, limit_fields, choice_fields, IsEquation, IsLimit, IsChoice}
use Rattle.tables.specs.Stepping.{left}
use Rattle.tables.specs.Written.{first_lines, second_lines, third_lines, is_listed}
use Rattle.answers.specs.declared.errors.RunError.{RunError}
use Rattle.answers.specs.declared.errors.RunError.TheVariants.{Buffer, TooLong, Line, Load as NotLoaded, Limits, Choice as NotChosen, Close}
use Rattle.runner.specs.declared.limits.Limits.{Limits as Held}
use Rattle.answers.specs.Answers.{NoLimit}
use Rattle.runner.specs.Holding.{Holds}
use Rattle.answers.specs.Taken.{FirstTaken, SecondTaken, ThirdTaken}

-- no line is read of these
pub record Starts (all : List Bytes) (r : Reader) : Type 0 where
  pub lines : all ≡ left r
  pub count : r.line ≡ 0
  pub stage : r.stage ≡ Names

-- behind these lines, the empty one that ends a table the last of them
pub record ReadUpTo (all before : List Bytes) (r : Reader) : Type 0 where
  pub lines : all ≡ (before ++ ([] ∷ [])) ++ left r
  pub count : r.line ≡ length before + 1
  pub stage : r.stage ≡ Gap

pub record FirstRead (all : List Bytes) (equations : List Load) (r : Reader) : Type 0 where
  pub taken : FirstTaken equations
  pub read : ReadUpTo all (first_lines equations) r

pub record SecondRead (all : List Bytes) (equations : List Load) (limits : List Limit) (r : Reader) : Type 0 where
  pub taken : SecondTaken equations limits
  pub read : ReadUpTo all (second_lines equations limits) r

pub record ThirdRead (all : List Bytes) (equations : List Load) (limits : List Limit) (choices : List Choice) : Type 0 where
  pub taken : ThirdTaken equations limits choices
  pub read : all ≡ third_lines equations limits choices

-- the line's equation is taken at S, and leads to T
pub record Loads (S : Standing) (line : Bytes) (T : Standing) : Type 0 where
  pub e : Load
  pub is : IsRow IsEquation equation_fields line e
  pub taken : load_refusal S e.0 e.1 ≡ None
  pub run : (loads : List Load) → AfterLoads loads S → AfterLoads (loads ++ (e ∷ [])) T

-- the line is no equation, or its load is refused at S
abbrev pub BadEquation : Standing → ℕ → Bytes → RunError → Type 0
BadEquation S n line (Line m why) = (m ≡ n) × NoRow 2 IsEquation equation_fields line why
BadEquation S n line (NotLoaded m why) = (m ≡ n) × ((e : Load) × IsRow IsEquation equation_fields line e × (load_refusal S e.0 e.1 ≡ Some why))
BadEquation S n line (Buffer why) = ⊥
BadEquation S n line TooLong = ⊥
BadEquation S n line (Limits m why) = ⊥
BadEquation S n line (NotChosen m why) = ⊥
BadEquation S n line (Close why) = ⊥

-- the line sets limits behind these rows
pub record Limited (rows : List Limit) (line : Bytes) (held : Held) : Type 0 where
  pub l : Limit
  pub is : IsRow IsLimit limit_fields line l
  pub new : is_listed rows l.variable ≡ false
  pub in_order : InOrder l.least l.most
  pub holds : Holds held (rows ++ (l ∷ []))

-- it is no row that may come, or least and most are out of order
abbrev pub BadLimit : List Limit → ℕ → Bytes → RunError → Type 0
BadLimit rows n line (Line m why) = (m ≡ n) × NoLimit rows line why
BadLimit rows n line (Limits m why) = (m ≡ n) × ((l : Limit) × IsRow IsLimit limit_fields line l × (is_listed rows l.variable ≡ false) × IsOutOfOrder l.least l.most)
BadLimit rows n line (Buffer why) = ⊥
BadLimit rows n line TooLong = ⊥
BadLimit rows n line (NotLoaded m why) = ⊥
BadLimit rows n line (NotChosen m why) = ⊥
BadLimit rows n line (Close why) = ⊥

-- the line's choice is taken by the check
pub record Chooses (old : Check) (line : Bytes) (new : Check) : Type 0 where
  pub choice : Choice
  pub is : IsRow IsChoice choice_fields line choice
  pub taken : choice_refusal (standing old) choice ≡ None
  pub run : (loads : List Load) (choices : List Choice) → CameBy loads choices old → CameBy loads (choices ++ (choice ∷ [])) new

-- the line is no choice, or its choice is refused at S
abbrev pub BadChoice : Standing → ℕ → Bytes → RunError → Type 0
BadChoice S n line (Line m why) = (m ≡ n) × NoRow 3 IsChoice choice_fields line why
BadChoice S n line (NotChosen m why) = (m ≡ n) × ((c : Choice) × IsRow IsChoice choice_fields line c × (choice_refusal S c ≡ Some why))
BadChoice S n line (Buffer why) = ⊥
BadChoice S n line TooLong = ⊥
BadChoice S n line (NotLoaded m why) = ⊥
BadChoice S n line (Limits m why) = ⊥
BadChoice S n line (Close why) = ⊥
