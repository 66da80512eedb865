-- What the loops over rows keep, and where they end. Assumes nothing.
use Rattle.std.proofs.Common.{◌≡◌, ℕ, ◌≢◌, List, [], ◌∷◌, ◌++◌, length, Some, None, Ok, Err, Result, MatchResult, sym, refl, ap, ◌∙◌, subst, inl, inr, arith, length-append}
use Rattle.std.specs.Result.{IsErrAnd}
use Rattle.systems.specs.declared.Choice.{Choice}
use Rattle.systems.specs.Loading.{load_refusal}
use Rattle.systems.specs.Runs.{Load}
use Rattle.systems.specs.Standings.{Standing, new}
use Rattle.checker.specs.declared.store.Check.{Check}
use Rattle.checker.specs.Holding.{CameBy, standing}
use Rattle.checker.specs.Running.{AfterLoads}
use Rattle.text.specs.Pieces.{Bytes}
use Rattle.tables.specs.declared.reader.NoNames.{NoNames}
use Rattle.tables.specs.declared.reader.Reader.{Reader}
use Rattle.tables.specs.declared.reader.Stage.TheVariants.{Names, Values, Gap}
use Rattle.tables.specs.declared.types.Limit.{Limit}
use Rattle.tables.specs.declared.types.LineRefusal.TheVariants as refusal
use Rattle.tables.specs.declared.types.Table.TheVariants.{Equations, Limits, Choices}
use Rattle.tables.specs.Names.{names}
use Rattle.tables.specs.Rows.{equation_fields, limit_fields, choice_fields}
use Rattle.tables.specs.Stepping.{left, Passes, Lacks}
use Rattle.tables.specs.Written.{rows, first_lines, second_lines, third_lines}
use Rattle.answers.specs.declared.errors.RunError.{RunError}
use Rattle.answers.specs.declared.errors.RunError.TheVariants.{Line}
use Rattle.answers.specs.Answers.{Comes, Refused}
use Rattle.answers.specs.Taken.{FirstTaken, SecondTaken, ThirdTaken}
use Rattle.runner.specs.declared.limits.Limits.{Limits as Held}
use Rattle.runner.specs.Holding.{Holds}
use Rattle.runner.specs.Passing.{Starts, ReadUpTo, FirstRead, SecondRead, ThirdRead, Loads, Limited, Chooses, BadEquation, BadLimit, BadChoice}
use Rattle.runner.proofs.Going.{no_item, first_push, second_push, third_push}
use Rattle.runner.proofs.Rows.{rows_push, equation_refused, limit_refused, choice_refused, first_lacks, second_lacks, third_lacks, second_is, third_is, comes_as}
use Rattle.runner.proofs.Tables.{Inside, begun, row_passed, gap_passed, all_passed, lacks_here}

-- where an answer is an error, what is so of the error is so of the answer
pub at_err : {X E : Type 0} (r : Result X E) (P : X → Type 0) (Q : E → Type 0) (why : E) → IsErrAnd r (λ e. e ≡ why) → Q why → MatchResult r P Q
at_err (Ok x) P Q why h q = absurd h
at_err (Err e) P Q why h q = subst Q (sym h) q

-- no other stage is the one within values
pub names_stage : Names ≢ Values
names_stage e = let z : ◌≡◌ {A = ℕ} 0 1 = cc in omega arith

pub gap_stage : Gap ≢ Values
gap_stage e = let z : ◌≡◌ {A = ℕ} 0 1 = cc in omega arith

-- the first table
pub record Loading (all : List Bytes) (S : Standing) (r : Reader) : Type 0 where
  pub equations : List Load
  pub taken : FirstTaken equations
  pub inside : Inside all [] Equations (rows equation_fields equations) r
  pub stands : AfterLoads equations S

pub loading_starts : (all : List Bytes) (S : Standing) (r : Reader) → Starts all r → S ≡ new → Loading all S r
loading_starts all S r s is = record {
  equations = [];
  taken = record { rows = tt; loaded = λ before behind load e. absurd (no_item before load behind e) };
  inside = inr ((λ e. names_stage (sym s.stage ∙ e)), refl, s.lines, s.count);
  stands = is;
}

pub loading_begun : (all : List Bytes) (S : Standing) (r new : Reader) → Loading all S r → r.stage ≢ Values → Passes r (names Equations) new → new.stage ≡ Values → Loading all S new
loading_begun all S r new l ne p stage = record { equations = l.equations; taken = l.taken; inside = begun all [] Equations (rows equation_fields l.equations) r new l.inside ne p stage; stands = l.stands }

pub loading_more : (all : List Bytes) (S T : Standing) (r new : Reader) (line : Bytes) → Loading all S r → r.stage ≡ Values → Passes r line new → new.stage ≡ Values → Loads S line T → Loading all T new
loading_more all S T r new line l values p stage h = record {
  equations = l.equations ++ (h.e ∷ []);
  taken = first_push l.equations h.e l.taken h.is.0 (ap (λ U. load_refusal U h.e.0 h.e.1) (sym l.stands) ∙ h.taken);
  inside = subst (λ rs. Inside all [] Equations rs new) (sym (rows_push equation_fields l.equations h.e line h.is.1)) (row_passed all [] Equations (rows equation_fields l.equations) r new line l.inside values p stage).0;
  stands = h.run l.equations l.stands;
}

pub loading_refused : (all : List Bytes) (S : Standing) (r new : Reader) (line : Bytes) (why : RunError) → Loading all S r → r.stage ≡ Values → Passes r line new → line ≢ [] → new.stage ≡ Values → BadEquation S new.line line why → Refused all why
loading_refused all S r new line why l values p some stage bad =
    equation_refused all l.equations S new.line line why l.taken l.stands (row_passed all [] Equations (rows equation_fields l.equations) r new line l.inside values p stage).1 some bad

pub loading_lacks : (all : List Bytes) (S : Standing) (r : Reader) (lack : NoNames) (why : RunError) → Loading all S r → Lacks Equations r lack → why ≡ Line lack.line (refusal.Names lack.table) → Refused all why
loading_lacks all S r lack why l h is = first_lacks all l.equations lack why is l.taken (lacks_here all [] Equations (rows equation_fields l.equations) r lack l.inside h)

pub loading_ended : (all : List Bytes) (S : Standing) (r new : Reader) → (l : Loading all S r) → r.stage ≡ Values → Passes r [] new → new.stage ≡ Gap → FirstRead all l.equations new
loading_ended all S r new l values p stage = record { taken = l.taken; read = gap_passed all [] Equations (rows equation_fields l.equations) r new l.inside values p stage }

-- the second table
pub record Limiting (all : List Bytes) (equations : List Load) (held : Held) (r : Reader) : Type 0 where
  pub limits : List Limit
  pub taken : SecondTaken equations limits
  pub inside : Inside all (first_lines equations ++ ([] ∷ [])) Limits (rows limit_fields limits) r
  pub holds : Holds held limits

pub limiting_starts : (all : List Bytes) (equations : List Load) (held : Held) (r : Reader) → FirstRead all equations r → Holds held [] → Limiting all equations held r
limiting_starts all es held r f h = record {
  limits = [];
  taken = record { first = f.taken; rows = tt; once = λ before behind l e. absurd (no_item before l behind e); in_order = tt };
  inside = inr ((λ e. gap_stage (sym f.read.stage ∙ e)), refl, f.read.lines, omega (arith, f.read.count, length-append (first_lines es) ([] ∷ [])));
  holds = h;
}

pub limiting_begun : (all : List Bytes) (equations : List Load) (held : Held) (r new : Reader) → Limiting all equations held r → r.stage ≢ Values → Passes r (names Limits) new → new.stage ≡ Values → Limiting all equations held new
limiting_begun all es held r new l ne p stage = record { limits = l.limits; taken = l.taken; inside = begun all (first_lines es ++ ([] ∷ [])) Limits (rows limit_fields l.limits) r new l.inside ne p stage; holds = l.holds }

pub limiting_more : (all : List Bytes) (equations : List Load) (held then : Held) (r new : Reader) (line : Bytes) → (l : Limiting all equations held r) → r.stage ≡ Values → Passes r line new → new.stage ≡ Values → Limited l.limits line then → Limiting all equations then new
limiting_more all es held then r new line l values p stage h = record {
  limits = l.limits ++ (h.l ∷ []);
  taken = second_push es l.limits h.l l.taken h.is.0 h.new h.in_order;
  inside = subst (λ rs. Inside all (first_lines es ++ ([] ∷ [])) Limits rs new) (sym (rows_push limit_fields l.limits h.l line h.is.1)) (row_passed all (first_lines es ++ ([] ∷ [])) Limits (rows limit_fields l.limits) r new line l.inside values p stage).0;
  holds = h.holds;
}

pub limiting_refused : (all : List Bytes) (equations : List Load) (held : Held) (r new : Reader) (line : Bytes) (why : RunError) → (l : Limiting all equations held r) → r.stage ≡ Values → Passes r line new → line ≢ [] → new.stage ≡ Values → BadLimit l.limits new.line line why → Refused all why
limiting_refused all es held r new line why l values p some stage bad =
    limit_refused all es l.limits new.line line why l.taken
    (subst (λ b. Comes all b line new.line) (second_is es l.limits) (row_passed all (first_lines es ++ ([] ∷ [])) Limits (rows limit_fields l.limits) r new line l.inside values p stage).1) some bad

pub limiting_lacks : (all : List Bytes) (equations : List Load) (held : Held) (r : Reader) (lack : NoNames) (why : RunError) → Limiting all equations held r → Lacks Limits r lack → why ≡ Line lack.line (refusal.Names lack.table) → Refused all why
limiting_lacks all es held r lack why l h is = second_lacks all es l.limits lack why is l.taken (lacks_here all (first_lines es ++ ([] ∷ [])) Limits (rows limit_fields l.limits) r lack l.inside h)

pub limiting_ended : (all : List Bytes) (equations : List Load) (held : Held) (r new : Reader) → (l : Limiting all equations held r) → r.stage ≡ Values → Passes r [] new → new.stage ≡ Gap → SecondRead all equations l.limits new
limiting_ended all es held r new l values p stage = record {
  taken = l.taken;
  read = subst (λ b. ReadUpTo all b new) (second_is es l.limits) (gap_passed all (first_lines es ++ ([] ∷ [])) Limits (rows limit_fields l.limits) r new l.inside values p stage);
}

-- the third table
pub record Choosing (all : List Bytes) (equations : List Load) (limits : List Limit) (check : Check) (r : Reader) : Type 0 where
  pub choices : List Choice
  pub taken : ThirdTaken equations limits choices
  pub inside : Inside all (second_lines equations limits ++ ([] ∷ [])) Choices (rows choice_fields choices) r
  pub came : CameBy equations choices check

pub choosing_starts : (all : List Bytes) (equations : List Load) (limits : List Limit) (check : Check) (r : Reader) → SecondRead all equations limits r → CameBy equations [] check → Choosing all equations limits check r
choosing_starts all es ls check r s came = record {
  choices = [];
  taken = record { second = s.taken; rows = tt; chosen = λ before behind c S e run. absurd (no_item before c behind e) };
  inside = inr ((λ e. gap_stage (sym s.read.stage ∙ e)), refl, s.read.lines, omega (arith, s.read.count, length-append (second_lines es ls) ([] ∷ [])));
  came = came;
}

pub choosing_begun : (all : List Bytes) (equations : List Load) (limits : List Limit) (check : Check) (r new : Reader) → Choosing all equations limits check r → r.stage ≢ Values → Passes r (names Choices) new → new.stage ≡ Values → Choosing all equations limits check new
choosing_begun all es ls check r new c ne p stage = record { choices = c.choices; taken = c.taken; inside = begun all (second_lines es ls ++ ([] ∷ [])) Choices (rows choice_fields c.choices) r new c.inside ne p stage; came = c.came }

pub choosing_more : (all : List Bytes) (equations : List Load) (limits : List Limit) (check then : Check) (r new : Reader) (line : Bytes) → Choosing all equations limits check r → r.stage ≡ Values → Passes r line new → new.stage ≡ Values → Chooses check line then → Choosing all equations limits then new
choosing_more all es ls check then r new line c values p stage h = record {
  choices = c.choices ++ (h.choice ∷ []);
  taken = third_push es ls c.choices h.choice (standing check) c.taken c.came.reaches h.is.0 h.taken;
  inside = subst (λ rs. Inside all (second_lines es ls ++ ([] ∷ [])) Choices rs new) (sym (rows_push choice_fields c.choices h.choice line h.is.1)) (row_passed all (second_lines es ls ++ ([] ∷ [])) Choices (rows choice_fields c.choices) r new line c.inside values p stage).0;
  came = h.run es c.choices c.came;
}

pub choosing_refused : (all : List Bytes) (equations : List Load) (limits : List Limit) (check : Check) (r new : Reader) (line : Bytes) (why : RunError) → Choosing all equations limits check r → r.stage ≡ Values → Passes r line new → new.stage ≡ Values → BadChoice (standing check) new.line line why → Refused all why
choosing_refused all es ls check r new line why c values p stage bad =
    choice_refused all es ls c.choices (standing check) new.line line why c.taken c.came.reaches
    (subst (λ b. Comes all b line new.line) (third_is es ls c.choices) (row_passed all (second_lines es ls ++ ([] ∷ [])) Choices (rows choice_fields c.choices) r new line c.inside values p stage).1) bad

pub choosing_lacks : (all : List Bytes) (equations : List Load) (limits : List Limit) (check : Check) (r : Reader) (lack : NoNames) (why : RunError) → Choosing all equations limits check r → Lacks Choices r lack → why ≡ Line lack.line (refusal.Names lack.table) → Refused all why
choosing_lacks all es ls check r lack why c h is = third_lacks all es ls c.choices lack why is c.taken (lacks_here all (second_lines es ls ++ ([] ∷ [])) Choices (rows choice_fields c.choices) r lack c.inside h)

pub choosing_ended : (all : List Bytes) (equations : List Load) (limits : List Limit) (check : Check) (r : Reader) → (c : Choosing all equations limits check r) → r.stage ≡ Values → left r ≡ [] → ThirdRead all equations limits c.choices
choosing_ended all es ls check r c values none = record {
  taken = c.taken;
  read = all_passed all (second_lines es ls ++ ([] ∷ [])) Choices (rows choice_fields c.choices) r c.inside values none ∙ third_is es ls c.choices;
}
