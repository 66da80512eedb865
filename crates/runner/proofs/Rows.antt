-- A row that is taken, or a line that is refused. Assumes nothing.
use Rattle.std.proofs.Common.{◌≡◌, ℕ, ◌+◌, ◌⊎◌, ◌≢◌, List, [], ◌∷◌, ◌++◌, map, length, Some, None, true, sym, refl, ap, ◌∙◌, subst, inl, inr, ⊎_elim, append_assoc, arith, length-append}
use Rattle.std.proofs.lemmas.List.{map-append}
use Rattle.systems.specs.declared.Choice.{Choice}
use Rattle.systems.specs.Loading.{load_refusal}
use Rattle.systems.specs.Refusals.{choice_refusal}
use Rattle.systems.specs.Runs.{Load, opened, Reaches}
use Rattle.systems.specs.Standings.{Standing}
use Rattle.checker.specs.Running.{AfterLoads}
use Rattle.text.specs.Pieces.{Bytes}
use Rattle.tables.specs.declared.reader.NoNames.{NoNames}
use Rattle.tables.specs.declared.reader.Reader.{Reader}
use Rattle.tables.specs.declared.types.Limit.{Limit}
use Rattle.tables.specs.declared.types.LineRefusal.{LineRefusal}
use Rattle.tables.specs.declared.types.LineRefusal.TheVariants.{Names, FieldCount, Unreadable, ListedTwice}
use Rattle.tables.specs.declared.types.Table.{Table}
use Rattle.tables.specs.declared.types.Table.TheVariants as table
use Rattle.tables.specs.Fields.{line_of}
use Rattle.tables.specs.Names.{names, next_table}
use Rattle.tables.specs.Reading.{IsRow, NoRow}
use Rattle.tables.specs.Rows.{equation_fields, limit_fields, choice_fields, IsEquation, IsLimit, IsChoice}
use Rattle.tables.specs.Written.{rows, first_lines, second_lines, third_lines, is_listed}
use Rattle.answers.specs.declared.errors.RunError.{RunError}
use Rattle.answers.specs.declared.errors.RunError.TheVariants.{Buffer, TooLong, Line, Load as NotLoaded, Limits, Choice as NotChosen, Close}
use Rattle.answers.specs.Answers.{Comes, NotNamed, Unnamed, NamesRefused, NoLimit, RowRefused, Refused}
use Rattle.answers.specs.Taken.{FirstTaken, SecondTaken, ThirdTaken}
use Rattle.runner.specs.Passing.{BadEquation, BadLimit, BadChoice}
use Rattle.runner.proofs.Tables.{LacksHere}

-- one row more
pub rows_push : {R : Type 0} (fields : R → List Bytes) (rs : List R) (r : R) (line : Bytes) → line ≡ line_of (fields r) → rows fields (rs ++ (r ∷ [])) ≡ rows fields rs ++ (line ∷ [])
rows_push fields rs r line is = map-append (λ q. line_of (fields q)) rs (r ∷ []) ∙ ap (λ l. rows fields rs ++ (l ∷ [])) (sym is)

pub comes_as : (all before : List Bytes) (text line : Bytes) (n : ℕ) → Comes all before text n → text ≡ line → Comes all before line n
comes_as all before text line n c is = subst (λ t. Comes all before t n) is c

-- a line that is no row is refused as such
no_row_refused : (all : List Bytes) (n : ℕ) (width : ℕ) {R : Type 0} (good : R → Type 0) (fields : R → List Bytes) (text : Bytes) (why : LineRefusal) → NoRow width good fields text why → (NoRow width good fields text why → RowRefused all n why) → Refused all (Line n why)
no_row_refused all n width good fields text (Names t) h f = absurd h
no_row_refused all n width good fields text (FieldCount w) h f = f h
no_row_refused all n width good fields text (Unreadable place) h f = f h
no_row_refused all n width good fields text (ListedTwice x) h f = absurd h

pub equation_refused : (all : List Bytes) (equations : List Load) (S : Standing) (n : ℕ) (text : Bytes) (why : RunError) → FirstTaken equations → AfterLoads equations S → Comes all (first_lines equations) text n → (text ≢ []) → BadEquation S n text why → Refused all why
equation_refused all es S n text (Line m why) t after c some bad =
    subst (λ k. Refused all (Line k why)) (sym bad.0) (no_row_refused all n 2 IsEquation equation_fields text why bad.1 (λ h. inl (es, text, t, c, some, h)))
equation_refused all es S n text (NotLoaded m why) t after c some bad =
    let e = bad.1.0 in
    let is = bad.1.1 in
    subst (λ k. Refused all (NotLoaded k why)) (sym bad.0) (es, e, t, is.0, comes_as all (first_lines es) text (line_of (equation_fields e)) n c is.1, ap (λ T. load_refusal T e.0 e.1) (sym after) ∙ bad.1.2)
equation_refused all es S n text (Buffer why) t after c some bad = absurd bad
equation_refused all es S n text TooLong t after c some bad = absurd bad
equation_refused all es S n text (Limits m why) t after c some bad = absurd bad
equation_refused all es S n text (NotChosen m why) t after c some bad = absurd bad
equation_refused all es S n text (Close why) t after c some bad = absurd bad

no_limit_refused : (all : List Bytes) (n : ℕ) (limits : List Limit) (text : Bytes) (why : LineRefusal) → NoLimit limits text why → (NoLimit limits text why → RowRefused all n why) → Refused all (Line n why)
no_limit_refused all n limits text (Names t) h f =
    ⊎_elim
    (λ (none : ⊥). absurd none)
    (λ (twice : (l : Limit) × IsRow IsLimit limit_fields text l × (is_listed limits l.variable ≡ true) × (Names t ≡ ListedTwice l.variable)). absurd (let z : ◌≡◌ {A = ℕ} 0 1 = cc in omega arith))
    h
no_limit_refused all n limits text (FieldCount w) h f = f h
no_limit_refused all n limits text (Unreadable place) h f = f h
no_limit_refused all n limits text (ListedTwice x) h f = f h

pub limit_refused : (all : List Bytes) (equations : List Load) (limits : List Limit) (n : ℕ) (text : Bytes) (why : RunError) → SecondTaken equations limits → Comes all (second_lines equations limits) text n → (text ≢ []) → BadLimit limits n text why → Refused all why
limit_refused all es ls n text (Line m why) t c some bad =
    subst (λ k. Refused all (Line k why)) (sym bad.0) (no_limit_refused all n ls text why bad.1 (λ h. inr (inl (es, ls, text, t, c, some, h))))
limit_refused all es ls n text (Limits m why) t c some bad =
    let l = bad.1.0 in
    let is = bad.1.1 in
    subst (λ k. Refused all (Limits k why)) (sym bad.0) (es, ls, l, t, is.0, bad.1.2, comes_as all (second_lines es ls) text (line_of (limit_fields l)) n c is.1, bad.1.3)
limit_refused all es ls n text (Buffer why) t c some bad = absurd bad
limit_refused all es ls n text TooLong t c some bad = absurd bad
limit_refused all es ls n text (NotLoaded m why) t c some bad = absurd bad
limit_refused all es ls n text (NotChosen m why) t c some bad = absurd bad
limit_refused all es ls n text (Close why) t c some bad = absurd bad

pub choice_refused : (all : List Bytes) (equations : List Load) (limits : List Limit) (choices : List Choice) (S : Standing) (n : ℕ) (text : Bytes) (why : RunError) → ThirdTaken equations limits choices → Reaches equations choices S → Comes all (third_lines equations limits choices) text n → BadChoice S n text why → Refused all why
choice_refused all es ls cs S n text (Line m why) t r c bad =
    subst (λ k. Refused all (Line k why)) (sym bad.0) (no_row_refused all n 3 IsChoice choice_fields text why bad.1 (λ h. inr (inr (es, ls, cs, text, t, c, h))))
choice_refused all es ls cs S n text (NotChosen m why) t r c bad =
    let d = bad.1.0 in
    let is = bad.1.1 in
    subst (λ k. Refused all (NotChosen k why)) (sym bad.0) (es, ls, cs, d, S, t, is.0, comes_as all (third_lines es ls cs) text (line_of (choice_fields d)) n c is.1, r, bad.1.2)
choice_refused all es ls cs S n text (Buffer why) t r c bad = absurd bad
choice_refused all es ls cs S n text TooLong t r c bad = absurd bad
choice_refused all es ls cs S n text (NotLoaded m why) t r c bad = absurd bad
choice_refused all es ls cs S n text (Limits m why) t r c bad = absurd bad
choice_refused all es ls cs S n text (Close why) t r c bad = absurd bad

-- where a names line is lacking
lacking : (all : List Bytes) (why : RunError) (lack : NoNames) (n : ℕ) (t : Table) → why ≡ Line lack.line (Names lack.table) → lack.line ≡ n → lack.table ≡ t → NamesRefused all n t → Refused all why
lacking all why lack n t is line named h =
    subst (Refused all) (sym (is ∙ (λ i. Line (line i) (Names (named i))))) h

some_same : {A : Type 0} (a b : A) → Some a ≡ Some b → a ≡ b
some_same a b e = cc

pub some_none : {A : Type 0} (a : A) → None ≡ Some a → ⊥
some_none a e = let z : ◌≡◌ {A = ℕ} 0 1 = cc in omega arith

pub first_lacks : (all : List Bytes) (equations : List Load) (lack : NoNames) (why : RunError) → why ≡ Line lack.line (Names lack.table) → FirstTaken equations → LacksHere all [] table.Equations (rows equation_fields equations) lack → Refused all why
first_lacks all es lack why is t h =
    ⊎_elim
    (λ (own : (lack.table ≡ table.Equations) × (lack.line ≡ 0 + 1) × ((rest : List Bytes) × (all ≡ rest) × NotNamed table.Equations rest)).
    lacking all why lack 1 table.Equations is (omega (arith, own.1)) own.0 (refl, subst (NotNamed table.Equations) (sym own.2.1) own.2.2))
    (λ (next : (Some table.Limits ≡ Some lack.table) × (lack.line ≡ length (first_lines es) + 1) × (all ≡ first_lines es)).
    lacking all why lack (length (first_lines es) + 1) table.Limits is next.1 (sym (some_same table.Limits lack.table next.0)) (es, t, inl (next.2, refl)))
    h

-- the lines before the second table, and those of it
pub second_is : (equations : List Load) (limits : List Limit) → (first_lines equations ++ ([] ∷ [])) ++ (names table.Limits ∷ rows limit_fields limits) ≡ second_lines equations limits
second_is es ls = append_assoc (first_lines es) ([] ∷ []) (names table.Limits ∷ rows limit_fields ls)

pub third_is : (equations : List Load) (limits : List Limit) (choices : List Choice) → (second_lines equations limits ++ ([] ∷ [])) ++ (names table.Choices ∷ rows choice_fields choices) ≡ third_lines equations limits choices
third_is es ls cs = append_assoc (second_lines es ls) ([] ∷ []) (names table.Choices ∷ rows choice_fields cs)

-- behind a gap
unnamed : (all before rest : List Bytes) (t : Table) → all ≡ (before ++ ([] ∷ [])) ++ rest → NotNamed t rest → Unnamed all before (length before + 2) t
unnamed all before rest t is none = inr (rest, is ∙ append_assoc before ([] ∷ []) rest, none, refl)

pub second_lacks : (all : List Bytes) (equations : List Load) (limits : List Limit) (lack : NoNames) (why : RunError) → why ≡ Line lack.line (Names lack.table) → SecondTaken equations limits → LacksHere all (first_lines equations ++ ([] ∷ [])) table.Limits (rows limit_fields limits) lack → Refused all why
second_lacks all es ls lack why is t h =
    ⊎_elim
    (λ (own : (lack.table ≡ table.Limits) × (lack.line ≡ length (first_lines es ++ ([] ∷ [])) + 1) × ((rest : List Bytes) × (all ≡ (first_lines es ++ ([] ∷ [])) ++ rest) × NotNamed table.Limits rest)).
    lacking all why lack (length (first_lines es) + 2) table.Limits is (omega (arith, own.1, length-append (first_lines es) ([] ∷ []))) own.0 (es, t.first, unnamed all (first_lines es) own.2.0 table.Limits own.2.1 own.2.2))
    (λ (next : (Some table.Choices ≡ Some lack.table) × (lack.line ≡ length ((first_lines es ++ ([] ∷ [])) ++ (names table.Limits ∷ rows limit_fields ls)) + 1) × (all ≡ (first_lines es ++ ([] ∷ [])) ++ (names table.Limits ∷ rows limit_fields ls))).
    lacking all why lack (length (second_lines es ls) + 1) table.Choices is (next.1 ∙ ap (λ l. length l + 1) (second_is es ls)) (sym (some_same table.Choices lack.table next.0)) (es, ls, t, inl (next.2 ∙ second_is es ls, refl)))
    h

pub third_lacks : (all : List Bytes) (equations : List Load) (limits : List Limit) (choices : List Choice) (lack : NoNames) (why : RunError) → why ≡ Line lack.line (Names lack.table) → ThirdTaken equations limits choices → LacksHere all (second_lines equations limits ++ ([] ∷ [])) table.Choices (rows choice_fields choices) lack → Refused all why
third_lacks all es ls cs lack why is t h =
    ⊎_elim
    (λ (own : (lack.table ≡ table.Choices) × (lack.line ≡ length (second_lines es ls ++ ([] ∷ [])) + 1) × ((rest : List Bytes) × (all ≡ (second_lines es ls ++ ([] ∷ [])) ++ rest) × NotNamed table.Choices rest)).
    lacking all why lack (length (second_lines es ls) + 2) table.Choices is (omega (arith, own.1, length-append (second_lines es ls) ([] ∷ []))) own.0 (es, ls, t.second, unnamed all (second_lines es ls) own.2.0 table.Choices own.2.1 own.2.2))
    (λ (next : (None ≡ Some lack.table) × (lack.line ≡ length ((second_lines es ls ++ ([] ∷ [])) ++ (names table.Choices ∷ rows choice_fields cs)) + 1) × (all ≡ (second_lines es ls ++ ([] ∷ [])) ++ (names table.Choices ∷ rows choice_fields cs))).
    absurd (some_none lack.table next.0))
    h
