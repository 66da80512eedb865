-- What comes before a refusal. Assumes nothing.
use Rattle.std.proofs.Common.{◌≡◌, ℕ, ◌+◌, ◌-◌, ◌<◌, ◌≤◌, ltb, Bool, List, [], ◌∷◌, ◌++◌, length, take, Some, None, Err, Option, ◌⊎◌, sym, refl, ap, ap₂, ◌∙◌, subst, inl, inr, append_assoc, append-nil, length-append, arith, lit≤}
use Rattle.std.specs.Option.{option_map}
use Rattle.std.proofs.Math.Seq.{take-append_seam}
use Rattle.std.proofs.lemmas.Bool.{cond-false, le-ltb}
use Rattle.systems.specs.declared.Choice.{Choice}
use Rattle.systems.specs.Runs.{Load, loaded}
use Rattle.systems.specs.Sides.{stands_in}
use Rattle.systems.specs.Standings.{Standing, fresh, live}
use Rattle.writing.specs.Writer.{first, variables}
use Rattle.guarantee.specs.declared.CloseRefusal.{CloseRefusal}
use Rattle.guarantee.specs.declared.CloseRefusal.TheVariants.{SmallTable, StillLive, SidesDiffer, Fails}
use Rattle.guarantee.specs.Closing.{Meaning, close_number, close_refusal, first_differing, fails, or_else}
use Rattle.text.specs.Pieces.{Bytes}
use Rattle.tables.specs.declared.types.Limit.{Limit}
use Rattle.tables.specs.declared.types.LineRefusal.{LineRefusal}
use Rattle.tables.specs.declared.types.LineRefusal.TheVariants.{Names, FieldCount, Unreadable, ListedTwice}
use Rattle.tables.specs.declared.types.Table.{Table}
use Rattle.tables.specs.declared.types.Table.TheVariants as table
use Rattle.tables.specs.Lines.{lines_of}
use Rattle.tables.specs.Names.{names}
use Rattle.tables.specs.Written.{Tables, first_lines, second_lines, third_lines, ListedOnce}
use Rattle.answers.specs.declared.errors.RunError.{RunError}
use Rattle.answers.specs.declared.errors.RunError.TheVariants.{Buffer, TooLong, Line, Load as NotLoaded, Limits, Choice as NotChosen, Close}
use Rattle.answers.specs.Answers.{Answer, Answers, Comes, Unnamed, NamesRefused, RowRefused, Refused, CloseRefused, closes}
use Rattle.answers.specs.Errors.{run_line}
use Rattle.answers.specs.Limits.{judging}
use Rattle.answers.specs.Taken.{FirstTaken, SecondTaken, ThirdTaken}
use Rattle.answers.specs.Theorems.{Carried, TakenBefore, RefusedRightly}
use Rattle.answers.proofs.Closing.{few_letters}
use Rattle.answers.proofs.Plain.{writable_read}

-- tables without rows are taken

no_middle : {A : Type 0} (before behind : List A) (x : A) → [] ≡ before ++ (x ∷ behind) → ⊥
no_middle before behind x e = omega (arith, ap length e, length-append before (x ∷ behind))

no_limits : ListedOnce []
no_limits before behind l e = absurd (no_middle before behind l e)

second_begun : (equations : List Load) → FirstTaken equations → SecondTaken equations []
second_begun equations h = record { first = h; rows = tt; once = no_limits; in_order = tt }

third_begun : (equations : List Load) (limits : List Limit) → SecondTaken equations limits → ThirdTaken equations limits []
third_begun equations limits h = record { second = h; rows = tt; chosen = λ before behind choice S e. absurd (no_middle before behind choice e) }

nothing_taken : ThirdTaken [] [] []
nothing_taken = third_begun [] [] (second_begun [] (record { rows = tt; loaded = λ before behind load e. absurd (no_middle before behind load e) }))

-- the lines of three tables go on from those of one

behind_first : List Bytes
behind_first = names table.Limits ∷ [] ∷ names table.Choices ∷ []

first_goes_on : (equations : List Load) → third_lines equations [] [] ≡ first_lines equations ++ ([] ∷ behind_first)
unfolding behind_first
first_goes_on equations = append_assoc (first_lines equations) ([] ∷ names table.Limits ∷ []) ([] ∷ names table.Choices ∷ [])

module _ (input : Bytes) (equations : List Load) (limits : List Limit) (choices : List Choice) (taken : ThirdTaken equations limits choices) where
  behind_rows : (before more rest : List Bytes) (line : ℕ) → third_lines equations limits choices ≡ before ++ more → lines_of input ≡ before ++ rest → line ≡ length before + 1 → TakenBefore input line
  behind_rows before more rest line begins are number = record {
    equations = equations;
    limits = limits;
    choices = choices;
    taken = taken;
    before = (more, begins ∙ ap (λ ls. ls ++ more) (sym taken_are));
  }
    where
      at : line - 1 ≡ length before
      at = omega arith

      taken_are : take (line - 1) (lines_of input) ≡ before
      taken_are = ap₂ take at are ∙ take-append_seam before rest

  behind_text : (before more : List Bytes) (text : Bytes) (line : ℕ) → third_lines equations limits choices ≡ before ++ more → Comes (lines_of input) before text line → TakenBefore input line
  behind_text before more text line begins comes = behind_rows before more (text ∷ comes.rest) line begins comes.split comes.number

  behind_gap : (before more : List Bytes) (t : Table) (line : ℕ) → third_lines equations limits choices ≡ before ++ ([] ∷ more) → Unnamed (lines_of input) before line t → TakenBefore input line
  behind_gap before more t line begins (inl end) = behind_rows before ([] ∷ more) [] line begins (end.0 ∙ sym (append-nil before)) end.1
  behind_gap before more t line begins (inr gap) =
      behind_rows (before ++ ([] ∷ [])) more gap.0 line
      (begins ∙ sym (append_assoc before ([] ∷ []) more))
      (gap.1 ∙ sym (append_assoc before ([] ∷ []) gap.0))
      (omega (arith, gap.3, length-append before ([] ∷ [])))

first_gone_on : (input : Bytes) (equations : List Load) (text : Bytes) (line : ℕ) → FirstTaken equations → Comes (lines_of input) (first_lines equations) text line → TakenBefore input line
first_gone_on input equations text line h comes =
    behind_text input equations [] [] (third_begun equations [] (second_begun equations h)) (first_lines equations) ([] ∷ behind_first) text line (first_goes_on equations) comes

second_gone_on : (input : Bytes) (equations : List Load) (limits : List Limit) (text : Bytes) (line : ℕ) → SecondTaken equations limits → Comes (lines_of input) (second_lines equations limits) text line → TakenBefore input line
second_gone_on input equations limits text line h comes =
    behind_text input equations limits [] (third_begun equations limits h) (second_lines equations limits) ([] ∷ names table.Choices ∷ []) text line refl comes

third_gone_on : (input : Bytes) (equations : List Load) (limits : List Limit) (choices : List Choice) (text : Bytes) (line : ℕ) → ThirdTaken equations limits choices → Comes (lines_of input) (third_lines equations limits choices) text line → TakenBefore input line
third_gone_on input equations limits choices text line h comes =
    behind_text input equations limits choices h (third_lines equations limits choices) [] text line (sym (append-nil (third_lines equations limits choices))) comes

row_at : (input : Bytes) (line : ℕ) (why : LineRefusal) → RowRefused (lines_of input) line why → TakenBefore input line
row_at input line why (inl h) = first_gone_on input h.0 h.1 line h.2 h.3
row_at input line why (inr (inl h)) = second_gone_on input h.0 h.1 h.2 line h.3 h.4
row_at input line why (inr (inr h)) = third_gone_on input h.0 h.1 h.2 h.3 line h.4 h.5

names_at : (input : Bytes) (line : ℕ) (t : Table) → NamesRefused (lines_of input) line t → TakenBefore input line
names_at input line table.Equations h = behind_rows input [] [] [] nothing_taken [] (third_lines [] [] []) (lines_of input) line refl refl h.0
names_at input line table.Limits h = behind_gap input h.0 [] [] (third_begun h.0 [] (second_begun h.0 h.1)) (first_lines h.0) behind_first table.Limits line (first_goes_on h.0) h.2
names_at input line table.Choices h = behind_gap input h.0 h.1 [] (third_begun h.0 h.1 h.2) (second_lines h.0 h.1) (names table.Choices ∷ []) table.Choices line refl h.3

at_line : (input : Bytes) (why : RunError) → Refused (lines_of input) why → 1 ≤ run_line why → TakenBefore input (run_line why)
at_line input (Buffer why) h some = absurd h
at_line input TooLong h some = absurd h
at_line input (Line line (Names t)) h some = names_at input line t h
at_line input (Line line (FieldCount wanted)) h some = row_at input line (FieldCount wanted) h
at_line input (Line line (Unreadable place)) h some = row_at input line (Unreadable place) h
at_line input (Line line (ListedTwice x)) h some = row_at input line (ListedTwice x) h
at_line input (NotLoaded line why) h some = first_gone_on input h.0 _ line h.2 h.4
at_line input (Limits line why) h some = second_gone_on input h.0 h.1 _ line h.3 h.6
at_line input (NotChosen line why) h some = third_gone_on input h.0 h.1 h.2 _ line h.5 h.7
at_line input (Close why) h some = absurd (omega arith)

-- a close with room for every letter refuses by 31 to 33

reason_number : (x i y : Option ℕ) (why : CloseRefusal) → or_else (option_map StillLive x) (or_else (option_map SidesDiffer i) (option_map Fails y)) ≡ Some why → 31 ≤ close_number why
reason_number (Some x) i y why e = let is : StillLive x ≡ why = cc in subst (λ c. 31 ≤ close_number c) is (lit≤ tt)
reason_number None (Some i) y why e = let is : SidesDiffer i ≡ why = cc in subst (λ c. 31 ≤ close_number c) is (lit≤ tt)
reason_number None None (Some y) why e = let is : Fails y ≡ why = cc in subst (λ c. 31 ≤ close_number c) is (lit≤ tt)
reason_number None None None why e = let z : ◌≡◌ {A = ℕ} 0 1 = cc in absurd (omega arith)

close_number_is : {V : Type 0} (m : Meaning V) (system : ℕ → Bool) (S : Standing) (room : ℕ) (why : CloseRefusal) → fresh S ≤ room → close_refusal m system S room ≡ Some why → 31 ≤ close_number why
close_number_is m system S room why few e =
    reason_number (first (live S) variables) (first_differing 1 S.equations) (first (fails m system S) variables) why (sym (cond-false (ltb room (fresh S)) (Some SmallTable) _ (le-ltb room (fresh S) few)) ∙ e)

-- the close refused
abbrev Closed : Bytes → RunError → Type 0
Closed input why = (close : CloseRefusal) × (t : Tables) × (S : Standing) × (why ≡ Close close) × Carried input t S × (closes t.equations t.limits S ≡ Some close) × (31 ≤ close_number close)

closed : (input : Bytes) (why : CloseRefusal) → length input ≤ 32768 → CloseRefused (lines_of input) why → Closed input (Close why)
closed input why short h =
    let all = h.4 in (
      why,
      record { equations = h.0; limits = h.1; choices = h.2 },
      h.3,
      refl,
      record { short = short; read = record { writable = writable_read input h.0 h.1 h.2 all.taken all.are; are = all.are }; taken = all },
      h.5,
      close_number_is (judging h.1) (stands_in (loaded h.0)) h.3 538 why (few_letters h.0 h.2 h.3 all.reaches) h.5,
    )

number_some : (line : ℕ) (lines before : List Bytes) (text : Bytes) → Comes lines before text line → line ≡ 0 → ⊥
number_some line lines before text comes e = let n = comes.number in omega arith

unnamed_some : (line : ℕ) (lines before : List Bytes) (t : Table) → Unnamed lines before line t → line ≡ 0 → ⊥
unnamed_some line lines before t (inl end) e = omega (arith, end.1)
unnamed_some line lines before t (inr gap) e = omega (arith, gap.3)

names_some : (lines : List Bytes) (line : ℕ) (t : Table) → NamesRefused lines line t → line ≡ 0 → ⊥
names_some lines line table.Equations h e = omega (arith, h.0)
names_some lines line table.Limits h e = unnamed_some line lines (first_lines h.0) table.Limits h.2 e
names_some lines line table.Choices h e = unnamed_some line lines (second_lines h.0 h.1) table.Choices h.3 e

row_some : (lines : List Bytes) (line : ℕ) (why : LineRefusal) → RowRefused lines line why → line ≡ 0 → ⊥
row_some lines line why (inl h) e = number_some line lines _ _ h.3 e
row_some lines line why (inr (inl h)) e = number_some line lines _ _ h.4 e
row_some lines line why (inr (inr h)) e = number_some line lines _ _ h.5 e

at_zero : (input : Bytes) (why : RunError) → length input ≤ 32768 → Refused (lines_of input) why → run_line why ≡ 0 → Closed input why
at_zero input (Buffer why) short h none = absurd h
at_zero input TooLong short h none = absurd h
at_zero input (Line line (Names t)) short h none = absurd (names_some (lines_of input) line t h none)
at_zero input (Line line (FieldCount wanted)) short h none = absurd (row_some (lines_of input) line (FieldCount wanted) h none)
at_zero input (Line line (Unreadable place)) short h none = absurd (row_some (lines_of input) line (Unreadable place) h none)
at_zero input (Line line (ListedTwice x)) short h none = absurd (row_some (lines_of input) line (ListedTwice x) h none)
at_zero input (NotLoaded line why) short h none = absurd (number_some line (lines_of input) _ _ h.4 none)
at_zero input (Limits line why) short h none = absurd (number_some line (lines_of input) _ _ h.6 none)
at_zero input (NotChosen line why) short h none = absurd (number_some line (lines_of input) _ _ h.7 none)
at_zero input (Close why) short h none = closed input why short h

too_long : (why : RunError) → ◌≡◌ {A = Answer} (Err why) (Err TooLong) → why ≡ TooLong
too_long why e = cc

line_taken : (input : Bytes) (why : RunError) → Answers input (Err why) → 1 ≤ run_line why → TakenBefore input (run_line why)
line_taken input why (inl long) some = let is : why ≡ TooLong = too_long why long.1 in absurd (omega (arith, ap run_line is))
line_taken input why (inr h) some = at_line input why h.1 some

zero_told : (input : Bytes) (why : RunError) → Answers input (Err why) → run_line why ≡ 0 → ((why ≡ TooLong) × (32768 < length input)) ⊎ Closed input why
zero_told input why (inl long) none = inl (too_long why long.1, long.0)
zero_told input why (inr h) none = inr (at_zero input why h.0 h.1 none)

pub refused_rightly : RefusedRightly
refused_rightly = record { at_line = line_taken; at_zero = zero_told }
