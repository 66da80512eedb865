-- What a run answers at the line of a choice, where all lines before it are taken: that this choice is refused, or nothing. Assumes nothing.
use Rattle.std.proofs.Common.{◌≡◌, ℕ, suc, ◌+◌, ◌≤◌, List, [], ◌∷◌, ◌++◌, length, take, drop, Some, Err, ◌≢◌, sym, refl, ap, ap₂, ◌∙◌, subst, subst₂, inl, inr, append_assoc, length-append, arith}
use Rattle.std.specs.List.{AllByRecursion}
use Rattle.std.proofs.ByRecursion.{All-push}
use Rattle.std.proofs.Math.Seq.{take-append_seam, drop-append_seam}
use Rattle.std.proofs.lemmas.List.{map-append}
use Rattle.systems.specs.declared.Choice.{Choice}
use Rattle.systems.specs.declared.ChoiceRefusal.{ChoiceRefusal}
use Rattle.systems.specs.Fitting.{Fits}
use Rattle.systems.specs.Refusals.{choice_refusal}
use Rattle.systems.specs.Runs.{Load, loaded, Reaches, Follows}
use Rattle.systems.specs.Sides.{Words, Solution}
use Rattle.systems.specs.Standings.{Standing}
use Rattle.systems.specs.Theorems.{ByLimit, SolutionKept}
use Rattle.systems.proofs.Determined.{calls_decide_what_stands}
use Rattle.systems.proofs.Keeping.{complete as followed}
use Rattle.text.specs.Pieces.{Bytes, Line as Plain, lines_text}
use Rattle.tables.specs.declared.types.Limit.{Limit}
use Rattle.tables.specs.declared.types.LineRefusal.{LineRefusal}
use Rattle.tables.specs.declared.types.LineRefusal.TheVariants.{Names, FieldCount, Unreadable, ListedTwice}
use Rattle.tables.specs.declared.types.Table.{Table}
use Rattle.tables.specs.declared.types.Table.TheVariants as table
use Rattle.tables.specs.Fields.{line_of}
use Rattle.tables.specs.Lines.{lines_of}
use Rattle.tables.specs.Names.{names}
use Rattle.tables.specs.Rows.{equation_fields, limit_fields, choice_fields, IsEquation, IsLimit, IsChoice}
use Rattle.tables.specs.Written.{Tables, IsWritable, rows, first_lines, second_lines, third_lines, lines}
use Rattle.tables.proofs.Texts.{lines_plain}
use Rattle.answers.specs.declared.errors.RunError.{RunError}
use Rattle.answers.specs.declared.errors.RunError.TheVariants.{Buffer, TooLong, Line, Load as NotLoaded, Limits, Choice as NotChosen, Close}
use Rattle.answers.specs.Answers.{Answers, Comes, Unnamed, NamesRefused, RowRefused, ChoiceRefused, Refused}
use Rattle.answers.specs.Errors.{run_line, run_number}
use Rattle.answers.specs.Taken.{FirstTaken, SecondTaken, ThirdTaken}
use Rattle.answers.specs.Theorems.{Complete}
use Rattle.answers.proofs.Known.{Known, row_some, row_not, equations_known, limits_known, choices_known}
use Rattle.answers.proofs.Listed.{solution_listed, listed_within, listed_words}
use Rattle.answers.proofs.Plain.{front_of, writable_of}
use Rattle.answers.proofs.Read.{tables_are_read}

-- empty lines, of which two tables have one between them, and three have two

abbrev gaps : List Bytes → ℕ
gaps [] = 0
gaps ([] ∷ ls) = suc (gaps ls)
gaps ((b ∷ l) ∷ ls) = gaps ls

gaps_joined : (xs ys : List Bytes) → gaps (xs ++ ys) ≡ gaps xs + gaps ys
gaps_joined [] ys = omega arith
gaps_joined ([] ∷ xs) ys = omega (arith, gaps_joined xs ys)
gaps_joined ((b ∷ l) ∷ xs) ys = gaps_joined xs ys

-- the lines behind the last empty one, or those and n before where none is
abbrev behind_gap : ℕ → List Bytes → ℕ
behind_gap n [] = n
behind_gap n ([] ∷ ls) = behind_gap 0 ls
behind_gap n ((b ∷ l) ∷ ls) = behind_gap (suc n) ls

behind_that : (n : ℕ) (xs ys : List Bytes) → behind_gap n (xs ++ ([] ∷ ys)) ≡ behind_gap 0 ys
behind_that n [] ys = refl
behind_that n ([] ∷ xs) ys = behind_that 0 xs ys
behind_that n ((b ∷ l) ∷ xs) ys = behind_that (suc n) xs ys

abbrev Full : List Bytes → Type 0
Full = AllByRecursion (λ l. l ≢ [])

no_gaps : (ls : List Bytes) → Full ls → gaps ls ≡ 0
no_gaps [] h = refl
no_gaps ([] ∷ ls) h = absurd (h.0 refl)
no_gaps ((b ∷ l) ∷ ls) h = no_gaps ls h.1

behind_full : (n : ℕ) (ls : List Bytes) → Full ls → n ≤ behind_gap n ls
behind_full n [] h = omega arith
behind_full n ([] ∷ ls) h = absurd (h.0 refl)
behind_full n ((b ∷ l) ∷ ls) h = omega (arith, behind_full (suc n) ls h.1)

full_rows : {R : Type 0} (width : ℕ) (good : R → Type 0) (fields : R → List Bytes) → Known width good fields → (rs : List R) → AllByRecursion good rs → Full (rows fields rs)
full_rows width good fields k [] h = tt
full_rows width good fields k (r ∷ rs) h = (row_some width good fields k r h.0, full_rows width good fields k rs h.1)

first_gaps : (equations : List Load) → FirstTaken equations → gaps (first_lines equations) ≡ 0
first_gaps equations h = no_gaps (rows equation_fields equations) (full_rows 2 IsEquation equation_fields equations_known equations h.rows)

second_gaps : (equations : List Load) (limits : List Limit) → SecondTaken equations limits → gaps (second_lines equations limits) ≡ 1
second_gaps equations limits h =
    let rest : gaps (rows limit_fields limits) ≡ 0 = no_gaps (rows limit_fields limits) (full_rows 3 IsLimit limit_fields limits_known limits h.rows) in
    omega (arith, gaps_joined (first_lines equations) ([] ∷ (names table.Limits ∷ rows limit_fields limits)), first_gaps equations h.first, rest)

third_gaps : (equations : List Load) (limits : List Limit) (choices : List Choice) → ThirdTaken equations limits choices → gaps (third_lines equations limits choices) ≡ 2
third_gaps equations limits choices h =
    let rest : gaps (rows choice_fields choices) ≡ 0 = no_gaps (rows choice_fields choices) (full_rows 3 IsChoice choice_fields choices_known choices h.rows) in
    omega (arith, gaps_joined (second_lines equations limits) ([] ∷ (names table.Choices ∷ rows choice_fields choices)), second_gaps equations limits h.second, rest)

third_behind : (equations : List Load) (limits : List Limit) (choices : List Choice) → ThirdTaken equations limits choices → 1 ≤ behind_gap 0 (third_lines equations limits choices)
third_behind equations limits choices h =
    let full : 1 ≤ behind_gap 1 (rows choice_fields choices) = behind_full 1 (rows choice_fields choices) (full_rows 3 IsChoice choice_fields choices_known choices h.rows) in
    omega (arith, behind_that 0 (second_lines equations limits) (names table.Choices ∷ rows choice_fields choices), full)

-- the same lines cut at the same number

same_front : (xs ys us vs : List Bytes) → length xs ≡ length ys → xs ++ us ≡ ys ++ vs → xs ≡ ys
same_front xs ys us vs long e = sym (take-append_seam xs us) ∙ ap₂ take long e ∙ take-append_seam ys vs

same_behind : (xs ys us vs : List Bytes) → length xs ≡ length ys → xs ++ us ≡ ys ++ vs → us ≡ vs
same_behind xs ys us vs long e = sym (drop-append_seam xs us) ∙ ap₂ drop long e ∙ drop-append_seam ys vs

same_last : (xs ys : List Choice) (a b : Choice) → xs ++ (a ∷ []) ≡ ys ++ (b ∷ []) → (xs ≡ ys) × (a ≡ b)
same_last xs ys a b e =
    let long : length xs ≡ length ys = omega (arith, ap length e, length-append xs (a ∷ []), length-append ys (b ∷ [])) in
    let ends : (a ∷ []) ≡ (b ∷ []) = sym (drop-append_seam xs (a ∷ [])) ∙ ap₂ drop long e ∙ drop-append_seam ys (b ∷ []) in
    (sym (take-append_seam xs (a ∷ [])) ∙ ap₂ take long e ∙ take-append_seam ys (b ∷ []), cc)

-- one more row of the third table

one_row_more : (equations : List Load) (limits : List Limit) (choices : List Choice) (choice : Choice) → third_lines equations limits (choices ++ (choice ∷ [])) ≡ third_lines equations limits choices ++ (line_of (choice_fields choice) ∷ [])
one_row_more equations limits choices choice =
    ap (λ rs. second_lines equations limits ++ ([] ∷ (names table.Choices ∷ rs))) (map-append (λ c. line_of (choice_fields c)) choices (choice ∷ [])) ∙
    sym (append_assoc (second_lines equations limits) ([] ∷ (names table.Choices ∷ rows choice_fields choices)) (line_of (choice_fields choice) ∷ []))

abbrev with_row : List Load → List Limit → List Choice → Choice → Tables
with_row equations limits choices choice = record { equations = equations; limits = limits; choices = choices ++ (choice ∷ []) }

row_writable : (input : Bytes) (equations : List Load) (limits : List Limit) (choices : List Choice) (choice : Choice) (line : ℕ) → ThirdTaken equations limits choices → IsChoice choice → Comes (lines_of input) (third_lines equations limits choices) (line_of (choice_fields choice)) line → IsWritable (with_row equations limits choices choice)
row_writable input equations limits choices choice line taken is comes =
    let plain = front_of Plain (third_lines equations limits choices) _ (subst (AllByRecursion Plain) comes.split (lines_plain input)) in
    let begun = writable_of equations limits choices taken plain in
    record { equations = begun.equations; no_newline = begun.no_newline; limits = begun.limits; choices = All-push IsChoice choices choice begun.choices is; once = begun.once }

same_written : (t u : Tables) → IsWritable t → IsWritable u → lines t ≡ lines u → t ≡ u
same_written t u g h e =
    let read = tables_are_read.read t (lines_text (lines t)) g (inl refl) in
    tables_are_read.same t u (lines_text (lines t)) read (record { writable = h; are = read.are ∙ e })

module _ (input : Bytes) (equations : List Load) (limits : List Limit) (choices : List Choice) (choice : Choice) (line : ℕ) (taken : ThirdTaken equations limits choices) (is : IsChoice choice) (comes : Comes (lines_of input) (third_lines equations limits choices) (line_of (choice_fields choice)) line) where
  abbrev here : List Bytes
  here = third_lines equations limits choices

  abbrev row : Bytes
  row = line_of (choice_fields choice)

  number : line ≡ length here + 1
  number = comes.number

  -- what else is so many lines before this one
  same_before : (before rest : List Bytes) → lines_of input ≡ before ++ rest → length before + 1 ≡ line → here ≡ before
  same_before before rest split at = same_front here before (row ∷ comes.rest) rest (omega (arith, number, at)) (sym comes.split ∙ split)

  same_text : (before : List Bytes) (text : Bytes) (n : ℕ) → Comes (lines_of input) before text n → n ≡ line → (here ≡ before) × (row ≡ text)
  same_text before text n other at =
      let long : length here ≡ length before = omega (arith, number, at, other.number) in
      let ends : (row ∷ comes.rest) ≡ (text ∷ other.rest) = same_behind here before (row ∷ comes.rest) (text ∷ other.rest) long (sym comes.split ∙ other.split) in
      (same_before before (text ∷ other.rest) other.split (omega (arith, number, long)), cc)

  not_first : (es : List Load) → FirstTaken es → (text : Bytes) (n : ℕ) → Comes (lines_of input) (first_lines es) text n → n ≡ line → ⊥
  not_first es h text n other at = omega (arith, ap gaps (same_text (first_lines es) text n other at).0, third_gaps equations limits choices taken, first_gaps es h)

  not_second : (es : List Load) (ls : List Limit) → SecondTaken es ls → (text : Bytes) (n : ℕ) → Comes (lines_of input) (second_lines es ls) text n → n ≡ line → ⊥
  not_second es ls h text n other at = omega (arith, ap gaps (same_text (second_lines es ls) text n other at).0, third_gaps equations limits choices taken, second_gaps es ls h)

  no_row_here : (n : ℕ) (why : LineRefusal) → RowRefused (lines_of input) n why → n ≡ line → ⊥
  no_row_here n why (inl h) at = not_first h.0 h.2 h.1 n h.3 at
  no_row_here n why (inr (inl h)) at = not_second h.0 h.1 h.3 h.2 n h.4 at
  no_row_here n why (inr (inr h)) at = row_not 3 IsChoice choice_fields choices_known h.3 choice why (is, sym (same_text (third_lines h.0 h.1 h.2) h.3 n h.5 at).1) h.6

  -- no names line must stand here
  not_at_end : (before : List Bytes) → lines_of input ≡ before → length before + 1 ≡ line → ⊥
  not_at_end before end at = omega (arith, number, ap length end, ap length comes.split, length-append here (row ∷ comes.rest))

  same_gap : (before rest : List Bytes) (n : ℕ) → lines_of input ≡ before ++ ([] ∷ rest) → n ≡ length before + 2 → n ≡ line → here ≡ before ++ ([] ∷ [])
  same_gap before rest n split at e = same_before (before ++ ([] ∷ [])) rest (split ∙ sym (append_assoc before ([] ∷ []) rest)) (omega (arith, length-append before ([] ∷ [])))

  no_limits_here : (es : List Load) (n : ℕ) → FirstTaken es → Unnamed (lines_of input) (first_lines es) n table.Limits → n ≡ line → ⊥
  no_limits_here es n h (inl end) at = not_at_end (first_lines es) end.0 (omega (arith, end.1))
  no_limits_here es n h (inr gap) at =
      omega (arith, ap gaps (same_gap (first_lines es) gap.0 n gap.1 gap.3 at), third_gaps equations limits choices taken, gaps_joined (first_lines es) ([] ∷ []), first_gaps es h)

  no_choices_here : (es : List Load) (ls : List Limit) (n : ℕ) → Unnamed (lines_of input) (second_lines es ls) n table.Choices → n ≡ line → ⊥
  no_choices_here es ls n (inl end) at = not_at_end (second_lines es ls) end.0 (omega (arith, end.1))
  no_choices_here es ls n (inr gap) at =
      omega (arith, ap (behind_gap 0) (same_gap (second_lines es ls) gap.0 n gap.1 gap.3 at), third_behind equations limits choices taken, behind_that 0 (second_lines es ls) [])

  no_names_here : (n : ℕ) (t : Table) → NamesRefused (lines_of input) n t → n ≡ line → ⊥
  no_names_here n table.Equations h at = omega (arith, number, h.0, length-append (second_lines equations limits) ([] ∷ (names table.Choices ∷ rows choice_fields choices)))
  no_names_here n table.Limits h at = no_limits_here h.0 n h.1 h.2 at
  no_names_here n table.Choices h at = no_choices_here h.0 h.1 n h.3 at

  -- so the choice is refused here, by what stands behind these calls
  abbrev Chosen : RunError → Type 0
  Chosen why = (w : ChoiceRefusal) × (S : Standing) × (why ≡ NotChosen line w) × Reaches equations choices S × (choice_refusal S choice ≡ Some w)

  this_choice : (n : ℕ) (w : ChoiceRefusal) → ChoiceRefused (lines_of input) n w → n ≡ line → Chosen (NotChosen n w)
  this_choice n w h at =
      let both = same_text (third_lines h.0 h.1 h.2) (line_of (choice_fields h.3)) n h.7 at in
      let all : third_lines equations limits (choices ++ (choice ∷ [])) ≡ third_lines h.0 h.1 (h.2 ++ (h.3 ∷ [])) = one_row_more equations limits choices choice ∙ ap₂ (λ ls l. ls ++ (l ∷ [])) both.0 both.1 ∙ sym (one_row_more h.0 h.1 h.2 h.3) in
      let t = same_written (with_row equations limits choices choice) (with_row h.0 h.1 h.2 h.3) (row_writable input equations limits choices choice line taken is comes) (row_writable input h.0 h.1 h.2 h.3 n h.5 h.6 h.7) all in
      let cs = same_last choices h.2 choice h.3 (ap (λ t. t.choices) t) in
      (w, h.4, ap (λ m. NotChosen m w) at, subst₂ (λ es cs. Reaches es cs h.4) (sym (ap (λ t. t.equations) t)) (sym cs.0) h.8, subst (λ c. choice_refusal h.4 c ≡ Some w) (sym cs.1) h.9)

  only_this : (why : RunError) → Refused (lines_of input) why → run_line why ≡ line → Chosen why
  only_this (Buffer why) h at = absurd h
  only_this TooLong h at = absurd h
  only_this (Line n (Names t)) h at = absurd (no_names_here n t h at)
  only_this (Line n (FieldCount wanted)) h at = absurd (no_row_here n (FieldCount wanted) h at)
  only_this (Line n (Unreadable place)) h at = absurd (no_row_here n (Unreadable place) h at)
  only_this (Line n (ListedTwice x)) h at = absurd (no_row_here n (ListedTwice x) h at)
  only_this (NotLoaded n why) h at = absurd (not_first h.0 h.2 _ n h.4 at)
  only_this (Limits n why) h at = absurd (not_second h.0 h.1 h.3 _ n h.6 at)
  only_this (NotChosen n why) h at = this_choice n why h at
  only_this (Close why) h at = absurd (omega (arith, number, at))

  chosen_here : (why : RunError) → Answers input (Err why) → run_line why ≡ line → Chosen why
  chosen_here why (inl long) at = let is : why ≡ TooLong = cc in absurd (omega (arith, ap run_line is, number, at))
  chosen_here why (inr h) at = only_this why h.1 at

  -- and where it fits what is left of a solution, by a limit
  pub by_limit : (S : Standing) (σ τ τ' : Words) (why : RunError) → Solution σ (loaded equations) → Follows equations σ choices S τ → Fits S τ choice τ' → Answers input (Err why) → run_line why ≡ line → (21 ≤ run_number why) × (run_number why ≤ 24)
  by_limit S σ τ τ' why solution follows fits answer at =
      let kept : SolutionKept equations choices S σ τ = followed equations choices S σ τ solution follows in
      let h = chosen_here why answer at in
      let T : choice_refusal S choice ≡ Some h.0 = ap (λ T. choice_refusal T choice) (calls_decide_what_stands.same equations choices S h.1 kept.reaches h.3) ∙ h.4 in
      let limit : ByLimit (Some h.0) = subst ByLimit T (kept.no_needless_refusal choice τ' fits) in
      subst (λ e. (21 ≤ run_number e) × (run_number e ≤ 24)) (sym h.2) limit

pub complete : Complete
complete = record {
  accepts = solution_listed;
  only = λ input t S σ τ c carried solution follows answer. listed_within input t S σ τ carried solution follows c answer;
  same_words = λ input t S σ τ c carried solution follows answer x of. listed_words input t S σ τ carried solution follows c answer x of;
  no_needless_refusal = λ input equations limits choices choice S σ τ τ' line why taken is comes solution follows fits answer at. by_limit input equations limits choices choice line taken is comes S σ τ τ' why solution follows fits answer at;
}
