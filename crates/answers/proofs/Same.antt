-- There is one answer to a text: what is answered is what reading its lines one by one gives. Assumes nothing.
use Rattle.std.proofs.Common.{◌≡◌, ℕ, suc, ◌+◌, ◌≤◌, true, false, Bool, ltb, List, [], ◌∷◌, ◌++◌, length, Some, None, Ok, Err, Option, sym, refl, ap, ◌∙◌, subst, ⊎_elim, inl, inr, append_assoc, append-nil, length-append, arith, ◌⊎◌}
use Rattle.std.specs.List.{AllByRecursion}
use Rattle.std.proofs.lemmas.Bool.{lt-ltb, le-ltb}
use Rattle.systems.specs.declared.Choice.{Choice}
use Rattle.systems.specs.declared.ChoiceRefusal.{ChoiceRefusal}
use Rattle.systems.specs.declared.LoadRefusal.{LoadRefusal}
use Rattle.systems.specs.Refusals.{choice_refusal}
use Rattle.systems.specs.Runs.{Load, Reaches}
use Rattle.systems.specs.Standings.{Standing}
use Rattle.systems.proofs.Determined.{calls_decide_what_stands}
use Rattle.guarantee.specs.declared.CloseRefusal.{CloseRefusal}
use Rattle.length.specs.declared.kind.LengthRefusal.{LengthRefusal}
use Rattle.length.specs.declared.kind.LengthRefusal.TheVariants.{OutOfOrder}
use Rattle.length.specs.Limits.{IsOutOfOrder}
use Rattle.text.specs.Pieces.{Bytes}
use Rattle.tables.specs.declared.types.Limit.{Limit}
use Rattle.tables.specs.declared.types.LineRefusal.{LineRefusal}
use Rattle.tables.specs.declared.types.LineRefusal.TheVariants.{Names, FieldCount, Unreadable, ListedTwice}
use Rattle.tables.specs.declared.types.Table.{Table}
use Rattle.tables.specs.declared.types.Table.TheVariants.{Equations, Limits, Choices}
use Rattle.tables.specs.Fields.{line_of}
use Rattle.tables.specs.Lines.{lines_of}
use Rattle.tables.specs.Names.{names}
use Rattle.tables.specs.Reading.{IsRow, NoRow}
use Rattle.tables.specs.Rows.{equation_fields, limit_fields, choice_fields, IsEquation, IsLimit, IsChoice}
use Rattle.tables.specs.Written.{rows, first_lines, second_lines, third_lines, is_listed}
use Rattle.answers.specs.declared.errors.RunError.TheVariants.{Buffer, TooLong, Line, Load as NotLoaded, Limits as NotLimits, Choice as NotChosen, Close}
use Rattle.answers.specs.Answers.{Answer, AnswersLines, Comes, NotNamed, Unnamed, NamesRefused, RowRefused, LoadRefused, LimitRefused, ChoiceRefused, AllTaken, closes}
use Rattle.answers.specs.Taken.{FirstTaken, SecondTaken, ThirdTaken}
use Rattle.answers.specs.Theorems.{OneAnswer}
use Rattle.answers.proofs.Known.{row_some, equations_known, limits_known}
use Rattle.answers.proofs.Steps.{Spot, start, first, first_gap, second, second_gap, third, on, ends, after_equation, after_limit, after_choice, stand, closing, ByNames, Step, Gives, gives_one}

-- what holds of all of a list holds at each place
inside : {X : Type 0} (P : X → Type 0) (before behind : List X) (x : X) → AllByRecursion P (before ++ (x ∷ behind)) → P x
inside P [] behind x h = h.0
inside P (b ∷ before) behind x h = inside P before behind x h.1

at_place : {X : Type 0} (P : X → Type 0) (whole before behind : List X) (x : X) → AllByRecursion P whole → whole ≡ before ++ (x ∷ behind) → P x
at_place P whole before behind x h e = inside P before behind x (subst (AllByRecursion P) e h)

-- rows whose calls are taken in turn
module _ {R : Type 0} (fields : R → List Bytes) (spot : List R → Spot) (whole : List R) (rest : List Bytes) (a : Answer) (moves : (before behind : List R) (r : R) (n : ℕ) → whole ≡ before ++ (r ∷ behind) → Step (spot before) n (Some (line_of (fields r))) (on (spot (before ++ (r ∷ []))))) where
  rows_run : (done todo : List R) (n : ℕ) → whole ≡ done ++ todo → Gives rest (spot whole) (n + length (rows fields todo)) a → Gives (rows fields todo ++ rest) (spot done) n a
  rows_run done [] n is g =
      let none : n + 0 ≡ n = omega arith in
      let all : whole ≡ done = is ∙ append-nil done in
      subst (λ m. Gives rest (spot done) m a) none (subst (λ l. Gives rest (spot l) (n + 0) a) all g)
  rows_run done (r ∷ todo) n is g =
      let later : n + suc (length (rows fields todo)) ≡ suc n + length (rows fields todo) = omega arith in
      inr (spot (done ++ (r ∷ [])), moves done todo r n is, rows_run (done ++ (r ∷ [])) todo (suc n) (is ∙ sym (append_assoc done (r ∷ []) todo)) (subst (λ m. Gives rest (spot whole) m a) later g))

-- reading these lines from the start leads there
abbrev Leads : List Bytes → Spot → Type 0
Leads before s = (rest : List Bytes) (a : Answer) → Gives rest s (length before + 1) a → Gives (before ++ rest) start 1 a

first_moves : (es : List Load) → FirstTaken es → (before behind : List Load) (e : Load) (n : ℕ) → es ≡ before ++ (e ∷ behind) → Step (first before) n (Some (line_of (equation_fields e))) (on (first (before ++ (e ∷ []))))
first_moves es t before behind e n is =
    let good = at_place IsEquation es before behind e t.rows is in
    inr (row_some 2 IsEquation equation_fields equations_known e good, inl (e, (good, refl), sym (ap (after_equation n (first (before ++ (e ∷ [])))) (t.loaded before behind e is))))

first_leads : (es : List Load) → FirstTaken es → Leads (first_lines es) (first es)
first_leads es t rest a g =
    let number : length (first_lines es) + 1 ≡ 2 + length (rows equation_fields es) = omega arith in
    inr (first [], inl (refl, refl), rows_run equation_fields first es rest a (first_moves es t) [] es 2 refl (subst (λ m. Gives rest (first es) m a) number g))

second_moves : (es : List Load) (ls : List Limit) → SecondTaken es ls → (before behind : List Limit) (l : Limit) (n : ℕ) → ls ≡ before ++ (l ∷ behind) → Step (second es before) n (Some (line_of (limit_fields l))) (on (second es (before ++ (l ∷ []))))
second_moves es ls t before behind l n is =
    let good = at_place IsLimit ls before behind l t.rows is in
    let in_order = at_place (λ q. (q.least ≤ q.most) × (q.most ≤ 1000000)) ls before behind l t.in_order is in
    let new = t.once before behind l is in
    let low = le-ltb l.most l.least in_order.0 in
    let high = le-ltb 1000000 l.most in_order.1 in
    inr (row_some 3 IsLimit limit_fields limits_known l good, inl (l, (good, refl), λ i. after_limit n (second es (before ++ (l ∷ []))) l.variable (sym new i) (sym low i) (sym high i)))

second_leads : (es : List Load) (ls : List Limit) → SecondTaken es ls → Leads (second_lines es ls) (second es ls)
second_leads es ls t rest a g =
    let number : length (second_lines es ls) + 1 ≡ suc (suc (length (first_lines es) + 1)) + length (rows limit_fields ls) = omega (arith, length-append (first_lines es) ([] ∷ (names Limits ∷ rows limit_fields ls))) in
    subst (λ l. Gives l start 1 a) (sym (append_assoc (first_lines es) ([] ∷ (names Limits ∷ rows limit_fields ls)) rest))
    (first_leads es t.first ([] ∷ (names Limits ∷ (rows limit_fields ls ++ rest))) a
    (inr (
      first_gap es,
      inl (refl, refl),
      inr (
        second es [],
        inl (refl, refl),
        rows_run limit_fields (second es) ls rest a (second_moves es ls t) [] ls (suc (suc (length (first_lines es) + 1))) refl (subst (λ m. Gives rest (second es ls) m a) number g),
      ),
    )))

third_moves : (es : List Load) (ls : List Limit) (cs : List Choice) → ThirdTaken es ls cs → (before behind : List Choice) (c : Choice) (n : ℕ) → cs ≡ before ++ (c ∷ behind) → Step (third es ls before) n (Some (line_of (choice_fields c))) (on (third es ls (before ++ (c ∷ []))))
third_moves es ls cs t before behind c n is =
    inl (c, (at_place IsChoice cs before behind c t.rows is, refl), sym (ap (after_choice n (third es ls (before ++ (c ∷ [])))) (t.chosen before behind c (stand es before) is (calls_decide_what_stands.some es before).1)))

third_leads : (es : List Load) (ls : List Limit) (cs : List Choice) → ThirdTaken es ls cs → Leads (third_lines es ls cs) (third es ls cs)
third_leads es ls cs t rest a g =
    let number : length (third_lines es ls cs) + 1 ≡ suc (suc (length (second_lines es ls) + 1)) + length (rows choice_fields cs) = omega (arith, length-append (second_lines es ls) ([] ∷ (names Choices ∷ rows choice_fields cs))) in
    subst (λ l. Gives l start 1 a) (sym (append_assoc (second_lines es ls) ([] ∷ (names Choices ∷ rows choice_fields cs)) rest))
    (second_leads es ls t.second ([] ∷ (names Choices ∷ (rows choice_fields cs ++ rest))) a
    (inr (
      second_gap es ls,
      inl (refl, refl),
      inr (
        third es ls [],
        inl (refl, refl),
        rows_run choice_fields (third es ls) cs rest a (third_moves es ls cs t) [] cs (suc (suc (length (second_lines es ls) + 1))) refl (subst (λ m. Gives rest (third es ls cs) m a) number g),
      ),
    )))

-- a line that is refused there
stops : (lines before : List Bytes) (text : Bytes) (line : ℕ) (s : Spot) (a : Answer) → Leads before s → Comes lines before text line → Step s line (Some text) (ends a) → Gives lines start 1 a
stops lines before text line s a leads comes step =
    subst (λ l. Gives l start 1 a) (sym comes.split) (leads (text ∷ comes.rest) a (inl (subst (λ m. Step s m (Some text) (ends a)) comes.number step)))

-- a names line that is wrong or missing
not_some : (text : Bytes) → ◌≡◌ {A = Option Bytes} None (Some text) → ⊥
not_some text e = let z : ◌≡◌ {A = ℕ} 0 1 = cc in omega arith

same_text : (l m : Bytes) → ◌≡◌ {A = Option Bytes} (Some l) (Some m) → l ≡ m
same_text l m e = cc

module _ (t : Table) (gap m : Spot) (n : ℕ) (by_names : (line : Option Bytes) (a : Answer) → ByNames t m n line (ends a) → Step gap n line (ends a)) where
  wrong_names : (lines : List Bytes) → NotNamed t lines → Gives lines gap n (Err (Line n (Names t)))
  wrong_names [] h = by_names None (Err (Line n (Names t))) (inr (not_some (names t), refl))
  wrong_names (l ∷ lines) h = inl (by_names (Some l) (Err (Line n (Names t))) (inr ((λ e. h lines (ap (λ x. x ∷ lines) (same_text l (names t) e))), refl)))

module _ (t : Table) (s gap m : Spot) (at_end : (n : ℕ) → Step s n None (ends (Err (Line n (Names t))))) (at_gap : (n : ℕ) → Step s n (Some []) (on gap)) (by_names : (n : ℕ) (line : Option Bytes) (a : Answer) → ByNames t m n line (ends a) → Step gap n line (ends a)) where
  unnamed : (lines before : List Bytes) (line : ℕ) → Leads before s → Unnamed lines before line t → Gives lines start 1 (Err (Line line (Names t)))
  unnamed lines before line leads (inl u) =
      subst (λ l. Gives l start 1 (Err (Line line (Names t)))) (append-nil before ∙ sym u.0)
      (leads [] (Err (Line line (Names t))) (subst (λ k. Step s k None (ends (Err (Line line (Names t))))) u.1 (at_end line)))
  unnamed lines before line leads (inr u) =
      let number : suc (length before + 1) ≡ line = omega (arith, u.3) in
      subst (λ l. Gives l start 1 (Err (Line line (Names t)))) (sym u.1)
      (leads ([] ∷ u.0) (Err (Line line (Names t)))
      (inr (
        gap,
        at_gap (length before + 1),
        subst (λ k. Gives u.0 gap k (Err (Line line (Names t)))) (sym number) (wrong_names t gap m line (by_names line) u.0 u.2),
      )))

names_refused : (lines : List Bytes) (line : ℕ) (t : Table) → NamesRefused lines line t → Gives lines start 1 (Err (Line line (Names t)))
names_refused lines line Equations h =
    subst (λ k. Gives lines start 1 (Err (Line k (Names Equations)))) (sym h.0) (wrong_names Equations start (first []) 1 (λ l a b. b) lines h.1)
names_refused lines line Limits h =
    unnamed Limits (first h.0) (first_gap h.0) (second h.0 []) (λ n. refl) (λ n. inl (refl, refl)) (λ n l a b. b) lines (first_lines h.0) line (first_leads h.0 h.1) h.2
names_refused lines line Choices h =
    unnamed Choices (second h.0 h.1) (second_gap h.0 h.1) (third h.0 h.1 []) (λ n. refl) (λ n. inl (refl, refl)) (λ n l a b. b) lines (second_lines h.0 h.1) line (second_leads h.0 h.1 h.2) h.3

-- a line that is no row
row_refused : (lines : List Bytes) (line : ℕ) (why : LineRefusal) → RowRefused lines line why → Gives lines start 1 (Err (Line line why))
row_refused lines line why (inl h) = stops lines (first_lines h.0) h.1 line (first h.0) (Err (Line line why)) (first_leads h.0 h.2) h.3 (inr (h.4, inr (why, h.5, refl)))
row_refused lines line why (inr (inl h)) =
    stops lines (second_lines h.0 h.1) h.2 line (second h.0 h.1) (Err (Line line why)) (second_leads h.0 h.1 h.3) h.4
    (⊎_elim
    (λ (none : NoRow 3 IsLimit limit_fields h.2 why). inr (h.5, inr (why, none, refl)))
    (λ (twice : (l : Limit) × IsRow IsLimit limit_fields h.2 l × (is_listed h.1 l.variable ≡ true) × (why ≡ ListedTwice l.variable)).
    let l = twice.0 in
    inr (h.5, inl (l, twice.1, ap (λ w. ends (Err (Line line w))) twice.3 ∙ ap (λ b. after_limit line (second h.0 (h.1 ++ (l ∷ []))) l.variable b (ltb l.most l.least) (ltb 1000000 l.most)) (sym twice.2))))
    h.6)
row_refused lines line why (inr (inr h)) = stops lines (third_lines h.0 h.1 h.2) h.3 line (third h.0 h.1 h.2) (Err (Line line why)) (third_leads h.0 h.1 h.2 h.4) h.5 (inr (why, h.6, refl))

-- a call that is refused
load_refused : (lines : List Bytes) (line : ℕ) (why : LoadRefusal) → LoadRefused lines line why → Gives lines start 1 (Err (NotLoaded line why))
load_refused lines line why h =
    stops lines (first_lines h.0) (line_of (equation_fields h.1)) line (first h.0) (Err (NotLoaded line why)) (first_leads h.0 h.2) h.4
    (inr (row_some 2 IsEquation equation_fields equations_known h.1 h.3, inl (h.1, (h.3, refl), sym (ap (after_equation line (first (h.0 ++ (h.1 ∷ [])))) h.5))))

out_of_order : (n : ℕ) (m : Spot) (x : ℕ) (low high : Bool) → (low ≡ true) ⊎ (high ≡ true) → ends (Err (NotLimits n OutOfOrder)) ≡ after_limit n m x false low high
out_of_order n m x true high h = refl
out_of_order n m x false true h = refl
out_of_order n m x false false h = absurd (⊎_elim (λ (e : false ≡ true). (let z : ◌≡◌ {A = ℕ} 0 1 = cc in omega arith)) (λ (e : false ≡ true). (let z : ◌≡◌ {A = ℕ} 0 1 = cc in omega arith)) h)

tested : (l : Limit) → IsOutOfOrder l.least l.most → (ltb l.most l.least ≡ true) ⊎ (ltb 1000000 l.most ≡ true)
tested l (inl low) = inl (lt-ltb l.most l.least low)
tested l (inr high) = inr (lt-ltb 1000000 l.most high)

limit_refused : (lines : List Bytes) (line : ℕ) (why : LengthRefusal) → LimitRefused lines line why → Gives lines start 1 (Err (NotLimits line why))
limit_refused lines line OutOfOrder h =
    let l = h.2 in
    let m = second h.0 (h.1 ++ (l ∷ [])) in
    stops lines (second_lines h.0 h.1) (line_of (limit_fields l)) line (second h.0 h.1) (Err (NotLimits line OutOfOrder)) (second_leads h.0 h.1 h.3) h.6
    (inr (
      row_some 3 IsLimit limit_fields limits_known l h.4,
      inl (
        l,
        (h.4, refl),
        out_of_order line m l.variable (ltb l.most l.least) (ltb 1000000 l.most) (tested l h.7) ∙ ap (λ b. after_limit line m l.variable b (ltb l.most l.least) (ltb 1000000 l.most)) (sym h.5),
      ),
    ))

stands : (es : List Load) (cs : List Choice) (S : Standing) → Reaches es cs S → S ≡ stand es cs
stands es cs S run = calls_decide_what_stands.same es cs S (stand es cs) run (calls_decide_what_stands.some es cs).1

choice_refused : (lines : List Bytes) (line : ℕ) (why : ChoiceRefusal) → ChoiceRefused lines line why → Gives lines start 1 (Err (NotChosen line why))
choice_refused lines line why h =
    stops lines (third_lines h.0 h.1 h.2) (line_of (choice_fields h.3)) line (third h.0 h.1 h.2) (Err (NotChosen line why)) (third_leads h.0 h.1 h.2 h.5) h.7
    (inl (h.3, (h.6, refl), sym (ap (after_choice line (third h.0 h.1 (h.2 ++ (h.3 ∷ [])))) (ap (λ T. choice_refusal T h.3) (sym (stands h.0 h.2 h.4 h.8)) ∙ h.9))))

-- all lines are taken
closed : (lines : List Bytes) (es : List Load) (ls : List Limit) (cs : List Choice) (S : Standing) (r : Option CloseRefusal) → AllTaken lines es ls cs S → closes es ls S ≡ r → Gives lines start 1 (closing es S r)
closed lines es ls cs S r all is =
    subst (λ l. Gives l start 1 (closing es S r)) (append-nil (third_lines es ls cs) ∙ sym all.are)
    (third_leads es ls cs all.taken [] (closing es S r)
    (ap (λ q. ends (closing es S q)) (sym is) ∙ ap (λ T. ends (closing es T (closes es ls T))) (stands es cs S all.reaches)))

pub answered : (lines : List Bytes) (a : Answer) → AnswersLines lines a → Gives lines start 1 a
answered lines (Ok c) h = subst (λ d. Gives lines start 1 (Ok d)) (sym h.6) (closed lines h.0 h.1 h.2 h.3 None h.4 h.5)
answered lines (Err (Buffer why)) h = absurd h
answered lines (Err TooLong) h = absurd h
answered lines (Err (Line line (Names t))) h = names_refused lines line t h
answered lines (Err (Line line (FieldCount wanted))) h = row_refused lines line (FieldCount wanted) h
answered lines (Err (Line line (Unreadable place))) h = row_refused lines line (Unreadable place) h
answered lines (Err (Line line (ListedTwice x))) h = row_refused lines line (ListedTwice x) h
answered lines (Err (NotLoaded line why)) h = load_refused lines line why h
answered lines (Err (NotLimits line why)) h = limit_refused lines line why h
answered lines (Err (NotChosen line why)) h = choice_refused lines line why h
answered lines (Err (Close why)) h = closed lines h.0 h.1 h.2 h.3 (Some why) h.4 h.5

pub one_answer : OneAnswer
one_answer input a b (inl g) (inl h) = g.1 ∙ sym h.1
one_answer input a b (inl g) (inr h) = absurd (omega (arith, g.0, h.0))
one_answer input a b (inr g) (inl h) = absurd (omega (arith, g.0, h.0))
one_answer input a b (inr g) (inr h) = gives_one (lines_of input) start 1 a b (answered (lines_of input) a g.1) (answered (lines_of input) b h.1)
