-- Reading lines one by one: where a reader stands, and what the next line makes of it. Assumes nothing.
use Rattle.std.proofs.Common.{◌≡◌, ℕ, suc, true, false, Bool, ltb, List, [], ◌∷◌, ◌++◌, Some, None, Ok, Err, Option, sym, ap, ◌∙◌, subst, inl, inr, arith, ◌≢◌, ◌⊎◌}
use Rattle.systems.specs.declared.Choice.{Choice}
use Rattle.systems.specs.declared.ChoiceRefusal.{ChoiceRefusal}
use Rattle.systems.specs.declared.LoadRefusal.{LoadRefusal}
use Rattle.systems.specs.Loading.{load_refusal}
use Rattle.systems.specs.Refusals.{choice_refusal}
use Rattle.systems.specs.Runs.{Load, opened, loaded}
use Rattle.systems.specs.Sides.{stands_in}
use Rattle.systems.specs.Standings.{Standing}
use Rattle.systems.proofs.Determined.{calls_decide_what_stands}
use Rattle.guarantee.specs.declared.CloseRefusal.{CloseRefusal}
use Rattle.guarantee.specs.Closing.{witness}
use Rattle.length.specs.declared.kind.LengthRefusal.TheVariants.{OutOfOrder}
use Rattle.text.specs.Pieces.{Bytes}
use Rattle.tables.specs.declared.types.Limit.{Limit}
use Rattle.tables.specs.declared.types.LineRefusal.{LineRefusal}
use Rattle.tables.specs.declared.types.LineRefusal.TheVariants.{Names, ListedTwice}
use Rattle.tables.specs.declared.types.Table.{Table}
use Rattle.tables.specs.declared.types.Table.TheVariants.{Equations, Limits, Choices}
use Rattle.tables.specs.Names.{names}
use Rattle.tables.specs.Reading.{IsRow, NoRow}
use Rattle.tables.specs.Rows.{equation_fields, limit_fields, choice_fields, IsEquation, IsLimit, IsChoice}
use Rattle.tables.specs.Written.{is_listed}
use Rattle.answers.specs.declared.errors.RunError.TheVariants.{Line, Load as NotLoaded, Limits as NotLimits, Choice as NotChosen, Close}
use Rattle.answers.specs.Answers.{Answer, closes}
use Rattle.answers.proofs.Known.{Known, same_row, row_not, one_reason, equations_known, limits_known, choices_known}

-- before the first names line; among the rows of a table; behind the empty line that ends one
pub data Spot : Type 0 where
  start : Spot
  first : List Load → Spot
  first_gap : List Load → Spot
  second : List Load → List Limit → Spot
  second_gap : List Load → List Limit → Spot
  third : List Load → List Limit → List Choice → Spot

-- reading goes on from there, or ends with this answer
pub data Outcome : Type 0 where
  on : Spot → Outcome
  ends : Answer → Outcome

-- where the call of the row of this line is taken the reader stands there
abbrev pub after_equation : ℕ → Spot → Option LoadRefusal → Outcome
after_equation n m None = on m
after_equation n m (Some why) = ends (Err (NotLoaded n why))

abbrev pub after_limit : ℕ → Spot → ℕ → Bool → Bool → Bool → Outcome
after_limit n m x true low high = ends (Err (Line n (ListedTwice x)))
after_limit n m x false true high = ends (Err (NotLimits n OutOfOrder))
after_limit n m x false false true = ends (Err (NotLimits n OutOfOrder))
after_limit n m x false false false = on m

abbrev pub after_choice : ℕ → Spot → Option ChoiceRefusal → Outcome
after_choice n m None = on m
after_choice n m (Some why) = ends (Err (NotChosen n why))

abbrev pub stand : List Load → List Choice → Standing
stand es cs = (calls_decide_what_stands.some es cs).0

abbrev pub by_equation : List Load → ℕ → Load → Outcome
by_equation es n e = after_equation n (first (es ++ (e ∷ []))) (load_refusal (opened es) e.0 e.1)

abbrev pub by_limit : List Load → List Limit → ℕ → Limit → Outcome
by_limit es ls n l = after_limit n (second es (ls ++ (l ∷ []))) l.variable (is_listed ls l.variable) (ltb l.most l.least) (ltb 1000000 l.most)

abbrev pub by_choice : List Load → List Limit → List Choice → ℕ → Choice → Outcome
by_choice es ls cs n c = after_choice n (third es ls (cs ++ (c ∷ []))) (choice_refusal (stand es cs) c)

-- the answer of the close
abbrev pub closing : List Load → Standing → Option CloseRefusal → Answer
closing es S None = Ok (witness (stands_in (loaded es)) S)
closing es S (Some why) = Err (Close why)

-- what a row makes of it, or a line that is none
abbrev pub ByRow : {R : Type 0} → ℕ → (R → Type 0) → (R → List Bytes) → (R → Outcome) → ℕ → Bytes → Outcome → Type 0
ByRow {R} width good fields next n text o =
    ((r : R) × IsRow good fields text r × (o ≡ next r))
    ⊎ ((why : LineRefusal) × NoRow width good fields text why × (o ≡ ends (Err (Line n why))))

-- or an empty line, behind which the reader stands there
abbrev pub ByRowOrGap : {R : Type 0} → ℕ → (R → Type 0) → (R → List Bytes) → (R → Outcome) → Spot → ℕ → Bytes → Outcome → Type 0
ByRowOrGap width good fields next gap n text o = ((text ≡ []) × (o ≡ on gap)) ⊎ ((text ≢ []) × ByRow width good fields next n text o)

-- what the names line of the table makes of it, or what is not that
abbrev pub ByNames : Table → Spot → ℕ → Option Bytes → Outcome → Type 0
ByNames t m n line o = ((line ≡ Some (names t)) × (o ≡ on m)) ⊎ ((line ≢ Some (names t)) × (o ≡ ends (Err (Line n (Names t)))))

-- what the next line, that of this number, makes of it; or none, where the text ends
abbrev pub Step : Spot → ℕ → Option Bytes → Outcome → Type 0
Step start n line o = ByNames Equations (first []) n line o
Step (first es) n None o = o ≡ ends (Err (Line n (Names Limits)))
Step (first es) n (Some text) o = ByRowOrGap 2 IsEquation equation_fields (by_equation es n) (first_gap es) n text o
Step (first_gap es) n line o = ByNames Limits (second es []) n line o
Step (second es ls) n None o = o ≡ ends (Err (Line n (Names Choices)))
Step (second es ls) n (Some text) o = ByRowOrGap 3 IsLimit limit_fields (by_limit es ls n) (second_gap es ls) n text o
Step (second_gap es ls) n line o = ByNames Choices (third es ls []) n line o
Step (third es ls cs) n None o = o ≡ ends (closing es (stand es cs) (closes es ls (stand es cs)))
Step (third es ls cs) n (Some text) o = ByRow 3 IsChoice choice_fields (by_choice es ls cs n) n text o

-- what is answered where the reader stands there before these lines, the first of which has this number
abbrev pub Gives : List Bytes → Spot → ℕ → Answer → Type 0
Gives [] s n a = Step s n None (ends a)
Gives (text ∷ lines) s n a = Step s n (Some text) (ends a) ⊎ ((m : Spot) × Step s n (Some text) (on m) × Gives lines m (suc n) a)

-- there is one outcome of a line
one_by_row : {R : Type 0} (width : ℕ) (good : R → Type 0) (fields : R → List Bytes) → Known width good fields → (next : R → Outcome) (n : ℕ) (text : Bytes) (o p : Outcome) → ByRow width good fields next n text o → ByRow width good fields next n text p → o ≡ p
one_by_row width good fields k next n text o p (inl a) (inl b) =
    let same = same_row width good fields k a.0 b.0 a.1.0 b.1.0 (sym a.1.1 ∙ b.1.1) in
    a.2 ∙ ap next same ∙ sym b.2
one_by_row width good fields k next n text o p (inl a) (inr b) = absurd (row_not width good fields k text a.0 b.0 a.1 b.1)
one_by_row width good fields k next n text o p (inr a) (inl b) = absurd (row_not width good fields k text b.0 a.0 b.1 a.1)
one_by_row width good fields k next n text o p (inr a) (inr b) = a.2 ∙ ap (λ w. ends (Err (Line n w))) (one_reason width good fields text a.0 b.0 a.1 b.1) ∙ sym b.2

one_by_row_or_gap : {R : Type 0} (width : ℕ) (good : R → Type 0) (fields : R → List Bytes) → Known width good fields → (next : R → Outcome) (gap : Spot) (n : ℕ) (text : Bytes) (o p : Outcome) → ByRowOrGap width good fields next gap n text o → ByRowOrGap width good fields next gap n text p → o ≡ p
one_by_row_or_gap width good fields k next gap n text o p (inl a) (inl b) = a.1 ∙ sym b.1
one_by_row_or_gap width good fields k next gap n text o p (inl a) (inr b) = absurd (b.0 a.0)
one_by_row_or_gap width good fields k next gap n text o p (inr a) (inl b) = absurd (a.0 b.0)
one_by_row_or_gap width good fields k next gap n text o p (inr a) (inr b) = one_by_row width good fields k next n text o p a.1 b.1

one_by_names : (t : Table) (m : Spot) (n : ℕ) (line : Option Bytes) (o p : Outcome) → ByNames t m n line o → ByNames t m n line p → o ≡ p
one_by_names t m n line o p (inl a) (inl b) = a.1 ∙ sym b.1
one_by_names t m n line o p (inl a) (inr b) = absurd (b.0 a.0)
one_by_names t m n line o p (inr a) (inl b) = absurd (a.0 b.0)
one_by_names t m n line o p (inr a) (inr b) = a.1 ∙ sym b.1

pub one_outcome : (s : Spot) (n : ℕ) (line : Option Bytes) (o p : Outcome) → Step s n line o → Step s n line p → o ≡ p
one_outcome start n line o p a b = one_by_names Equations (first []) n line o p a b
one_outcome (first es) n None o p a b = a ∙ sym b
one_outcome (first es) n (Some text) o p a b = one_by_row_or_gap 2 IsEquation equation_fields equations_known (by_equation es n) (first_gap es) n text o p a b
one_outcome (first_gap es) n line o p a b = one_by_names Limits (second es []) n line o p a b
one_outcome (second es ls) n None o p a b = a ∙ sym b
one_outcome (second es ls) n (Some text) o p a b = one_by_row_or_gap 3 IsLimit limit_fields limits_known (by_limit es ls n) (second_gap es ls) n text o p a b
one_outcome (second_gap es ls) n line o p a b = one_by_names Choices (third es ls []) n line o p a b
one_outcome (third es ls cs) n None o p a b = a ∙ sym b
one_outcome (third es ls cs) n (Some text) o p a b = one_by_row 3 IsChoice choice_fields choices_known (by_choice es ls cs n) n text o p a b

-- and one answer to all lines
same_end : (a b : Answer) → ends a ≡ ends b → a ≡ b
same_end a b e = cc

end_not_on : (a : Answer) (m : Spot) → ends a ≡ on m → ⊥
end_not_on a m e = let z : ◌≡◌ {A = ℕ} 0 1 = cc in omega arith

same_spot : (m k : Spot) → on m ≡ on k → m ≡ k
same_spot m k e = cc

pub gives_one : (lines : List Bytes) (s : Spot) (n : ℕ) (a b : Answer) → Gives lines s n a → Gives lines s n b → a ≡ b
gives_one [] s n a b g h = same_end a b (one_outcome s n None (ends a) (ends b) g h)
gives_one (text ∷ lines) s n a b (inl g) (inl h) = same_end a b (one_outcome s n (Some text) (ends a) (ends b) g h)
gives_one (text ∷ lines) s n a b (inl g) (inr h) = absurd (end_not_on a h.0 (one_outcome s n (Some text) (ends a) (on h.0) g h.1))
gives_one (text ∷ lines) s n a b (inr g) (inl h) = absurd (end_not_on b g.0 (one_outcome s n (Some text) (ends b) (on g.0) h g.1))
gives_one (text ∷ lines) s n a b (inr g) (inr h) =
    let same = same_spot g.0 h.0 (one_outcome s n (Some text) (on g.0) (on h.0) g.1 h.1) in
    gives_one lines h.0 (suc n) a b (subst (λ m. Gives lines m (suc n) a) same g.2) h.2
