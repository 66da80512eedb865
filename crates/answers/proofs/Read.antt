-- Tables are known from their text. Assumes nothing.
use Rattle.std.proofs.Common.{◌≡◌, ℕ, List, [], ◌∷◌, ◌++◌, sym, refl, ◌∙◌, subst, append_assoc, arith, lit<}
use Rattle.std.specs.List.{AllByRecursion}
use Rattle.systems.specs.declared.Choice.{Choice}
use Rattle.systems.specs.Runs.{Load}
use Rattle.text.specs.Pieces.{Bytes, Line}
use Rattle.text.proofs.Cuts.{free_between}
use Rattle.tables.specs.declared.types.Limit.{Limit}
use Rattle.tables.specs.declared.types.Table.TheVariants.{Equations, Limits, Choices}
use Rattle.tables.specs.Fields.{line_of}
use Rattle.tables.specs.Lines.{IsTextOf}
use Rattle.tables.specs.Names.{names}
use Rattle.tables.specs.Rows.{equation_fields, limit_fields, choice_fields, side_text, IsEquation, IsLimit, IsChoice}
use Rattle.tables.specs.Written.{Tables, IsWritable, rows, first_lines, third_lines, lines}
use Rattle.tables.proofs.Texts.{lines_are_written}
use Rattle.answers.specs.Theorems.{TablesAreRead}
use Rattle.answers.proofs.Known.{Known, same_row, row_some, equations_known, limits_known, choices_known, Lack, limit_lacks, choice_lacks}

-- the three tables in turn
pub in_turn : (equations : List Load) (limits : List Limit) (choices : List Choice) → third_lines equations limits choices ≡ names Equations ∷ (rows equation_fields equations ++ ([] ∷ (names Limits ∷ (rows limit_fields limits ++ ([] ∷ (names Choices ∷ rows choice_fields choices))))))
in_turn equations limits choices = append_assoc (first_lines equations) ([] ∷ (names Limits ∷ rows limit_fields limits)) ([] ∷ (names Choices ∷ rows choice_fields choices))

-- the rows before an empty line are known, and so are those before the end
module _ {R : Type 0} (width : ℕ) (good : R → Type 0) (fields : R → List Bytes) (k : Known width good fields) where
  rows_to_empty : (rs qs : List R) (x y : List Bytes) → AllByRecursion good rs → AllByRecursion good qs → rows fields rs ++ ([] ∷ x) ≡ rows fields qs ++ ([] ∷ y) → (rs ≡ qs) × (x ≡ y)
  rows_to_empty [] [] x y g h e = (refl, cc)
  rows_to_empty [] (q ∷ qs) x y g h e = absurd (row_some width good fields k q h.0 (cc))
  rows_to_empty (r ∷ rs) [] x y g h e = absurd (row_some width good fields k r g.0 (cc))
  rows_to_empty (r ∷ rs) (q ∷ qs) x y g h e =
      let line : line_of (fields r) ≡ line_of (fields q) = cc in
      let rest : rows fields rs ++ ([] ∷ x) ≡ rows fields qs ++ ([] ∷ y) = cc in
      let one = same_row width good fields k r q g.0 h.0 line in
      let more = rows_to_empty rs qs x y g.1 h.1 rest in
      (λ i. one i ∷ more.0 i, more.1)

  rows_to_end : (rs qs : List R) → AllByRecursion good rs → AllByRecursion good qs → rows fields rs ≡ rows fields qs → rs ≡ qs
  rows_to_end [] [] g h e = refl
  rows_to_end [] (q ∷ qs) g h e = absurd (let z : ◌≡◌ {A = ℕ} 0 1 = cc in omega arith)
  rows_to_end (r ∷ rs) [] g h e = absurd (let z : ◌≡◌ {A = ℕ} 0 1 = cc in omega arith)
  rows_to_end (r ∷ rs) (q ∷ qs) g h e =
      let line : line_of (fields r) ≡ line_of (fields q) = cc in
      let rest : rows fields rs ≡ rows fields qs = cc in
      let one = same_row width good fields k r q g.0 h.0 line in
      let more = rows_to_end rs qs g.1 h.1 rest in
      λ i. one i ∷ more i

-- each line lacks a newline
all_append : {X : Type 0} (P : X → Type 0) (xs ys : List X) → AllByRecursion P xs → AllByRecursion P ys → AllByRecursion P (xs ++ ys)
all_append P [] ys h k = k
all_append P (x ∷ xs) ys h k = (h.0, all_append P xs ys h.1 k)

plain_line : (field : Bytes) (fields : List Bytes) → Lack 10 (field ∷ fields) → Line (line_of (field ∷ fields))
plain_line field fields h = free_between 10 32 field fields (λ e. omega arith) h.0 h.1

plain_side : (side : Bytes) → Line side → Line (side_text side)
plain_side [] h = refl
plain_side (b ∷ side) h = h

plain_equations : (es : List Load) → AllByRecursion (λ e. Line e.0 × Line e.1) es → AllByRecursion Line (rows equation_fields es)
plain_equations [] h = tt
plain_equations (e ∷ es) h = (plain_line (side_text e.0) (side_text e.1 ∷ []) (plain_side e.0 h.0.0, (plain_side e.1 h.0.1, tt)), plain_equations es h.1)

plain_fields : (fields : List Bytes) → Lack 10 fields → Line (line_of fields)
plain_fields [] h = refl
plain_fields (field ∷ fields) h = plain_line field fields h

plain_limits : (ls : List Limit) → AllByRecursion IsLimit ls → AllByRecursion Line (rows limit_fields ls)
plain_limits [] h = tt
plain_limits (l ∷ ls) h = (plain_fields (limit_fields l) (limit_lacks 10 (lit< tt) l h.0), plain_limits ls h.1)

plain_choices : (cs : List Choice) → AllByRecursion IsChoice cs → AllByRecursion Line (rows choice_fields cs)
plain_choices [] h = tt
plain_choices (c ∷ cs) h = (plain_fields (choice_fields c) (choice_lacks 10 (lit< tt) c h.0), plain_choices cs h.1)

plain : (t : Tables) → IsWritable t → AllByRecursion Line (lines t)
plain t w =
    subst (AllByRecursion Line) (sym (in_turn t.equations t.limits t.choices)) (
      refl,
      all_append Line (rows equation_fields t.equations) _ (plain_equations t.equations w.no_newline) (
        refl,
        (
          refl,
          all_append Line (rows limit_fields t.limits) _ (plain_limits t.limits w.limits)
              (refl, (refl, plain_choices t.choices w.choices)),
        ),
      ),
    )

behind : (x y : Bytes) (xs ys : List Bytes) → x ∷ xs ≡ y ∷ ys → xs ≡ ys
behind x y xs ys e = cc

same_tables : (t u : Tables) → IsWritable t → IsWritable u → lines t ≡ lines u → t ≡ u
same_tables t u w v e =
    let all = behind _ _ _ _ (sym (in_turn t.equations t.limits t.choices) ∙ e ∙ in_turn u.equations u.limits u.choices) in
    let first = rows_to_empty 2 IsEquation equation_fields equations_known t.equations u.equations _ _ w.equations v.equations all in
    let second = rows_to_empty 3 IsLimit limit_fields limits_known t.limits u.limits _ _ w.limits v.limits (behind _ _ _ _ first.1) in
    let third = rows_to_end 3 IsChoice choice_fields choices_known t.choices u.choices w.choices v.choices (behind _ _ _ _ second.1) in
    λ i. record { equations = first.0 i; limits = second.0 i; choices = third i }

pub tables_are_read : TablesAreRead
tables_are_read = record {
  read = λ t text w is. record { writable = w; are = lines_are_written.read (lines t) text (plain t w) is };
  written = λ t text r. subst (λ ls. IsTextOf ls text) r.are (lines_are_written.written text).1;
  same = λ t u text r q. same_tables t u r.writable q.writable (sym r.are ∙ q.are);
}
