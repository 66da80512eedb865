-- Lines that are rows, and the first field of a line that no row has. Assumes nothing.
use Rattle.std.proofs.Common.{◌≡◌, ℕ, ◌+◌, ◌^◌, ◌<◌, true, List, [], ◌∷◌, ◌++◌, length, codes, decimal, Some, None, Ok, Err, Option, Result, MatchResult, sym, refl, ap, ◌∙◌, subst, get_or, arith, lit<, length-append}
use Rattle.std.specs.List.{AllByRecursion}
use Rattle.std.specs.Result.{IsErrAnd}
use Rattle.text.specs.Pieces.{Bytes, free}
use Rattle.text.specs.Names.{variable_name}
use Rattle.text.specs.Reading.{Below, Reads}
use Rattle.tables.specs.declared.types.Limit.{Limit}
use Rattle.tables.specs.declared.types.LineRefusal.{LineRefusal}
use Rattle.tables.specs.declared.types.LineRefusal.TheVariants.{FieldCount, Unreadable}
use Rattle.tables.specs.Fields.{fields_of, line_of}
use Rattle.tables.specs.Reading.{IsRow, IsUnreadable, NoRow}
use Rattle.tables.specs.Rows.{limit_fields, equation_fields, side_text, IsSide, IsLimit, IsEquation}
use Rattle.tables.proofs.Cutting.{Parted, line_fields, parted}

-- where an answer is refused at a place, what is so at this place is so of the answer
pub at_unreadable : {X : Type 0} (r : Result X LineRefusal) (P : X → Type 0) (Q : LineRefusal → Type 0) (why : LineRefusal) (place n : ℕ) → IsErrAnd r (λ e. e ≡ why) → why ≡ Unreadable place → place ≡ n → Q (Unreadable n) → MatchResult r P Q
at_unreadable (Ok x) P Q why place n h is same q = absurd h
at_unreadable (Err e) P Q why place n h is same q = subst Q (sym (h ∙ is ∙ ap Unreadable same)) q

-- and where the line has another number of fields
pub at_count : {X : Type 0} (r : Result X LineRefusal) (P : X → Type 0) (Q : LineRefusal → Type 0) (why : LineRefusal) (n : ℕ) → IsErrAnd r (λ e. e ≡ why) → why ≡ FieldCount n → Q (FieldCount n) → MatchResult r P Q
at_count (Ok x) P Q why n h is q = absurd h
at_count (Err e) P Q why n h is q = subst Q (sym (h ∙ is)) q

-- a line with the fields of a row
pub is_row : {R : Type 0} (good : R → Type 0) (fields : R → List Bytes) (line : Bytes) (r : R) → good r → fields_of line ≡ fields r → IsRow good fields line r
is_row good fields line r g e = (g, sym (line_fields line) ∙ ap line_of e)

-- no row has the first field, or the first two, or the first three
pub bad_first : {R : Type 0} (width : ℕ) (good : R → Type 0) (fields : R → List Bytes) (line f : Bytes) (behind : List Bytes) (r : R) → fields_of line ≡ f ∷ behind → length (f ∷ behind) ≡ width → good r → ((q : R) → good q → (rest : List Bytes) → fields q ≡ f ∷ rest → ⊥) → NoRow width good fields line (Unreadable 0)
bad_first width good fields line f behind r is count g none = (
  ap length is ∙ count,
  record { before = []; field = f; behind = behind; split = is; some_row = (r, g, (fields r, refl)); no_row = none; at = refl },
)

pub bad_second : {R : Type 0} (width : ℕ) (good : R → Type 0) (fields : R → List Bytes) (line f s : Bytes) (behind : List Bytes) (r : R) (rest : List Bytes) → fields_of line ≡ f ∷ s ∷ behind → length (f ∷ s ∷ behind) ≡ width → good r → fields r ≡ f ∷ rest → ((q : R) → good q → (more : List Bytes) → fields q ≡ f ∷ s ∷ more → ⊥) → NoRow width good fields line (Unreadable (length f + 1))
bad_second width good fields line f s behind r rest is count g has none = (
  ap length is ∙ count,
  record { before = f ∷ []; field = s; behind = behind; split = is; some_row = (r, g, (rest, has)); no_row = none; at = omega (arith, length-append f (32 ∷ [])) },
)

pub bad_third : {R : Type 0} (width : ℕ) (good : R → Type 0) (fields : R → List Bytes) (line f s t : Bytes) (behind : List Bytes) (r : R) (rest : List Bytes) → fields_of line ≡ f ∷ s ∷ t ∷ behind → length (f ∷ s ∷ t ∷ behind) ≡ width → good r → fields r ≡ f ∷ s ∷ rest → ((q : R) → good q → (more : List Bytes) → fields q ≡ f ∷ s ∷ t ∷ more → ⊥) → NoRow width good fields line (Unreadable (length f + 1 + length s + 1))
bad_third width good fields line f s t behind r rest is count g has none = (
  ap length is ∙ count,
  record {
    before = f ∷ s ∷ [];
    field = t;
    behind = behind;
    split = is;
    some_row = (r, g, (rest, has));
    no_row = none;
    at = omega (arith, length-append f (32 ∷ (s ++ 32 ∷ [])), length-append s (32 ∷ []));
  },
)

-- lines of the second table
pub limit_first : (line f s t : Bytes) → fields_of line ≡ f ∷ s ∷ t ∷ [] → Reads (Below 26) variable_name f None → NoRow 3 IsLimit limit_fields line (Unreadable 0)
limit_first line f s t is none =
    bad_first 3 IsLimit limit_fields line f (s ∷ t ∷ []) (record { variable = 0; least = 0; most = 0 }) is refl (lit< tt, lit< tt, lit< tt)
    (λ q g rest e. none q.variable g.0 (sym (ap (λ l. get_or l 0 []) e)))

pub limit_second : (line f s t : Bytes) (x : ℕ) → fields_of line ≡ f ∷ s ∷ t ∷ [] → Reads (Below 26) variable_name f (Some x) → Reads (Below (10 ^ 7)) decimal s None → NoRow 3 IsLimit limit_fields line (Unreadable (length f + 1))
limit_second line f s t x is v none =
    bad_second 3 IsLimit limit_fields line f s (t ∷ []) (record { variable = x; least = 0; most = 0 }) (decimal 0 ∷ decimal 0 ∷ []) is refl (v.0, lit< tt, lit< tt) (ap (λ b. b ∷ decimal 0 ∷ decimal 0 ∷ []) (sym v.1))
    (λ q g rest e. none q.least g.1 (sym (ap (λ l. get_or l 1 []) e)))

pub limit_third : (line f s t : Bytes) (x n : ℕ) → fields_of line ≡ f ∷ s ∷ t ∷ [] → Reads (Below 26) variable_name f (Some x) → Reads (Below (10 ^ 7)) decimal s (Some n) → Reads (Below (10 ^ 7)) decimal t None → NoRow 3 IsLimit limit_fields line (Unreadable (length f + 1 + length s + 1))
limit_third line f s t x n is v l none =
    bad_third 3 IsLimit limit_fields line f s t [] (record { variable = x; least = n; most = 0 }) (decimal 0 ∷ []) is refl (v.0, l.0, lit< tt) (λ i. sym v.1 i ∷ sym l.1 i ∷ decimal 0 ∷ [])
    (λ q g rest e. none q.most g.2 (sym (ap (λ l. get_or l 2 []) e)))

pub limit_row : (line f s t : Bytes) (x n m : ℕ) → fields_of line ≡ f ∷ s ∷ t ∷ [] → Reads (Below 26) variable_name f (Some x) → Reads (Below (10 ^ 7)) decimal s (Some n) → Reads (Below (10 ^ 7)) decimal t (Some m) → IsRow IsLimit limit_fields line (record { variable = x; least = n; most = m })
limit_row line f s t x n m is v l k = is_row IsLimit limit_fields line (record { variable = x; least = n; most = m }) (v.0, l.0, k.0) (is ∙ (λ i. v.1 i ∷ l.1 i ∷ k.1 i ∷ []))

side_some : (side : Bytes) → side_text side ≡ [] → ⊥
side_some [] e = let z : ◌≡◌ {A = ℕ} 0 1 = cc in omega arith
side_some (b ∷ side) e = let z : ◌≡◌ {A = ℕ} 0 1 = cc in omega arith

empty_side : IsSide []
empty_side = record { no_space = refl; no_dash = λ e. (let z : ◌≡◌ {A = ℕ} 0 1 = cc in omega arith) }

-- lines of the first table
is_side : (field side : Bytes) → free 32 field ≡ true → field ≡ side_text side → (side ≡ codes "-" → ⊥) → IsSide side
is_side field [] h e dash = record { no_space = refl; no_dash = dash }
is_side field (b ∷ side) h e dash = record { no_space = subst (λ l. free 32 l ≡ true) e h; no_dash = dash }

pub equation_first : (line f s : Bytes) → fields_of line ≡ f ∷ s ∷ [] → f ≡ [] → NoRow 2 IsEquation equation_fields line (Unreadable 0)
equation_first line f s is none =
    bad_first 2 IsEquation equation_fields line f (s ∷ []) ([], []) is refl (empty_side, empty_side) (λ q g rest e. side_some q.0 (ap (λ l. get_or l 0 []) e ∙ none))

pub equation_second : (line f s l : Bytes) → fields_of line ≡ f ∷ s ∷ [] → f ≡ side_text l → (l ≡ codes "-" → ⊥) → s ≡ [] → NoRow 2 IsEquation equation_fields line (Unreadable (length f + 1))
equation_second line f s l is has dash none =
    bad_second 2 IsEquation equation_fields line f s [] (l, []) (codes "-" ∷ []) is refl (is_side f l (subst Parted is (parted line)).0 has dash, empty_side) (ap (λ b. b ∷ codes "-" ∷ []) (sym has))
    (λ q g rest e. side_some q.1 (ap (λ l. get_or l 1 []) e ∙ none))

pub equation_row : (line f s l r : Bytes) → fields_of line ≡ f ∷ s ∷ [] → f ≡ side_text l → (l ≡ codes "-" → ⊥) → s ≡ side_text r → (r ≡ codes "-" → ⊥) → IsRow IsEquation equation_fields line (l, r)
equation_row line f s l r is hl dl hr dr =
    let p = subst Parted is (parted line) in
    is_row IsEquation equation_fields line (l, r) (is_side f l p.0 hl dl, is_side s r p.1.0 hr dr) (is ∙ (λ i. hl i ∷ hr i ∷ []))
