-- Rows are known from their lines, and a line is a row or none, for one reason. Assumes nothing.
use Rattle.std.proofs.Common.{◌≡◌, ℕ, ◌+◌, ◌<◌, ◌≤◌, true, List, [], ◌∷◌, ◌++◌, length, codes, decimal, get_or, sym, refl, ap, ◌∙◌, ⊎_elim, inl, inr, append_assoc, arith, lit<, lit≤, ◌≢◌, ◌⊎◌}
use Rattle.std.specs.List.{AllByRecursion}
use Rattle.std.proofs.lemmas.Fmt.{decimal_injective}
use Rattle.systems.specs.declared.Choice.{Choice}
use Rattle.systems.specs.declared.Choice.TheVariants.{Left, Right, Erase, Pair, Block}
use Rattle.systems.specs.Runs.{Load}
use Rattle.text.specs.Names.{letter_name, variable_name}
use Rattle.text.specs.Pieces.{Bytes, free}
use Rattle.text.proofs.Cuts.{free_cons}
use Rattle.text.proofs.Names.{free_decimal, free_letter, same_letter}
use Rattle.tables.specs.declared.types.Limit.{Limit}
use Rattle.tables.specs.declared.types.LineRefusal.{LineRefusal}
use Rattle.tables.specs.declared.types.LineRefusal.TheVariants.{Names, FieldCount, Unreadable, ListedTwice}
use Rattle.tables.specs.Fields.{fields_of, line_of}
use Rattle.tables.specs.Reading.{IsRow, IsUnreadable, NoRow}
use Rattle.tables.specs.Rows.{equation_fields, limit_fields, choice_fields, side_text, IsSide, IsEquation, IsLimit, IsChoice}
use Rattle.tables.proofs.Cutting.{fields_line}

-- rows of so many fields, two at least, that are read back from their line
pub record Known {R : Type 0} (width : ℕ) (good : R → Type 0) (fields : R → List Bytes) : Type 0 where
  pub wide : 2 ≤ width
  pub read : (r : R) → good r → fields_of (line_of (fields r)) ≡ fields r
  pub count : (r : R) → good r → length (fields r) ≡ width
  pub same : (r q : R) → good r → good q → fields r ≡ fields q → r ≡ q

-- a row is known from its line, which is not empty
pub same_row : {R : Type 0} (width : ℕ) (good : R → Type 0) (fields : R → List Bytes) → Known width good fields → (r q : R) → good r → good q → line_of (fields r) ≡ line_of (fields q) → r ≡ q
same_row width good fields k r q g h e = k.same r q g h (sym (k.read r g) ∙ ap fields_of e ∙ k.read q h)

pub row_some : {R : Type 0} (width : ℕ) (good : R → Type 0) (fields : R → List Bytes) → Known width good fields → (r : R) → good r → line_of (fields r) ≢ []
row_some width good fields k r g e =
    let one : 1 ≡ length (fields r) = ap (λ l. length (fields_of l)) (sym e) ∙ ap length (k.read r g) in
    let wide : 2 ≤ width = k.wide in
    omega (arith, k.count r g)

-- a line that is a row is not none
pub row_not : {R : Type 0} (width : ℕ) (good : R → Type 0) (fields : R → List Bytes) → Known width good fields → (line : Bytes) (r : R) (why : LineRefusal) → IsRow good fields line r → NoRow width good fields line why → ⊥
row_not width good fields k line r (Names table) is none = none
row_not width good fields k line r (FieldCount wanted) is none = none.1 (ap (λ l. length (fields_of l)) is.1 ∙ ap length (k.read r is.0) ∙ k.count r is.0)
row_not width good fields k line r (Unreadable place) is none = none.1.no_row r is.0 none.1.behind (sym (k.read r is.0) ∙ ap fields_of (sym is.1) ∙ none.1.split)
row_not width good fields k line r (ListedTwice x) is none = none

-- two places in one list: one is the other, or behind it
abbrev Behind : List Bytes → Bytes → List Bytes → Type 0
Behind p x q = (more : List Bytes) × (q ≡ p ++ (x ∷ more))

two_places : (p q : List Bytes) (x y : Bytes) (r s : List Bytes) → p ++ (x ∷ r) ≡ q ++ (y ∷ s) → (p ≡ q) ⊎ (Behind p x q ⊎ Behind q y p)
two_places [] [] x y r s e = inl refl
two_places [] (b ∷ q) x y r s e = inr (inl (q, (cc)))
two_places (a ∷ p) [] x y r s e = inr (inr (p, (cc)))
two_places (a ∷ p) (b ∷ q) x y r s e =
    let head : a ≡ b = cc in
    let rest : p ++ (x ∷ r) ≡ q ++ (y ∷ s) = cc in
    ⊎_elim
    (λ (same : p ≡ q). inl (λ i. head i ∷ same i))
    (λ (other : Behind p x q ⊎ Behind q y p).
    ⊎_elim
    (λ (on : Behind p x q). inr (inl (on.0, λ i. sym head i ∷ on.1 i)))
    (λ (back : Behind q y p). inr (inr (back.0, λ i. head i ∷ back.1 i)))
    other)
    (two_places p q x y r s rest)

-- a row that has the fields up to one behind the first that no row has
not_behind : {R : Type 0} (good : R → Type 0) (fields : R → List Bytes) (line : Bytes) (m n : ℕ) (u : IsUnreadable good fields line m) (v : IsUnreadable good fields line n) → Behind u.before u.field v.before → ⊥
not_behind good fields line m n u v on =
    u.no_row v.some_row.0 v.some_row.1 (on.0 ++ v.some_row.2.0)
    (v.some_row.2.1 ∙ ap (λ l. l ++ v.some_row.2.0) on.1 ∙ append_assoc u.before (u.field ∷ on.0) v.some_row.2.0)

one_place : {R : Type 0} (good : R → Type 0) (fields : R → List Bytes) (line : Bytes) (m n : ℕ) → IsUnreadable good fields line m → IsUnreadable good fields line n → m ≡ n
one_place good fields line m n u v =
    ⊎_elim
    (λ (same : u.before ≡ v.before). u.at ∙ ap (λ l. length (line_of (l ++ ([] ∷ [])))) same ∙ sym v.at)
    (λ (other : Behind u.before u.field v.before ⊎ Behind v.before v.field u.before).
    absurd (⊎_elim (not_behind good fields line m n u v) (not_behind good fields line n m v u) other))
    (two_places u.before v.before u.field v.field u.behind v.behind (sym u.split ∙ v.split))

-- a line is no row for one reason
pub one_reason : {R : Type 0} (width : ℕ) (good : R → Type 0) (fields : R → List Bytes) (line : Bytes) (w v : LineRefusal) → NoRow width good fields line w → NoRow width good fields line v → w ≡ v
one_reason width good fields line (FieldCount m) (FieldCount n) h k = ap FieldCount (h.0 ∙ sym k.0)
one_reason width good fields line (Unreadable m) (Unreadable n) h k = ap Unreadable (one_place good fields line m n h.1 k.1)
one_reason width good fields line (FieldCount m) (Unreadable n) h k = absurd (h.1 k.0)
one_reason width good fields line (Unreadable m) (FieldCount n) h k = absurd (k.1 h.0)
one_reason width good fields line (Names t) v h k = absurd h
one_reason width good fields line (ListedTwice x) v h k = absurd h
one_reason width good fields line (FieldCount m) (Names t) h k = absurd k
one_reason width good fields line (FieldCount m) (ListedTwice x) h k = absurd k
one_reason width good fields line (Unreadable m) (Names t) h k = absurd k
one_reason width good fields line (Unreadable m) (ListedTwice x) h k = absurd k

-- fields that lack the byte b
abbrev pub Lack : ℕ → List Bytes → Type 0
Lack b = AllByRecursion (λ field. free b field ≡ true)

-- equations
side_free : (side : Bytes) → IsSide side → free 32 (side_text side) ≡ true
side_free [] g = refl
side_free (b ∷ side) g = g.no_space

same_side : (s t : Bytes) → IsSide s → IsSide t → side_text s ≡ side_text t → s ≡ t
same_side [] [] g h e = refl
same_side [] (b ∷ t) g h e = absurd (h.no_dash (sym e))
same_side (a ∷ s) [] g h e = absurd (g.no_dash e)
same_side (a ∷ s) (b ∷ t) g h e = e

same_equation : (e f : Load) → IsEquation e → IsEquation f → equation_fields e ≡ equation_fields f → e ≡ f
same_equation e f g h is =
    let left = same_side e.0 f.0 g.0 h.0 (ap (λ l. get_or l 0 []) is) in
    let right = same_side e.1 f.1 g.1 h.1 (ap (λ l. get_or l 1 []) is) in
    λ i. (left i, right i)

pub equations_known : Known 2 IsEquation equation_fields
equations_known = record {
  wide = lit≤ tt;
  read = λ e g. fields_line (side_text e.0) (side_text e.1 ∷ []) (side_free e.0 g.0, (side_free e.1 g.1, tt));
  count = λ e g. refl;
  same = same_equation;
}

-- limits
variable_free : (b x : ℕ) → b < 35 → free b (variable_name x) ≡ true
variable_free b x low = free_cons b (65 + x) [] (λ e. omega arith) refl

pub limit_lacks : (b : ℕ) → b < 35 → (l : Limit) → IsLimit l → Lack b (limit_fields l)
limit_lacks b low l g = (variable_free b l.variable low, (free_decimal b l.least (omega arith) (omega arith), (free_decimal b l.most (omega arith) (omega arith), tt)))

same_variable : (x y : ℕ) → variable_name x ≡ variable_name y → x ≡ y
same_variable x y e = let heads : 65 + x ≡ 65 + y = ap (λ l. get_or l 0 0) e in omega arith

same_limit : (l m : Limit) → IsLimit l → IsLimit m → limit_fields l ≡ limit_fields m → l ≡ m
same_limit l m g h e =
    let variables = same_variable l.variable m.variable (ap (λ f. get_or f 0 []) e) in
    let leasts = decimal_injective l.least m.least (omega arith) (omega arith) (ap (λ f. get_or f 1 []) e) in
    let mosts = decimal_injective l.most m.most (omega arith) (omega arith) (ap (λ f. get_or f 2 []) e) in
    λ i. record { variable = variables i; least = leasts i; most = mosts i }

pub limits_known : Known 3 IsLimit limit_fields
limits_known = record {
  wide = lit≤ tt;
  read = λ l g. fields_line (variable_name l.variable) (decimal l.least ∷ decimal l.most ∷ []) (limit_lacks 32 (lit< tt) l g);
  count = λ l g. refl;
  same = same_limit;
}

-- choices
module _ (b : ℕ) (low : b < 35) where
  letter_free : (a : ℕ) → a < 538 → free b (letter_name a) ≡ true
  letter_free a h = free_letter b a (omega arith) (λ e. omega arith) (omega arith)

  bytes_free : (bytes : Bytes) → AllByRecursion (λ c. 35 < c) bytes → free b bytes ≡ true
  bytes_free [] h = refl
  bytes_free (c ∷ bytes) h = let high : 35 < c = h.0 in free_cons b c bytes (λ e. omega arith) (bytes_free bytes h.1)

  pub choice_lacks : (c : Choice) → IsChoice c → Lack b (choice_fields c)
  choice_lacks (Left x a) g = (bytes_free (codes "left") (search lit<), (variable_free b x low, (letter_free a g.1, tt)))
  choice_lacks (Right x a) g = (bytes_free (codes "right") (search lit<), (variable_free b x low, (letter_free a g.1, tt)))
  choice_lacks (Erase x) g = (bytes_free (codes "erase") (search lit<), (variable_free b x low, (bytes_free (codes "-") (search lit<), tt)))
  choice_lacks (Pair a c) g = (bytes_free (codes "pair") (search lit<), (letter_free a g.0, (letter_free c g.1, tt)))
  choice_lacks (Block a n) g = (bytes_free (codes "block") (search lit<), (letter_free a g.0, (free_decimal b n (omega arith) (omega arith), tt)))

choice_read : (c : Choice) → IsChoice c → fields_of (line_of (choice_fields c)) ≡ choice_fields c
choice_read (Left x a) g = fields_line (codes "left") (variable_name x ∷ letter_name a ∷ []) (choice_lacks 32 (lit< tt) (Left x a) g)
choice_read (Right x a) g = fields_line (codes "right") (variable_name x ∷ letter_name a ∷ []) (choice_lacks 32 (lit< tt) (Right x a) g)
choice_read (Erase x) g = fields_line (codes "erase") (variable_name x ∷ codes "-" ∷ []) (choice_lacks 32 (lit< tt) (Erase x) g)
choice_read (Pair a b) g = fields_line (codes "pair") (letter_name a ∷ letter_name b ∷ []) (choice_lacks 32 (lit< tt) (Pair a b) g)
choice_read (Block a n) g = fields_line (codes "block") (letter_name a ∷ decimal n ∷ []) (choice_lacks 32 (lit< tt) (Block a n) g)

choice_count : (c : Choice) → length (choice_fields c) ≡ 3
choice_count (Left x a) = refl
choice_count (Right x a) = refl
choice_count (Erase x) = refl
choice_count (Pair a b) = refl
choice_count (Block a n) = refl

-- letters that may be made are known from their names
letters : (a b : ℕ) → a < 538 → b < 538 → letter_name a ≡ letter_name b → a ≡ b
letters a b g h e = same_letter a b (omega arith) (omega arith) e

same_choice : (c d : Choice) → IsChoice c → IsChoice d → choice_fields c ≡ choice_fields d → c ≡ d
same_choice (Left x a) (Left y b) g h e =
    let first = same_variable x y (ap (λ f. get_or f 1 []) e) in
    let second = letters a b g.1 h.1 (ap (λ f. get_or f 2 []) e) in
    λ i. Left (first i) (second i)
same_choice (Right x a) (Right y b) g h e =
    let first = same_variable x y (ap (λ f. get_or f 1 []) e) in
    let second = letters a b g.1 h.1 (ap (λ f. get_or f 2 []) e) in
    λ i. Right (first i) (second i)
same_choice (Erase x) (Erase y) g h e = ap Erase (same_variable x y (ap (λ f. get_or f 1 []) e))
same_choice (Pair a b) (Pair c d) g h e =
    let first = letters a c g.0 h.0 (ap (λ f. get_or f 1 []) e) in
    let second = letters b d g.1 h.1 (ap (λ f. get_or f 2 []) e) in
    λ i. Pair (first i) (second i)
same_choice (Block a n) (Block b m) g h e =
    let first = letters a b g.0 h.0 (ap (λ f. get_or f 1 []) e) in
    let second = decimal_injective n m (omega arith) (omega arith) (ap (λ f. get_or f 2 []) e) in
    λ i. Block (first i) (second i)
same_choice c d g h e = absurd (let heads : get_or (get_or (choice_fields c) 0 []) 0 0 ≡ get_or (get_or (choice_fields d) 0 []) 0 0 = ap (λ f. get_or (get_or f 0 []) 0 0) e in omega arith)

pub choices_known : Known 3 IsChoice choice_fields
choices_known = record { wide = lit≤ tt; read = choice_read; count = λ c g. choice_count c; same = same_choice }
