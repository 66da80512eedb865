-- The limits of all variables, as one row more is set. Assumes nothing.
use Rattle.std.proofs.Common.{◌≡◌, ℕ, zero, suc, ◌+◌, ◌<◌, ◌≤◌, ◌≢◌, Bool, true, false, ◌||◌, cond, eqb, leb, List, [], ◌∷◌, ◌++◌, map, set, get_or, sym, refl, ap, ◌∙◌, arith, eq-eqb, subst, ⊎_elim, ◌⊎◌}
use Rattle.std.proofs.lemmas.Bool.{ne_eqb, leb-true, cases_eq}
use Rattle.length.specs.Limits.{InOrder, IsOutOfOrder}
use Rattle.writing.specs.Writer.{from, variables}
use Rattle.tables.specs.declared.types.Limit.{Limit}
use Rattle.tables.specs.Unlisted.{unlisted}
use Rattle.tables.specs.Written.{is_listed}
use Rattle.answers.specs.Limits.{leasts, limit_of, mosts}

at_from : {A : Type 0} (f : ℕ → A) (k n x : ℕ) (d : A) → x < n → get_or (map f (from k n)) x d ≡ f (k + x)
at_from f k zero x d lt = absurd (omega arith)
at_from f k (suc n) zero d lt = let e : k ≡ k + 0 = omega arith in ap f e
at_from f k (suc n) (suc x) d lt = (let e : suc k + x ≡ k + suc x = omega arith in at_from f (suc k) n x d (omega arith) ∙ ap f e)

-- what stands at a variable
pub at_variables : {A : Type 0} (f : ℕ → A) (x : ℕ) (d : A) → x < 26 → get_or (map f variables) x d ≡ f x
unfolding variables
at_variables f x d lt = let e : 0 + x ≡ x = omega arith in at_from f 0 26 x d lt ∙ ap f e

same_from : {A : Type 0} (f g : ℕ → A) (k n : ℕ) → ((y : ℕ) → k ≤ y → g y ≡ f y) → map f (from k n) ≡ map g (from k n)
same_from f g k zero h = refl
same_from f g k (suc n) h = λ i. sym (h k (omega arith)) i ∷ same_from f g (suc k) n (λ y le. h y (omega arith)) i

set_from : {A : Type 0} (f g : ℕ → A) (k n x : ℕ) (v : A) → x < n → g (k + x) ≡ v → ((y : ℕ) → y ≢ k + x → g y ≡ f y) → set (map f (from k n)) x v ≡ map g (from k n)
set_from f g k zero x v lt here other = absurd (omega arith)
set_from f g k (suc n) zero v lt here other =
    let first : k + 0 ≡ k = omega arith in
    λ i. (sym here ∙ ap g first) i ∷ same_from f g (suc k) n (λ y le. other y (λ e. omega arith)) i
set_from f g k (suc n) (suc x) v lt here other =
    let next : suc k + x ≡ k + suc x = omega arith in
    λ i. sym (other k (λ e. omega arith)) i ∷ set_from f g (suc k) n x v (omega arith) (ap g next ∙ here) (λ y ne. other y (λ e. ne (omega arith))) i

-- another value at one variable
pub set_variables : {A : Type 0} (f g : ℕ → A) (x : ℕ) (v : A) → x < 26 → g x ≡ v → ((y : ℕ) → y ≢ x → g y ≡ f y) → set (map f variables) x v ≡ map g variables
unfolding variables
set_variables f g x v lt here other =
    let first : 0 + x ≡ x = omega arith in
    set_from f g 0 26 x v lt (ap g first ∙ here) (λ y ne. other y (λ e. ne (omega arith)))

neither : (a b : Bool) → a || b ≡ false → (a ≡ false) × (b ≡ false)
neither true b e = absurd (cc)
neither false b e = (refl, e)

-- behind rows that do not list its variable
pub limit_same : (rows : List Limit) (l : Limit) → is_listed rows l.variable ≡ false → limit_of (rows ++ (l ∷ [])) l.variable ≡ l
limit_same [] l h = ap (λ b. cond b l (unlisted l.variable)) (eq-eqb l.variable l.variable refl)
limit_same (m ∷ rows) l h =
    let p = neither (eqb m.variable l.variable) (is_listed rows l.variable) h in
    ap (λ b. cond b m (limit_of (rows ++ (l ∷ [])) l.variable)) p.0 ∙ limit_same rows l p.1

pub limit_other : (rows : List Limit) (l : Limit) (x : ℕ) → x ≢ l.variable → limit_of (rows ++ (l ∷ [])) x ≡ limit_of rows x
limit_other [] l x ne = ap (λ b. cond b l (unlisted x)) (ne_eqb l.variable x (λ e. ne (sym e)))
limit_other (m ∷ rows) l x ne = ap (cond (eqb m.variable x) m) (limit_other rows l x ne)

or_true : (a : Bool) → a || true ≡ true
or_true true = refl
or_true false = refl

pub listed_same : (rows : List Limit) (l : Limit) → is_listed (rows ++ (l ∷ [])) l.variable ≡ true
listed_same [] l = ap (λ b. b || false) (eq-eqb l.variable l.variable refl)
listed_same (m ∷ rows) l = ap (λ b. eqb m.variable l.variable || b) (listed_same rows l) ∙ or_true (eqb m.variable l.variable)

pub listed_other : (rows : List Limit) (l : Limit) (x : ℕ) → x ≢ l.variable → is_listed (rows ++ (l ∷ [])) x ≡ is_listed rows x
listed_other [] l x ne = ap (λ b. b || false) (ne_eqb l.variable x (λ e. ne (sym e)))
listed_other (m ∷ rows) l x ne = ap (λ b. eqb m.variable x || b) (listed_other rows l x ne)

first : (a b : Bool) → cond a b false ≡ true → (a ≡ true) × (b ≡ true)
first true b e = (refl, e)
first false b e = absurd (cc)

-- every number of a list is at most m
abbrev pub all_at_most : ℕ → List ℕ → Bool
all_at_most m [] = true
all_at_most m (n ∷ ns) = cond (leb n m) (all_at_most m ns) false

pub at_most : (m : ℕ) (ns : List ℕ) (x : ℕ) → all_at_most m ns ≡ true → get_or ns x 0 ≤ m
at_most m [] x h = omega arith
at_most m (n ∷ ns) zero h = leb-true n m (first (leb n m) (all_at_most m ns) h).0
at_most m (n ∷ ns) (suc x) h = at_most m ns x (first (leb n m) (all_at_most m ns) h).1

-- whether a variable is listed, read from the flags
pub flag_is : (flags : List Bool) (rows : List Limit) (x y : ℕ) (b : Bool) → flags ≡ map (is_listed rows) variables → y ≡ x → x < 26 → get_or flags y false ≡ b → is_listed rows x ≡ b
flag_is flags rows x y b is same lt h = sym (at_variables (is_listed rows) x false lt) ∙ (λ i. get_or (sym is i) (sym same i) false) ∙ h

-- the numbers and the flags with one row more
pub least_set : (held : List ℕ) (rows : List Limit) (l : Limit) (y : ℕ) → held ≡ leasts rows → is_listed rows l.variable ≡ false → y ≡ l.variable → l.variable < 26 → set held y l.least ≡ leasts (rows ++ (l ∷ []))
least_set held rows l y is new same lt =
    (λ i. set (is i) (same i) l.least)
    ∙ set_variables (λ x. (limit_of rows x).least) (λ x. (limit_of (rows ++ (l ∷ [])) x).least) l.variable l.least lt (ap (λ m. m.least) (limit_same rows l new)) (λ x ne. ap (λ m. m.least) (limit_other rows l x ne))

pub most_set : (held : List ℕ) (rows : List Limit) (l : Limit) (y : ℕ) → held ≡ mosts rows → is_listed rows l.variable ≡ false → y ≡ l.variable → l.variable < 26 → set held y l.most ≡ mosts (rows ++ (l ∷ []))
most_set held rows l y is new same lt =
    (λ i. set (is i) (same i) l.most)
    ∙ set_variables (λ x. (limit_of rows x).most) (λ x. (limit_of (rows ++ (l ∷ [])) x).most) l.variable l.most lt (ap (λ m. m.most) (limit_same rows l new)) (λ x ne. ap (λ m. m.most) (limit_other rows l x ne))

pub flag_set : (flags : List Bool) (rows : List Limit) (l : Limit) (y : ℕ) → flags ≡ map (is_listed rows) variables → y ≡ l.variable → l.variable < 26 → set flags y true ≡ map (is_listed (rows ++ (l ∷ []))) variables
flag_set flags rows l y is same lt =
    (λ i. set (is i) (same i) true)
    ∙ set_variables (is_listed rows) (is_listed (rows ++ (l ∷ []))) l.variable true lt (listed_same rows l) (listed_other rows l)

-- limits in order, read from the numbers
pub order_of : (least most : List ℕ) (rows : List Limit) (x : ℕ) → least ≡ leasts rows → most ≡ mosts rows → x < 26 → InOrder (get_or least x 0) (get_or most x 0) → InOrder (limit_of rows x).least (limit_of rows x).most
order_of least most rows x l m lt h =
    subst (λ n. InOrder n (limit_of rows x).most) (ap (λ ns. get_or ns x 0) l ∙ at_variables (λ y. (limit_of rows y).least) x 0 lt)
    (subst (InOrder (get_or least x 0)) (ap (λ ns. get_or ns x 0) m ∙ at_variables (λ y. (limit_of rows y).most) x 0 lt) h)

disorder_of : (least most : List ℕ) (rows : List Limit) (x : ℕ) → least ≡ leasts rows → most ≡ mosts rows → x < 26 → IsOutOfOrder (get_or least x 0) (get_or most x 0) → IsOutOfOrder (limit_of rows x).least (limit_of rows x).most
disorder_of least most rows x l m lt h =
    subst (λ n. IsOutOfOrder n (limit_of rows x).most) (ap (λ ns. get_or ns x 0) l ∙ at_variables (λ y. (limit_of rows y).least) x 0 lt)
    (subst (IsOutOfOrder (get_or least x 0)) (ap (λ ns. get_or ns x 0) m ∙ at_variables (λ y. (limit_of rows y).most) x 0 lt) h)

not_both : (a b : ℕ) → InOrder a b → IsOutOfOrder a b → ⊥
not_both a b i o = ⊎_elim (λ (p : b < a). (let q : a ≤ b = i.0 in omega arith)) (λ (p : 1000000 < b). (let q : b ≤ 1000000 = i.1 in omega arith)) o

-- where one row more brings limits out of order, they are its own
pub disorder_own : (least most : List ℕ) (rows : List Limit) (l : Limit) (v : ℕ) → least ≡ leasts (rows ++ (l ∷ [])) → most ≡ mosts (rows ++ (l ∷ [])) → is_listed rows l.variable ≡ false → ((x : ℕ) → x < 26 → InOrder (limit_of rows x).least (limit_of rows x).most) → v < 26 → IsOutOfOrder (get_or least v 0) (get_or most v 0) → IsOutOfOrder l.least l.most
disorder_own least most rows l v hl hm new order lt out =
    let here = disorder_of least most (rows ++ (l ∷ [])) v hl hm lt out in
    ⊎_elim
    (λ (same : v ≡ l.variable). subst (λ m. IsOutOfOrder m.least m.most) (ap (limit_of (rows ++ (l ∷ []))) same ∙ limit_same rows l new) here)
    (λ (other : v ≡ l.variable → ⊥). absurd (not_both (limit_of rows v).least (limit_of rows v).most (order v lt) (subst (λ m. IsOutOfOrder m.least m.most) (limit_other rows l v other) here)))
    (cases_eq v l.variable)

pub order_own : (rows : List Limit) (l : Limit) → is_listed rows l.variable ≡ false → InOrder (limit_of (rows ++ (l ∷ [])) l.variable).least (limit_of (rows ++ (l ∷ [])) l.variable).most → InOrder l.least l.most
order_own rows l new h = subst (λ m. InOrder m.least m.most) (limit_same rows l new) h
