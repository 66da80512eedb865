-- Words at their two ends, sums, and rising numbers. Assumes nothing.
use Rattle.std.proofs.Common.{◌≡◌, ℕ, zero, suc, ◌+◌, ◌<◌, ◌≤◌, Bool, true, false, cond, ◌||◌, eqb, ◌≢◌, ◌⊎◌, List, [], ◌∷◌, ◌++◌, Some, None, sym, refl, ap, ◌∙◌, subst, ap₂, inl, inr, arith}
use Rattle.std.proofs.lemmas.Bool.{eqb-true, eq-eqb, ne_eqb, cases_Bool, cond-false, cond-true, or_left, or_right, true≢false, false≢true, cases_order, or_cases}
use Rattle.model.specs.Spelling.{Word}
use Rattle.systems.specs.Fitting.{EndsWith, BeginsWith}
use Rattle.systems.specs.Rows.{any}
use Rattle.systems.specs.Sides.{Words}
use Rattle.writing.specs.Writer.{rest, front, begins, ends, empty, put, total, from, first}

pub begins_true : (a : ℕ) (w : Word) → begins a w ≡ true → w ≡ a ∷ rest w
begins_true a [] e = absurd (false≢true e)
begins_true a (l ∷ w) e = ap (λ r. r ∷ w) (eqb-true l a e)

pub ends_true : (a : ℕ) (w : Word) → ends a w ≡ true → w ≡ front w ++ (a ∷ [])
ends_true a [] e = absurd (false≢true e)
ends_true a (l ∷ []) e = ap (λ r. r ∷ []) (eqb-true l a e)
ends_true a (l ∷ (m ∷ w)) e = ap (λ r. l ∷ r) (ends_true a (m ∷ w) e)

pub begins-++ : (a : ℕ) (u v : Word) → empty u ≡ false → begins a (u ++ v) ≡ begins a u
begins-++ a [] v e = absurd (true≢false e)
begins-++ a (l ∷ u) v e = refl

pub ends-++ : (a : ℕ) (u v : Word) → empty v ≡ false → ends a (u ++ v) ≡ ends a v
ends-++ a u [] e = absurd (true≢false e)
ends-++ a [] (m ∷ v) e = refl
ends-++ a (l ∷ []) (m ∷ v) e = refl
ends-++ a (l ∷ (k ∷ u)) (m ∷ v) e = ends-++ a (k ∷ u) (m ∷ v) e

pub is_begun : (a : ℕ) (w : Word) → BeginsWith a w → begins a w ≡ true
is_begun a w h = ap (begins a) h.1 ∙ eq-eqb a a refl

pub is_ended : (a : ℕ) (w : Word) → EndsWith a w → ends a w ≡ true
is_ended a w h = ap (ends a) h.1 ∙ ends-++ a h.0 (a ∷ []) refl ∙ eq-eqb a a refl

pub begins_front : (a : ℕ) (w : Word) → begins a w ≡ false → begins a (front w) ≡ false
begins_front a [] e = refl
begins_front a (l ∷ []) e = refl
begins_front a (l ∷ (m ∷ w)) e = e

pub is_empty : (w : Word) → empty w ≡ true → w ≡ []
is_empty [] e = refl
is_empty (l ∷ w) e = absurd (false≢true e)

pub put_here : (τ : Words) (x : ℕ) (w : Word) → put τ x w x ≡ w
put_here τ x w = cond-true (eqb x x) w (τ x) (eq-eqb x x refl)

pub put_there : (τ : Words) (x : ℕ) (w : Word) (y : ℕ) → y ≢ x → put τ x w y ≡ τ y
put_there τ x w y d = cond-false (eqb x y) w (τ y) (ne_eqb x y (λ e. d (sym e)))

-- sums

pub total_le : {A : Type 0} (f g : A → ℕ) → ((x : A) → f x ≤ g x) → (xs : List A) → total f xs ≤ total g xs
total_le f g le [] = omega arith
total_le f g le (x ∷ xs) = omega (arith, le x, total_le f g le xs)

pub total_same : {A : Type 0} (f g : A → ℕ) → ((x : A) → f x ≡ g x) → (xs : List A) → total f xs ≡ total g xs
total_same f g same [] = refl
total_same f g same (x ∷ xs) = ap₂ (λ m n. m + n) (same x) (total_same f g same xs)

pub total_lt : (f g : ℕ → ℕ) → ((x : ℕ) → f x ≤ g x) → (y : ℕ) → f y < g y → (xs : List ℕ) → any (eqb y) xs ≡ true → total f xs < total g xs
total_lt f g le y lt [] e = absurd (false≢true e)
total_lt f g le y lt (x ∷ xs) e = split (λ there. total_lt f g le y lt xs there) (cases_Bool (eqb y x)) (cases_Bool (any (eqb y) xs))
  where
    split : (any (eqb y) xs ≡ true → total f xs < total g xs) → (eqb y x ≡ true) ⊎ (eqb y x ≡ false) → (any (eqb y) xs ≡ true) ⊎ (any (eqb y) xs ≡ false) → f x + total f xs < g x + total g xs
    split more (inl here) _ =
        let at : f x < g x = subst (λ z. f z < g z) (eqb-true y x here) lt in
        omega (arith, at, total_le f g le xs)
    split more (inr not_here) (inl there) = omega (arith, le x, more there)
    split more (inr not_here) (inr none) = let z : false ≡ true = sym (ap₂ (λ s t. s || t) not_here none) ∙ e in absurd (false≢true z)

-- rising numbers

pub from_has : (x n k : ℕ) → k ≤ x → x < k + n → any (eqb x) (from k n) ≡ true
from_has x zero k le lt = absurd (omega arith)
from_has x (suc n) k le lt = split (λ l. from_has x n (suc k) l (omega arith)) (cases_order k x)
  where
    split : (suc k ≤ x → any (eqb x) (from (suc k) n) ≡ true) → (k ≡ x) ⊎ ((k < x) ⊎ (x < k)) → any (eqb x) (from k (suc n)) ≡ true
    split more (inl e) = or_left (eqb x k) (any (eqb x) (from (suc k) n)) (eq-eqb x k (sym e))
    split more (inr (inl l)) = or_right (eqb x k) (any (eqb x) (from (suc k) n)) (more l)
    split more (inr (inr g)) = absurd (omega arith)

-- the first that passes

pub first_none : (p : ℕ → Bool) (xs : List ℕ) → first p xs ≡ None → (x : ℕ) → any (eqb x) xs ≡ true → p x ≡ false
first_none p [] e x in_xs = absurd (false≢true in_xs)
first_none p (y ∷ xs) e x in_xs = go (λ f. first_none p xs f x) (p y) refl e (or_cases (eqb x y) (any (eqb x) xs) in_xs)
  where
    go : (first p xs ≡ None → any (eqb x) xs ≡ true → p x ≡ false) → (t : Bool) → p y ≡ t → cond t (Some y) (first p xs) ≡ None → (eqb x y ≡ true) ⊎ (any (eqb x) xs ≡ true) → p x ≡ false
    go more true is f where_x = let z : ◌≡◌ {A = ℕ} 0 1 = cc in absurd (omega arith)
    go more false is f (inl here) = ap p (eqb-true x y here) ∙ is
    go more false is f (inr there) = more f there

pub first_some : (p : ℕ → Bool) (xs : List ℕ) (x : ℕ) → first p xs ≡ Some x → p x ≡ true
first_some p [] x e = let z : ◌≡◌ {A = ℕ} 0 1 = cc in absurd (omega arith)
first_some p (y ∷ xs) x e = go (λ f. first_some p xs x f) (p y) refl e
  where
    go : (first p xs ≡ Some x → p x ≡ true) → (t : Bool) → p y ≡ t → cond t (Some y) (first p xs) ≡ Some x → p x ≡ true
    go more true is f = let same : y ≡ x = cc in subst (λ z. p z ≡ true) same is
    go more false is f = more f
