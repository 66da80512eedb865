-- Which variables stand in the sides, and what each choice does to them. Assumes nothing.
use Rattle.std.proofs.Common.{◌≡◌, ℕ, suc, Bool, true, false, ◌&&◌, ◌||◌, eqb, List, [], ◌∷◌, ◌++◌, map, sym, refl, ap, ◌∙◌, subst, ap₂, ⊎_elim}
use Rattle.std.specs.List.{flat_map, AllByRecursion}
use Rattle.std.proofs.ByRecursion.{All-weaker}
use Rattle.std.proofs.lemmas.Bool.{true≢false, eqb-true, eq-eqb, and_parts, cases_Bool, or_left, or_right, cond_both}
use Rattle.systems.specs.declared.Place.{Place}
use Rattle.systems.specs.declared.Place.TheVariants.{Letter, Variable}
use Rattle.systems.specs.declared.Choice.{Choice}
use Rattle.systems.specs.declared.Choice.TheVariants.{Left, Right, Erase, Pair, Block}
use Rattle.systems.specs.Choices.{swapped, swap, effect, taken}
use Rattle.systems.specs.Rows.{any, replace_pairs, row, replace_blocks}
use Rattle.systems.specs.Sides.{Side, Equation, sides, on_sides, is_letter, is_variable, stands_in, Words, filled, fill}
use Rattle.systems.specs.Standings.{Standing, fresh, live}
use Rattle.systems.proofs.Rows.{joined_same, all_joined, all_each, any_none, none_any, all_row}

-- each side in turn

pub sides_on : (f : Side → Side) (E : List Equation) → map f (sides E) ≡ sides (on_sides f E)
sides_on f [] = refl
sides_on f (e ∷ E) = ap (λ ss. f e.0 ∷ (f e.1 ∷ ss)) (sides_on f E)

both : (l m r s : Side) → l ≡ m → r ≡ s → ◌≡◌ {A = Equation} (l, r) (m, s)
both l m r s e f = ap₂ (λ (u v : Side). (u, v)) e f

pub on_sides_on : (f g h : Side → Side) → ((s : Side) → f (g s) ≡ h s) → (E : List Equation) → on_sides f (on_sides g E) ≡ on_sides h E
on_sides_on f g h same [] = refl
on_sides_on f g h same (e ∷ E) = ap₂ (λ u v. u ∷ v) (both (f (g e.0)) (h e.0) (f (g e.1)) (h e.1) (same e.0) (same e.1)) (on_sides_on f g h same E)

pub on_sides_same : (f g : Side → Side) (E : List Equation) → AllByRecursion (λ s. f s ≡ g s) (sides E) → on_sides f E ≡ on_sides g E
on_sides_same f g [] h = refl
on_sides_same f g (e ∷ E) h = ap₂ (λ u v. u ∷ v) (both (f e.0) (g e.0) (f e.1) (g e.1) h.0 h.1.0) (on_sides_same f g E h.1.1)

pub on_sides_self : (f : Side → Side) → ((s : Side) → f s ≡ s) → (E : List Equation) → on_sides f E ≡ E
on_sides_self f same [] = refl
on_sides_self f same (e ∷ E) = ap₂ (λ u v. u ∷ v) (both (f e.0) e.0 (f e.1) e.1 (same e.0) (same e.1)) (on_sides_self f same E)

pub all_sides : (P Q : Side → Type 0) (f : Side → Side) → ((s : Side) → P s → Q (f s)) → (E : List Equation) → AllByRecursion P (sides E) → AllByRecursion Q (sides (on_sides f E))
all_sides P Q f step [] h = tt
all_sides P Q f step (e ∷ E) h = (step e.0 h.0, (step e.1 h.1.0, all_sides P Q f step E h.1.1))

pub map_sides : {A : Type 0} (G H : Side → A) (f : Side → Side) (E : List Equation) → AllByRecursion (λ s. G (f s) ≡ H s) (sides E) → map G (sides (on_sides f E)) ≡ map H (sides E)
map_sides G H f [] h = refl
map_sides G H f (e ∷ E) h = ap₂ (λ u v. u ∷ v) h.0 (ap₂ (λ u v. u ∷ v) h.1.0 (map_sides G H f E h.1.1))

-- an element that passes a test makes `any` true
any_of : {A : Type 0} (xs : List A) → AllByRecursion (λ y. (p : A → Bool) → p y ≡ true → any p xs ≡ true) xs
any_of [] = tt
any_of {A} (x ∷ xs) = (
  λ p e. or_left (p x) (any p xs) e,
  All-weaker (λ y. (p : A → Bool) → p y ≡ true → any p xs ≡ true) (λ y. (p : A → Bool) → p y ≡ true → (p x || any p xs) ≡ true) (λ y h p e. or_right (p x) (any p xs) (h p e)) xs (any_of xs),
)

-- each variable in a side stands in the sides
pub each_stands : (E : List Equation) → AllByRecursion (AllByRecursion (λ p. (x : ℕ) → is_variable x p ≡ true → stands_in E x ≡ true)) (sides E)
each_stands E =
    All-weaker (λ s. (q : Side → Bool) → q s ≡ true → any q (sides E) ≡ true) (AllByRecursion (λ p. (x : ℕ) → is_variable x p ≡ true → stands_in E x ≡ true))
    (λ s h. All-weaker (λ p. (q : Place → Bool) → q p ≡ true → any q s ≡ true) (λ p. (x : ℕ) → is_variable x p ≡ true → stands_in E x ≡ true) (λ p k x e. h (any (is_variable x)) (k (is_variable x) e)) s (any_of s))
    (sides E) (any_of (sides E))

-- words that agree where a variable stands fill the sides alike
pub fill_same : (τ τ' : Words) (E : List Equation) → ((x : ℕ) → stands_in E x ≡ true → τ x ≡ τ' x) → AllByRecursion (λ s. fill τ s ≡ fill τ' s) (sides E)
fill_same τ τ' E same =
    All-weaker (AllByRecursion (λ p. (x : ℕ) → is_variable x p ≡ true → stands_in E x ≡ true)) (λ s. fill τ s ≡ fill τ' s)
    (λ s h. joined_same (filled τ) (filled τ') s (All-weaker (λ p. (x : ℕ) → is_variable x p ≡ true → stands_in E x ≡ true) (λ p. filled τ p ≡ filled τ' p) at s h))
    (sides E) (each_stands E)
  where
    at : (p : Place) → ((x : ℕ) → is_variable x p ≡ true → stands_in E x ≡ true) → filled τ p ≡ filled τ' p
    at (Letter a) h = refl
    at (Variable x) h = same x (h x (eq-eqb x x refl))

-- what a choice keeps

or_none : (b : Bool) → (b || false) ≡ b
or_none true = refl
or_none false = refl

any-++ : {A : Type 0} (p : A → Bool) (xs ys : List A) → any p (xs ++ ys) ≡ (any p xs || any p ys)
any-++ p [] ys = refl
any-++ p (x ∷ xs) ys = ap (λ t. p x || t) (any-++ p xs ys) ∙ regroup (p x)
  where
    regroup : (b : Bool) → (b || (any p xs || any p ys)) ≡ ((b || any p xs) || any p ys)
    regroup true = refl
    regroup false = refl

any_joined : {A B : Type 0} (p : B → Bool) (q : A → Bool) (f : A → List B) → ((x : A) → any p (f x) ≡ q x) → (xs : List A) → any p (flat_map f xs) ≡ any q xs
any_joined p q f same [] = refl
any_joined p q f same (x ∷ xs) = any-++ p (f x) (flat_map f xs) ∙ ap₂ (λ s t. s || t) (same x) (any_joined p q f same xs)

any_pairs : {A : Type 0} (p q r : A → Bool) (c : A) → r c ≡ false → ((x : A) → p x ≡ true → r x ≡ false) → ((x : A) → q x ≡ true → r x ≡ false) → (xs : List A) → any r (replace_pairs p q c xs) ≡ any r xs
any_pairs p q r c at_c at_p at_q [] = refl
any_pairs p q r c at_c at_p at_q (x ∷ []) = refl
any_pairs p q r c at_c at_p at_q (x ∷ (y ∷ rest)) =
    cond_both (p x && q y) (c ∷ replace_pairs p q c rest) (x ∷ replace_pairs p q c (y ∷ rest)) (λ w. any r w ≡ (r x || (r y || any r rest)))
    (λ e. let parts = and_parts (p x) (q y) e in
    ap₂ (λ s t. s || t) at_c (any_pairs p q r c at_c at_p at_q rest) ∙ sym (ap₂ (λ s t. s || (t || any r rest)) (at_p x parts.0) (at_q y parts.1)))
    (λ _. ap (λ t. r x || t) (any_pairs p q r c at_c at_p at_q (y ∷ rest)))

any_blocks : {A : Type 0} (is_a r : A → Bool) (a : A) (n : ℕ) (c : A) → r a ≡ false → r c ≡ false → ((x : A) → is_a x ≡ true → r x ≡ false) → (xs : List A) (k : ℕ) → any r (replace_blocks is_a a n c k xs) ≡ any r xs
any_blocks is_a r a n c at_a at_c means [] k = none_any r (row a n c k) (all_row is_a a n c (λ x. r x ≡ false) at_a at_c k)
any_blocks is_a r a n c at_a at_c means (x ∷ xs) k =
    cond_both (is_a x) (replace_blocks is_a a n c (suc k) xs) (row a n c k ++ (x ∷ replace_blocks is_a a n c 0 xs)) (λ w. any r w ≡ (r x || any r xs))
    (λ e. any_blocks is_a r a n c at_a at_c means xs (suc k) ∙ sym (ap (λ t. t || any r xs) (means x e)))
    (λ _. any-++ r (row a n c k) (x ∷ replace_blocks is_a a n c 0 xs) ∙ ap₂ (λ s t. s || (r x || t)) (none_any r (row a n c k) (all_row is_a a n c (λ y. r y ≡ false) at_a at_c k)) (any_blocks is_a r a n c at_a at_c means xs 0))

any_swap : (x y : ℕ) (v : Side) → any (is_variable x) v ≡ eqb x y → (s : Side) → any (is_variable x) (swap y v s) ≡ any (is_variable x) s
any_swap x y v new s = any_joined (is_variable x) (is_variable x) (swapped y v) at s
  where
    at : (p : Place) → any (is_variable x) (swapped y v p) ≡ is_variable x p
    at (Letter a) = refl
    at (Variable z) = cond_both (eqb y z) v (Variable z ∷ []) (λ w. any (is_variable x) w ≡ eqb x z) (λ e. new ∙ ap (eqb x) (eqb-true y z e)) (λ _. or_none (eqb x z))

letter_no_variable : (a x : ℕ) (p : Place) → is_letter a p ≡ true → is_variable x p ≡ false
letter_no_variable a x (Letter l) e = refl
letter_no_variable a x (Variable y) e = absurd (true≢false (sym e))

abbrev pub erases : ℕ → Choice → Bool
erases x (Left y a) = false
erases x (Right y a) = false
erases x (Erase y) = eqb x y
erases x (Pair a b) = false
erases x (Block a n) = false

any_effect : (x : ℕ) (choice : Choice) (c : ℕ) → erases x choice ≡ false → (s : Side) → any (is_variable x) (effect choice c s) ≡ any (is_variable x) s
any_effect x (Left y a) c other s = any_swap x y (Letter a ∷ Variable y ∷ []) (or_none (eqb x y)) s
any_effect x (Right y a) c other s = any_swap x y (Variable y ∷ Letter a ∷ []) (or_none (eqb x y)) s
any_effect x (Erase y) c other s = any_swap x y [] (sym other) s
any_effect x (Pair a b) c other s = any_pairs (is_letter a) (is_letter b) (is_variable x) (Letter c) refl (letter_no_variable a x) (letter_no_variable b x) s
any_effect x (Block a n) c other s = any_blocks (is_letter a) (is_variable x) (Letter a) n (Letter c) refl refl (letter_no_variable a x) s 0

any_sides : (q : Side → Bool) (f : Side → Side) → ((s : Side) → q (f s) ≡ q s) → (E : List Equation) → any q (sides (on_sides f E)) ≡ any q (sides E)
any_sides q f same [] = refl
any_sides q f same (e ∷ E) = ap₂ (λ s t. s || t) (same e.0) (ap₂ (λ s t. s || t) (same e.1) (any_sides q f same E))

-- a variable that is not erased lives on
pub live_taken : (S : Standing) (choice : Choice) (x : ℕ) → erases x choice ≡ false → live (taken S choice) x ≡ live S x
live_taken S choice x other = any_sides (any (is_variable x)) (effect choice (fresh S)) (any_effect x choice (fresh S) other) S.equations

-- a variable that is gone

abbrev pub Gone : ℕ → Side → Type 0
Gone x side = AllByRecursion (λ p. is_variable x p ≡ false) side

pub gone_everywhere : (S : Standing) (x : ℕ) → live S x ≡ false → AllByRecursion (Gone x) (sides S.equations)
gone_everywhere S x e = All-weaker (λ s. any (is_variable x) s ≡ false) (Gone x) (any_none (is_variable x)) (sides S.equations) (any_none (any (is_variable x)) (sides S.equations) e)

gone_live : (S : Standing) (x : ℕ) → AllByRecursion (Gone x) (sides S.equations) → live S x ≡ false
gone_live S x h = none_any (any (is_variable x)) (sides S.equations) (All-weaker (Gone x) (λ s. any (is_variable x) s ≡ false) (none_any (is_variable x)) (sides S.equations) h)

-- one that is erased is gone
pub erased_gone : (S : Standing) (x : ℕ) → live (taken S (Erase x)) x ≡ false
erased_gone S x =
    gone_live (taken S (Erase x)) x
    (all_sides (λ _. Unit {0}) (Gone x) (swap x []) (λ s _. all_joined (λ _. Unit {0}) (λ p. is_variable x p ≡ false) (swapped x []) at s (all_each (λ _. Unit {0}) (λ _. tt) s)) S.equations (all_each (λ _. Unit {0}) (λ _. tt) (sides S.equations)))
  where
    at : (p : Place) → Unit {0} → Gone x (swapped x [] p)
    at (Letter a) h = (refl, tt)
    at (Variable z) h = cond_both (eqb x z) [] (Variable z ∷ []) (Gone x) (λ _. tt) (λ e. (e, tt))

-- and one that is gone stays gone
pub gone_taken : (S : Standing) (choice : Choice) (x : ℕ) → live S x ≡ false → live (taken S choice) x ≡ false
gone_taken S (Left y a) x gone = live_taken S (Left y a) x refl ∙ gone
gone_taken S (Right y a) x gone = live_taken S (Right y a) x refl ∙ gone
gone_taken S (Erase y) x gone =
    ⊎_elim
    (λ (here : eqb x y ≡ true). subst (λ z. live (taken S (Erase z)) x ≡ false) (eqb-true x y here) (erased_gone S x))
    (λ (other : eqb x y ≡ false). live_taken S (Erase y) x other ∙ gone)
    (cases_Bool (eqb x y))
gone_taken S (Pair a b) x gone = live_taken S (Pair a b) x refl ∙ gone
gone_taken S (Block a n) x gone = live_taken S (Block a n) x refl ∙ gone
