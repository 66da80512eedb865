-- The words of the live variables stand in the filled-in sides, so they have no more letters; and places are letters or variables. Assumes nothing.
use Rattle.std.proofs.Common.{◌≡◌, ℕ, zero, suc, ◌+◌, ◌<◌, ◌≤◌, Bool, true, false, cond, ◌&&◌, ◌||◌, eqb, List, [], ◌∷◌, ◌++◌, map, length, replicate, sym, refl, ap, subst, arith, length-append}
use Rattle.std.proofs.lemmas.Bool.{cond_both, cond-false, eqb-true, ne_eqb}
use Rattle.systems.specs.declared.Choice.{Choice}
use Rattle.systems.specs.declared.Choice.TheVariants.{Left, Right, Erase, Pair, Block}
use Rattle.systems.specs.declared.Place.{Place}
use Rattle.systems.specs.declared.Place.TheVariants.{Letter, Variable}
use Rattle.systems.specs.Choices.{swap, effect}
use Rattle.systems.specs.Rows.{any, replace_pairs, row, replace_blocks}
use Rattle.systems.specs.Sides.{Side, Equation, sides, on_sides, places, is_letter, is_variable, Words, filled, fill}
use Rattle.writing.specs.Counts.{word_letters, live_count}
use Rattle.writing.specs.Writer.{State, lives, from, filled_sides, total, letters}
use Rattle.writing.proofs.Falls.{all_variables}
use Rattle.writing.proofs.Lists.{total_le}

total_add : {A : Type 0} (f g : A → ℕ) (xs : List A) → total (λ x. f x + g x) xs ≡ total f xs + total g xs
total_add f g [] = refl
total_add f g (x ∷ xs) = omega (arith, total_add f g xs)

total_none : {A : Type 0} (xs : List A) → total (λ _. 0) xs ≡ 0
total_none [] = refl
total_none (x ∷ xs) = omega (arith, total_none xs)

or_share : (s t : Bool) (n : ℕ) → cond (s || t) n 0 ≤ cond s n 0 + cond t n 0
or_share true t n = omega arith
or_share false t n = omega arith

module _ (τ : Words) where
  abbrev part : (ℕ → Bool) → ℕ → ℕ
  part p x = cond (p x) (length (τ x)) 0

  past : (y n k : ℕ) → y < k → total (part (λ x. eqb x y)) (from k n) ≡ 0
  past y zero k lt = refl
  past y (suc n) k lt =
      let none : part (λ x. eqb x y) k ≡ 0 = cond-false (eqb k y) (length (τ k)) 0 (ne_eqb k y (λ e. omega arith)) in
      omega (arith, past y n (suc k) (omega arith))

  once : (y n k : ℕ) → total (part (λ x. eqb x y)) (from k n) ≤ length (τ y)
  once y zero k = omega arith
  once y (suc n) k =
      cond_both (eqb k y) (length (τ k)) 0 (λ m. m + total (part (λ x. eqb x y)) (from (suc k) n) ≤ length (τ y))
      (λ e. let same : k ≡ y = eqb-true k y e in let long : length (τ k) ≡ length (τ y) = ap (λ z. length (τ z)) same in omega (arith, past y n (suc k) (omega arith)))
      (λ _. omega (arith, once y n (suc k)))

  module _ (n : ℕ) where
    abbrev all : (ℕ → Bool) → ℕ
    all p = total (part p) (from 0 n)

    split : (p q : ℕ → Bool) → all (λ x. p x || q x) ≤ all p + all q
    split p q =
        let le : all (λ x. p x || q x) ≤ total (λ x. part p x + part q x) (from 0 n) = total_le (part (λ x. p x || q x)) (λ x. part p x + part q x) (λ x. or_share (p x) (q x) (length (τ x))) (from 0 n) in
        omega (arith, total_add (part p) (part q) (from 0 n))

    of_place : (p : Place) → all (λ x. is_variable x p) ≤ length (filled τ p)
    of_place (Letter a) = omega (arith, total_none (from 0 n))
    of_place (Variable y) = once y n 0

    of_side : (s : Side) → all (λ x. any (is_variable x) s) ≤ length (fill τ s)
    of_side [] = omega (arith, total_none (from 0 n))
    of_side (p ∷ s) = omega (arith, split (λ x. is_variable x p) (λ x. any (is_variable x) s), of_place p, of_side s, length-append (filled τ p) (fill τ s))

    of_sides : (ss : List Side) → all (λ x. any (any (is_variable x)) ss) ≤ letters (map (fill τ) ss)
    of_sides [] = omega (arith, total_none (from 0 n))
    of_sides (s ∷ ss) = omega (arith, split (λ x. any (is_variable x) s) (λ x. any (any (is_variable x)) ss), of_side s, of_sides ss)

pub words_in_sides : (st : State) → word_letters st ≤ letters (filled_sides st)
words_in_sides st =
    let bound : ℕ = letters (filled_sides st) in
    subst (λ vs. total (λ x. cond (lives st x) (length (st.words x)) 0) vs ≤ bound) (sym all_variables.1.0) (of_sides st.words all_variables.0 (sides st.stands.equations))

count_from : (p : ℕ → Bool) (n k : ℕ) → total (λ x. cond (p x) 1 0) (from k n) ≤ n
count_from p zero k = omega arith
count_from p (suc n) k =
    cond_both (p k) 1 0 (λ m. m + total (λ x. cond (p x) 1 0) (from (suc k) n) ≤ suc n)
    (λ _. omega (arith, count_from p n (suc k))) (λ _. omega (arith, count_from p n (suc k)))

pub few_live : (st : State) → live_count st ≤ 26
few_live st =
    let n : ℕ = all_variables.0 in
    let is : n ≡ 26 = all_variables.1.1 in
    let le : live_count st ≤ n = subst (λ vs. total (λ x. cond (lives st x) 1 0) vs ≤ n) (sym all_variables.1.0) (count_from (lives st) n 0) in
    omega arith

-- places that are variables

abbrev pub variable_at : Place → ℕ
variable_at (Letter a) = 0
variable_at (Variable x) = 1

abbrev pub variable_places : List Equation → ℕ
variable_places E = total (total variable_at) (sides E)

total-++ : {A : Type 0} (f : A → ℕ) (xs ys : List A) → total f (xs ++ ys) ≡ total f xs + total f ys
total-++ f [] ys = omega arith
total-++ f (x ∷ xs) ys = omega (arith, total-++ f xs ys)

swap_variables : (x : ℕ) (v : Side) → total variable_at v ≤ 1 → (s : Side) → total variable_at (swap x v s) ≤ total variable_at s
swap_variables x v one [] = omega arith
swap_variables x v one (Letter l ∷ s) = omega (arith, swap_variables x v one s)
swap_variables x v one (Variable y ∷ s) =
    cond_both (eqb x y) v (Variable y ∷ []) (λ r. total variable_at (r ++ swap x v s) ≤ 1 + total variable_at s)
    (λ _. omega (arith, total-++ variable_at v (swap x v s), swap_variables x v one s))
    (λ _. omega (arith, swap_variables x v one s))

pairs_variables : (p q : Place → Bool) (c : ℕ) (s : Side) → total variable_at (replace_pairs p q (Letter c) s) ≤ total variable_at s
pairs_variables p q c [] = omega arith
pairs_variables p q c (x ∷ []) = omega arith
pairs_variables p q c (x ∷ (y ∷ s)) =
    cond_both (p x && q y) (Letter c ∷ replace_pairs p q (Letter c) s) (x ∷ replace_pairs p q (Letter c) (y ∷ s)) (λ r. total variable_at r ≤ variable_at x + (variable_at y + total variable_at s))
    (λ _. omega (arith, pairs_variables p q c s)) (λ _. omega (arith, pairs_variables p q c (y ∷ s)))

module _ (a n c : ℕ) where
  replicate_none : (k : ℕ) → total variable_at (replicate k (Letter a)) ≡ 0
  replicate_none zero = refl
  replicate_none (suc k) = omega (arith, replicate_none k)

  row_variables : (k : ℕ) → total variable_at (row (Letter a) n (Letter c) k) ≡ 0
  row_variables k = cond_both (eqb k n) (Letter c ∷ []) (replicate k (Letter a)) (λ r. total variable_at r ≡ 0) (λ _. refl) (λ _. replicate_none k)

  blocks_variables : (s : Side) (k : ℕ) → total variable_at (replace_blocks (is_letter a) (Letter a) n (Letter c) k s) ≤ total variable_at s
  blocks_variables [] k = omega (arith, row_variables k)
  blocks_variables (x ∷ s) k =
      cond_both (is_letter a x) (replace_blocks (is_letter a) (Letter a) n (Letter c) (suc k) s) (row (Letter a) n (Letter c) k ++ (x ∷ replace_blocks (is_letter a) (Letter a) n (Letter c) 0 s)) (λ r. total variable_at r ≤ variable_at x + total variable_at s)
      (λ _. omega (arith, blocks_variables s (suc k)))
      (λ _. omega (arith, total-++ variable_at (row (Letter a) n (Letter c) k) (x ∷ replace_blocks (is_letter a) (Letter a) n (Letter c) 0 s), row_variables k, blocks_variables s 0))

effect_variables : (choice : Choice) (c : ℕ) (s : Side) → total variable_at (effect choice c s) ≤ total variable_at s
effect_variables (Left x a) c s = swap_variables x (Letter a ∷ Variable x ∷ []) (omega arith) s
effect_variables (Right x a) c s = swap_variables x (Variable x ∷ Letter a ∷ []) (omega arith) s
effect_variables (Erase x) c s = swap_variables x [] (omega arith) s
effect_variables (Pair a b) c s = pairs_variables (is_letter a) (is_letter b) c s
effect_variables (Block a n) c s = blocks_variables a n c s 0

pub variables_stay : (choice : Choice) (c : ℕ) (E : List Equation) → variable_places (on_sides (effect choice c) E) ≤ variable_places E
variables_stay choice c [] = omega arith
variables_stay choice c (e ∷ E) = omega (arith, effect_variables choice c e.0, effect_variables choice c e.1, variables_stay choice c E)

side_places : (τ : Words) (s : Side) → length s ≤ length (fill τ s) + total variable_at s
side_places τ [] = omega arith
side_places τ (Letter a ∷ s) = omega (arith, side_places τ s)
side_places τ (Variable x ∷ s) = omega (arith, side_places τ s, length-append (τ x) (fill τ s))

all_places : (τ : Words) (E : List Equation) → places E ≤ letters (map (fill τ) (sides E)) + variable_places E
all_places τ [] = omega arith
all_places τ (e ∷ E) = omega (arith, side_places τ e.0, side_places τ e.1, all_places τ E)

pub few_places : (st : State) → places st.stands.equations ≤ letters (filled_sides st) + variable_places st.stands.equations
few_places st = all_places st.words st.stands.equations

side_variables : (s : Side) → total variable_at s ≤ length s
side_variables [] = omega arith
side_variables (Letter a ∷ s) = omega (arith, side_variables s)
side_variables (Variable x ∷ s) = omega (arith, side_variables s)

pub variables_le : (E : List Equation) → variable_places E ≤ places E
variables_le [] = omega arith
variables_le (e ∷ E) = omega (arith, side_variables e.0, side_variables e.1, variables_le E)
