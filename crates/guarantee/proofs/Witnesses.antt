-- The witness that a close writes is valid, and has the popped word of each variable of the system. Assumes nothing.
use Rattle.std.proofs.Common.{◌≡◌, ℕ, zero, suc, ◌+◌, ◌<◌, ◌≤◌, Bool, true, false, cond, ◌&&◌, eqb, ltb, leb, ◌⊎◌, List, [], ◌∷◌, reverse, length, Some, None, sym, refl, ap, ◌∙◌, inl, inr, arith, length-append}
use lib.ListN.{length-reverse}
use Rattle.std.specs.List.{flat_map, AllByRecursion}
use Rattle.std.specs.Option.{option_map}
use Rattle.std.proofs.lemmas.Bool.{cond_both, cond-true, cond-false, and_from, both_ways, cases_order, eq-eqb, ne_eqb, lt-ltb, le-ltb, le-leb}
use Rattle.model.specs.Spelling.{Word, known, spell_word}
use Rattle.model.specs.Witnesses.{all_below, letters_in, least, entry_fits, entries_fit, valid, word_of, spelled, Entry, rules_fit}
use Rattle.systems.specs.declared.Pop.{Pop}
use Rattle.systems.specs.declared.Pop.TheVariants.{AtLeft, AtRight}
use Rattle.systems.specs.Invariants.{WellFormed}
use Rattle.systems.specs.Standings.{Standing, left_of, right_of, lefts, rights, popped_word}
use Rattle.systems.proofs.Whole.{popped_below}
use Rattle.writing.specs.Writer.{total}
use Rattle.guarantee.specs.Closing.{found_word, entry, entries, witness}

pub below_all : (k : ℕ) (w : Word) → AllByRecursion (λ l. l < k) w → all_below k w ≡ true
below_all k [] h = refl
below_all k (a ∷ w) h = and_from (ltb a k) (all_below k w) (lt-ltb a k h.0) (below_all k w h.1)

-- how many of the pops are of a variable below n

abbrev popped_from : Pop → ℕ
popped_from (AtLeft y a) = y
popped_from (AtRight y a) = y

abbrev counts : ℕ → Pop → ℕ
counts n pop = cond (ltb (popped_from pop) n) 1 0

counts_le : (n : ℕ) (pops : List Pop) → total (counts n) pops ≤ length pops
counts_le n [] = omega arith
counts_le n (pop ∷ pops) = cond_both (ltb (popped_from pop) n) 1 0 (λ k. k + total (counts n) pops ≤ suc (length pops)) (λ _. omega (arith, counts_le n pops)) (λ _. omega (arith, counts_le n pops))

abbrev one_of : ℕ → ℕ → ℕ
one_of y n = cond (eqb y n) 1 0

counts_more : (n y : ℕ) → one_of y n + cond (ltb y n) 1 0 ≤ cond (ltb y (suc n)) 1 0
counts_more n y = split (cases_order y n)
  where
    split : (y ≡ n) ⊎ ((y < n) ⊎ (n < y)) → one_of y n + cond (ltb y n) 1 0 ≤ cond (ltb y (suc n)) 1 0
    split (inl e) =
        let a : ◌≡◌ {A = ℕ} (one_of y n) 1 = cond-true (eqb y n) 1 0 (eq-eqb y n e) in
        let b : ◌≡◌ {A = ℕ} (cond (ltb y n) 1 0) 0 = cond-false (ltb y n) 1 0 (le-ltb y n (omega arith)) in
        let c : ◌≡◌ {A = ℕ} (cond (ltb y (suc n)) 1 0) 1 = cond-true (ltb y (suc n)) 1 0 (lt-ltb y (suc n) (omega arith)) in
        omega (arith, a, b, c)
    split (inr (inl l)) =
        let a : ◌≡◌ {A = ℕ} (one_of y n) 0 = cond-false (eqb y n) 1 0 (ne_eqb y n (λ e. omega arith)) in
        let b : ◌≡◌ {A = ℕ} (cond (ltb y n) 1 0) 1 = cond-true (ltb y n) 1 0 (lt-ltb y n l) in
        let c : ◌≡◌ {A = ℕ} (cond (ltb y (suc n)) 1 0) 1 = cond-true (ltb y (suc n)) 1 0 (lt-ltb y (suc n) (omega arith)) in
        omega (arith, a, b, c)
    split (inr (inr g)) =
        let a : ◌≡◌ {A = ℕ} (one_of y n) 0 = cond-false (eqb y n) 1 0 (ne_eqb y n (λ e. omega arith)) in
        let b : ◌≡◌ {A = ℕ} (cond (ltb y n) 1 0) 0 = cond-false (ltb y n) 1 0 (le-ltb y n (omega arith)) in
        omega (arith, a, b)

one_letter : (t : Bool) (a : ℕ) → length (cond t (a ∷ []) []) ≡ cond t 1 0
one_letter true a = refl
one_letter false a = refl

pops_share : (n : ℕ) (pops : List Pop) → length (flat_map (left_of n) pops) + length (flat_map (right_of n) pops) + total (counts n) pops ≤ total (counts (suc n)) pops
pops_share n [] = omega arith
pops_share n (AtLeft y a ∷ pops) =
    omega (arith, pops_share n pops, counts_more n y, one_letter (eqb y n) a, length-append (cond (eqb y n) (a ∷ []) []) (flat_map (left_of n) pops))
pops_share n (AtRight y a ∷ pops) =
    omega (arith, pops_share n pops, counts_more n y, one_letter (eqb y n) a, length-append (cond (eqb y n) (a ∷ []) []) (flat_map (right_of n) pops))

module _ (system : ℕ → Bool) (S : Standing) where
  least_entries : (n : ℕ) → least (entries system S n) ≤ n
  least_entries zero = omega arith
  least_entries (suc n) = cond_both (system n) (entry S n ∷ entries system S n) (entries system S n) (λ es. least es ≤ suc n) (λ _. omega arith) (λ _. omega (arith, least_entries n))

  word_length : (n : ℕ) → length (entry S n).word ≡ length (lefts S n) + length (rights S n)
  word_length n = length-append (lefts S n) (reverse (rights S n)) ∙ ap (λ k. length (lefts S n) + k) (length-reverse (rights S n))

  letters_share : (n : ℕ) → letters_in (entries system S n) ≤ total (counts n) S.pops
  letters_share zero = omega arith
  letters_share (suc n) =
      cond_both (system n) (entry S n ∷ entries system S n) (entries system S n) (λ es. letters_in es ≤ total (counts (suc n)) S.pops)
      (λ _. omega (arith, word_length n, letters_share n, pops_share n S.pops)) (λ _. omega (arith, letters_share n, pops_share n S.pops))

  module _ (formed : WellFormed S) where
    each_fits : (n : ℕ) → n ≤ 26 → entries_fit S.rules (entries system S n) ≡ true
    each_fits zero le = refl
    each_fits (suc n) le =
        cond_both (system n) (entry S n ∷ entries system S n) (entries system S n) (λ es. entries_fit S.rules es ≡ true)
        (λ _.
        let older : List Entry = entries system S n in
        let w : Word = (entry S n).word in
        and_from (entry_fits S.rules older (entry S n)) (entries_fit S.rules older)
        (and_from (leb (least older) n && ltb n 26) (all_below (known S.rules) w && leb (length w + letters_in older) 1024)
        (and_from (leb (least older) n) (ltb n 26) (le-leb (least older) n (least_entries n)) (lt-ltb n 26 (omega arith)))
        (and_from (all_below (known S.rules) w) (leb (length w + letters_in older) 1024) (below_all (known S.rules) w (popped_below S formed n))
        (le-leb (length w + letters_in older) 1024 (omega (arith, word_length n, letters_share n, pops_share n S.pops, counts_le (suc n) S.pops, formed.few_pops)))))
        (each_fits n (omega arith)))
        (λ _. each_fits n (omega arith))

    pub witness_valid : valid (witness system S) ≡ true
    witness_valid = and_from (rules_fit S.rules) (entries_fit S.rules (entries system S 26)) formed.fitting_rules (each_fits 26 (omega arith))

  word_there : (x : ℕ) → system x ≡ true → (n : ℕ) → x < n → word_of (entries system S n) x ≡ Some (popped_word S x)
  word_there x of zero lt = absurd (omega arith)
  word_there x of (suc n) lt = split (λ l. word_there x of n l) (cases_order x n)
    where
      split : (x < n → word_of (entries system S n) x ≡ Some (popped_word S x)) → (x ≡ n) ⊎ ((x < n) ⊎ (n < x)) → word_of (entries system S (suc n)) x ≡ Some (popped_word S x)
      split more (inl e) =
          ap (λ es. word_of es x) (cond-true (system n) (entry S n ∷ entries system S n) (entries system S n) (ap system (sym e) ∙ of)) ∙
          cond-true (eqb x n) (Some (entry S n).word) (word_of (entries system S n) x) (eq-eqb x n e) ∙ ap (λ z. Some (popped_word S z)) (sym e)
      split more (inr (inl l)) =
          cond_both (system n) (entry S n ∷ entries system S n) (entries system S n) (λ es. word_of es x ≡ Some (popped_word S x))
          (λ _. cond-false (eqb x n) (Some (entry S n).word) (word_of (entries system S n) x) (ne_eqb x n (λ e. omega arith)) ∙ more l) (λ _. more l)
      split more (inr (inr g)) = absurd (omega arith)

  word_absent : (x : ℕ) → system x ≡ false → (n : ℕ) → word_of (entries system S n) x ≡ None
  word_absent x other zero = refl
  word_absent x other (suc n) =
      cond_both (system n) (entry S n ∷ entries system S n) (entries system S n) (λ es. word_of es x ≡ None)
      (λ of. cond-false (eqb x n) (Some (entry S n).word) (word_of (entries system S n) x) (ne_eqb x n (λ e. both_ways (system n) (ap system (sym e) ∙ other) of)) ∙ word_absent x other n)
      (λ _. word_absent x other n)

  pub spelled_there : (x : ℕ) → system x ≡ true → x < 26 → spelled (witness system S) x ≡ Some (found_word S x)
  spelled_there x of low = ap (option_map (spell_word S.rules)) (word_there x of 26 low)

  pub spelled_absent : (x : ℕ) → system x ≡ false → spelled (witness system S) x ≡ None
  spelled_absent x other = ap (option_map (spell_word S.rules)) (word_absent x other 26)
