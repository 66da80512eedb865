-- The words that a caller gives, filled in one variable after another, and what is refused of them. Assumes nothing.
use Rattle.std.proofs.Common.{◌≡◌, ℕ, ◌+◌, ◌<◌, ◌≤◌, Bool, true, false, cond, not, ◌&&◌, eqb, ltb, ◌≢◌, ◌⊎◌, List, [], ◌∷◌, ◌++◌, map, length, Some, None, Option, sym, refl, ap, ◌∙◌, ap₂, inl, inr, append-nil, arith, length-append}
use Rattle.std.specs.List.{flat_map, AllByRecursion}
use Rattle.std.specs.Option.{option_map, option_or}
use Rattle.std.proofs.ByRecursion.{All-weaker}
use Rattle.std.proofs.lemmas.Bool.{cond_both, cond-true, cond-false, and_parts, and_cases, and_from, and_left, and_right, cases_Bool, cases_lt, both_ways, eqb-true, eqb-false, eq-eqb, or_cases, false≢true, ltb-true, ltb-false, lt-ltb, le-ltb, not_from_true, not_from_false, false_from_ne_true}
use Rattle.std.proofs.lemmas.List.{length-map, map-append}
use Rattle.model.specs.Spelling.{Word}
use Rattle.systems.specs.declared.Place.{Place}
use Rattle.systems.specs.declared.Place.TheVariants.{Letter, Variable}
use Rattle.systems.specs.Choices.{swapped, swap}
use Rattle.systems.specs.Rows.{any}
use Rattle.systems.specs.Sides.{Side, Equation, sides, on_sides, places, is_variable, stands_in, Words, filled, fill, Solves, SameSides}
use Rattle.systems.specs.Standings.{Standing, live}
use Rattle.systems.proofs.Living.{each_stands, on_sides_on, on_sides_same, on_sides_self}
use Rattle.systems.proofs.Rows.{all_each, joined_joined, joined_same}
use Rattle.writing.specs.declared.Span.{Span}
use Rattle.writing.specs.declared.WriteRefusal.{WriteRefusal}
use Rattle.writing.specs.declared.WriteRefusal.TheVariants.{NoWord, TooManyLetters, NoSolution}
use Rattle.writing.specs.Counts.{side_letters}
use Rattle.writing.specs.Refusals.{span_of, is_word, given, solved, write_refusal}
use Rattle.writing.specs.Writer.{beside, first, letters, variables}
use Rattle.writing.proofs.First.{first_found, none_found}
use Rattle.writing.proofs.Refusing.{is_solved, solved_means}

-- a number below k is below the next, and no other number is but k
pub below_other : (y k : ℕ) → y ≢ k → ltb y k ≡ ltb y (k + 1)
below_other y k other = split (cases_lt y k)
  where
    split : (y < k) ⊎ (k ≤ y) → ltb y k ≡ ltb y (k + 1)
    split (inl lt) = lt-ltb y k lt ∙ sym (lt-ltb y (k + 1) (omega arith))
    split (inr le) = le-ltb y k le ∙ sym (le-ltb y (k + 1) (omega arith))

-- in letters nothing is put for a variable
swap_letters : (x : ℕ) (v : Side) (w : Word) → swap x v (map Letter w) ≡ map Letter w
swap_letters x v [] = refl
swap_letters x v (a ∷ w) = ap (λ s. Letter a ∷ s) (swap_letters x v w)

-- the letter of a place
letter_of : Place → ℕ
letter_of (Letter a) = a
letter_of (Variable x) = 0

letters_back : (w : Word) → map letter_of (map Letter w) ≡ w
unfolding letter_of
letters_back [] = refl
letters_back (a ∷ w) = ap (λ u. a ∷ u) (letters_back w)

letters_same : (u v : Word) → map Letter u ≡ map Letter v → u ≡ v
letters_same u v e = sym (letters_back u) ∙ ap (map letter_of) e ∙ letters_back v

module _ (τ : Words) where
  -- a side with all words filled in, as places
  abbrev pub all_filled : Side → Side
  all_filled s = map Letter (fill τ s)

  pub places_filled : (F : List Equation) → places (on_sides all_filled F) ≡ letters (map (fill τ) (sides F))
  places_filled [] = refl
  places_filled (e ∷ F) = omega (arith, length-map (fill τ e.0) Letter, length-map (fill τ e.1) Letter, places_filled F)

  pub sides_filled : (F : List Equation) → sides (on_sides all_filled F) ≡ map (map Letter) (map (fill τ) (sides F))
  sides_filled [] = refl
  sides_filled (e ∷ F) = ap (λ r. all_filled e.0 ∷ (all_filled e.1 ∷ r)) (sides_filled F)

  pub same_solve : (F : List Equation) → AllByRecursion SameSides (on_sides all_filled F) → Solves τ F
  same_solve [] h = tt
  same_solve (e ∷ F) h = (letters_same (fill τ e.0) (fill τ e.1) h.0, same_solve F h.1)

  pub solve_same : (F : List Equation) → Solves τ F → AllByRecursion SameSides (on_sides all_filled F)
  solve_same [] h = tt
  solve_same (e ∷ F) h = (ap (map Letter) h.0, solve_same F h.1)

  -- a word that stands in a side has no more letters than the filled-in sides
  module _ (x : ℕ) where
    in_place : (p : Place) → is_variable x p ≡ true → length (τ x) ≤ length (filled τ p)
    in_place (Letter a) e = absurd (false≢true e)
    in_place (Variable y) e = let same : length (τ x) ≡ length (τ y) = ap (λ z. length (τ z)) (eqb-true x y e) in omega arith

    in_side : (s : Side) → any (is_variable x) s ≡ true → length (τ x) ≤ length (fill τ s)
    in_side [] e = absurd (false≢true e)
    in_side (p ∷ s) e = split (λ f. in_side s f) (or_cases (is_variable x p) (any (is_variable x) s) e)
      where
        split : (any (is_variable x) s ≡ true → length (τ x) ≤ length (fill τ s)) → (is_variable x p ≡ true) ⊎ (any (is_variable x) s ≡ true) → length (τ x) ≤ length (filled τ p ++ fill τ s)
        split more (inl f) = omega (arith, length-append (filled τ p) (fill τ s), in_place p f)
        split more (inr f) = omega (arith, length-append (filled τ p) (fill τ s), more f)

    in_sides : (ss : List Side) → any (any (is_variable x)) ss ≡ true → length (τ x) ≤ letters (map (fill τ) ss)
    in_sides [] e = absurd (false≢true e)
    in_sides (s ∷ ss) e = split (λ f. in_sides ss f) (or_cases (any (is_variable x) s) (any (any (is_variable x)) ss) e)
      where
        split : (any (any (is_variable x)) ss ≡ true → length (τ x) ≤ letters (map (fill τ) ss)) → (any (is_variable x) s ≡ true) ⊎ (any (any (is_variable x)) ss ≡ true) → length (τ x) ≤ length (fill τ s) + letters (map (fill τ) ss)
        split more (inl f) = omega (arith, in_side s f)
        split more (inr f) = omega (arith, more f)

  module _ (E : List Equation) where
    pub one_word : (x : ℕ) → stands_in E x ≡ true → length (τ x) ≤ letters (map (fill τ) (sides E))
    one_word x alive = in_sides x (sides E) alive

    -- the variables below k that stand in a side are filled in, and the others stay
    abbrev pub place_below : ℕ → Place → Side
    place_below k (Letter a) = Letter a ∷ []
    place_below k (Variable y) = cond (stands_in E y && ltb y k) (map Letter (τ y)) (Variable y ∷ [])

    abbrev pub filled_below : ℕ → Side → Side
    filled_below k = flat_map (place_below k)

    -- none is filled in at first

    none_place : (p : Place) → place_below 0 p ≡ p ∷ []
    none_place (Letter a) = refl
    none_place (Variable y) = cond-false (stands_in E y && ltb y 0) (map Letter (τ y)) (Variable y ∷ []) (and_right (stands_in E y) (ltb y 0) (le-ltb y 0 (omega arith)))

    none_side : (s : Side) → filled_below 0 s ≡ s
    none_side [] = refl
    none_side (p ∷ s) = ap₂ (λ u v. u ++ v) (none_place p) (none_side s)

    pub none_filled : on_sides (filled_below 0) E ≡ E
    none_filled = on_sides_self (filled_below 0) none_side E

    -- a variable that stands in a side is filled in next

    module _ (k : ℕ) (alive : stands_in E k ≡ true) where
      abbrev v : Side
      v = map Letter (τ k)

      one_place : (p : Place) → swap k v (place_below k p) ≡ place_below (k + 1) p
      one_place (Letter a) = refl
      one_place (Variable y) =
          cond_both (stands_in E y && ltb y k) (map Letter (τ y)) (Variable y ∷ []) (λ r. swap k v r ≡ place_below (k + 1) (Variable y))
          (λ e. let parts = and_parts (stands_in E y) (ltb y k) e in
          swap_letters k v (τ y) ∙ sym (now (and_from (stands_in E y) (ltb y (k + 1)) parts.0 (lt-ltb y (k + 1) (omega (arith, ltb-true y k parts.1))))))
          (λ e. cond_both (eqb k y) v (Variable y ∷ []) (λ r. r ++ [] ≡ place_below (k + 1) (Variable y))
          (λ f. let same : k ≡ y = eqb-true k y f in
          append-nil v ∙ ap (λ z. map Letter (τ z)) same ∙ sym (now (and_from (stands_in E y) (ltb y (k + 1)) (ap (stands_in E) (sym same) ∙ alive) (lt-ltb y (k + 1) (omega arith)))))
          (λ f. sym (cond-false (stands_in E y && ltb y (k + 1)) (map Letter (τ y)) (Variable y ∷ []) (later (eqb-false k y f) (and_cases (stands_in E y) (ltb y k) e)))))
        where
          now : (stands_in E y && ltb y (k + 1)) ≡ true → place_below (k + 1) (Variable y) ≡ map Letter (τ y)
          now = cond-true (stands_in E y && ltb y (k + 1)) (map Letter (τ y)) (Variable y ∷ [])

          later : k ≢ y → (stands_in E y ≡ false) ⊎ (ltb y k ≡ false) → (stands_in E y && ltb y (k + 1)) ≡ false
          later other (inl gone) = and_left (stands_in E y) (ltb y (k + 1)) gone
          later other (inr above) = and_right (stands_in E y) (ltb y (k + 1)) (le-ltb y (k + 1) (omega (arith, ltb-false y k above)))

      one_side : (s : Side) → swap k v (filled_below k s) ≡ filled_below (k + 1) s
      one_side s = joined_joined (swapped k v) (place_below k) s ∙ joined_same (λ p. swap k v (place_below k p)) (place_below (k + 1)) s (all_each (λ p. swap k v (place_below k p) ≡ place_below (k + 1) p) one_place s)

      pub one_filled : on_sides (swap k v) (on_sides (filled_below k) E) ≡ on_sides (filled_below (k + 1)) E
      one_filled = on_sides_on (swap k v) (filled_below k) (filled_below (k + 1)) one_side E

    -- one that stands in none is passed over

    module _ (k : ℕ) (gone : stands_in E k ≡ false) where
      pub passed_test : (y : ℕ) → (stands_in E y && ltb y k) ≡ (stands_in E y && ltb y (k + 1))
      passed_test y = split (cases_Bool (stands_in E y))
        where
          split : (stands_in E y ≡ true) ⊎ (stands_in E y ≡ false) → (stands_in E y && ltb y k) ≡ (stands_in E y && ltb y (k + 1))
          split (inl e) = ap (λ b. stands_in E y && b) (below_other y k (λ d. both_ways (stands_in E k) gone (ap (stands_in E) (sym d) ∙ e)))
          split (inr e) = and_left (stands_in E y) (ltb y k) e ∙ sym (and_left (stands_in E y) (ltb y (k + 1)) e)

      passed_place : (p : Place) → place_below k p ≡ place_below (k + 1) p
      passed_place (Letter a) = refl
      passed_place (Variable y) = ap (λ b. cond b (map Letter (τ y)) (Variable y ∷ [])) (passed_test y)

      passed_side : (s : Side) → filled_below k s ≡ filled_below (k + 1) s
      passed_side s = joined_same (place_below k) (place_below (k + 1)) s (all_each (λ p. place_below k p ≡ place_below (k + 1) p) passed_place s)

      pub one_passed : on_sides (filled_below k) E ≡ on_sides (filled_below (k + 1)) E
      one_passed = on_sides_same (filled_below k) (filled_below (k + 1)) E (all_each (λ s. filled_below k s ≡ filled_below (k + 1) s) passed_side (sides E))

    -- where every variable that stands is below n, all are filled in at n

    letters_in_side : (s : Side) → flat_map (λ p. map Letter (filled τ p)) s ≡ all_filled s
    letters_in_side [] = refl
    letters_in_side (p ∷ s) = ap (λ r. map Letter (filled τ p) ++ r) (letters_in_side s) ∙ sym (map-append Letter (filled τ p) (fill τ s))

    pub filled_at_last : (n : ℕ) → ((x : ℕ) → stands_in E x ≡ true → x < n) → on_sides (filled_below n) E ≡ on_sides all_filled E
    filled_at_last n low =
        on_sides_same (filled_below n) all_filled E
        (All-weaker (AllByRecursion (λ p. (x : ℕ) → is_variable x p ≡ true → stands_in E x ≡ true)) (λ s. filled_below n s ≡ all_filled s)
        (λ s h. joined_same (place_below n) (λ p. map Letter (filled τ p)) s (All-weaker (λ p. (x : ℕ) → is_variable x p ≡ true → stands_in E x ≡ true) (λ p. place_below n p ≡ map Letter (filled τ p)) at s h) ∙ letters_in_side s)
        (sides E) (each_stands E))
      where
        at : (p : Place) → ((x : ℕ) → is_variable x p ≡ true → stands_in E x ≡ true) → place_below n p ≡ map Letter (filled τ p)
        at (Letter a) h = refl
        at (Variable y) h =
            let alive = h y (eq-eqb y y refl) in
            cond-true (stands_in E y && ltb y n) (map Letter (τ y)) (Variable y ∷ []) (and_from (stands_in E y) (ltb y n) alive (lt-ltb y n (low y alive)))

    -- each place holds its letters, or a variable that is left

    module _ (k : ℕ) where
      at_place : (p : Place) → length (place_below k p) ≤ 1 + length (filled τ p)
      at_place (Letter a) = omega arith
      at_place (Variable y) = cond_both (stands_in E y && ltb y k) (map Letter (τ y)) (Variable y ∷ []) (λ r. length r ≤ 1 + length (τ y)) (λ _. omega (arith, length-map (τ y) Letter)) (λ _. omega arith)

      at_side : (s : Side) → length (filled_below k s) ≤ length s + length (fill τ s)
      at_side [] = omega arith
      at_side (p ∷ s) = omega (arith, length-append (place_below k p) (filled_below k s), length-append (filled τ p) (fill τ s), at_place p, at_side s)

      pub few_filled : (F : List Equation) → places (on_sides (filled_below k) F) ≤ places F + letters (map (fill τ) (sides F))
      few_filled [] = omega arith
      few_filled (e ∷ F) = omega (arith, at_side e.0, at_side e.1, few_filled F)

-- what is refused where there is room

module _ (S : Standing) (buffer : List ℕ) (spans : List Span) where
  abbrev τ : Words
  τ = given S buffer spans

  abbrev bad : ℕ → Bool
  bad x = live S x && not (is_word buffer (span_of spans x))

  -- the reasons that come after the words
  abbrev later : Option WriteRefusal
  later = cond (ltb 512 (side_letters (beside S τ))) (Some TooManyLetters) (cond (not (solved τ S.equations)) (Some NoSolution) None)

  abbrev by_words : Option ℕ → Option WriteRefusal
  by_words o = option_or (option_map NoWord o) later

  good : (x : ℕ) → (live S x ≡ true → is_word buffer (span_of spans x) ≡ true) → bad x ≡ false
  good x word = split (cases_Bool (live S x))
    where
      split : (live S x ≡ true) ⊎ (live S x ≡ false) → bad x ≡ false
      split (inl alive) = and_right (live S x) (not (is_word buffer (span_of spans x))) (not_from_true (is_word buffer (span_of spans x)) (word alive))
      split (inr gone) = and_left (live S x) (not (is_word buffer (span_of spans x))) gone

  pub no_word : (x : ℕ) → x < 26 → live S x ≡ true → is_word buffer (span_of spans x) ≡ false → ((y : ℕ) → y < x → live S y ≡ true → is_word buffer (span_of spans y) ≡ true) → write_refusal S buffer spans 1050 ≡ Some (NoWord x)
  no_word x low alive none before =
      ap by_words (first_found bad x low (and_from (live S x) (not (is_word buffer (span_of spans x))) alive (not_from_false (is_word buffer (span_of spans x)) none)) (λ y lt. good y (before y lt)))

  module _ (words : (x : ℕ) → x < 26 → live S x ≡ true → is_word buffer (span_of spans x) ≡ true) where
    none_bad : by_words (first bad variables) ≡ later
    none_bad = ap by_words (none_found bad (λ x lt. good x (words x lt)))

    pub too_many_letters : 512 < side_letters (beside S τ) → write_refusal S buffer spans 1050 ≡ Some TooManyLetters
    too_many_letters over = none_bad ∙ cond-true (ltb 512 (side_letters (beside S τ))) (Some TooManyLetters) _ (lt-ltb 512 (side_letters (beside S τ)) over)

    module _ (few : side_letters (beside S τ) ≤ 512) where
      pub no_solution : (Solves τ S.equations → ⊥) → write_refusal S buffer spans 1050 ≡ Some NoSolution
      no_solution none =
          none_bad ∙ cond-false (ltb 512 (side_letters (beside S τ))) (Some TooManyLetters) _ (le-ltb 512 (side_letters (beside S τ)) few) ∙
          cond-true (not (solved τ S.equations)) (Some NoSolution) None (not_from_false (solved τ S.equations) (false_from_ne_true (solved τ S.equations) (λ e. none (solved_means τ S.equations e))))

      pub no_refusal : Solves τ S.equations → write_refusal S buffer spans 1050 ≡ None
      no_refusal solves =
          none_bad ∙ cond-false (ltb 512 (side_letters (beside S τ))) (Some TooManyLetters) _ (le-ltb 512 (side_letters (beside S τ)) few) ∙
          cond-false (not (solved τ S.equations)) (Some NoSolution) None (not_from_true (solved τ S.equations) (is_solved τ S.equations solves))
