-- The filled-in sides: what a choice makes of them, and when they get shorter. Assumes nothing.
use Rattle.std.proofs.Common.{◌≡◌, ℕ, zero, suc, ◌+◌, ◌<◌, ◌≤◌, Bool, true, false, cond, ◌&&◌, ◌||◌, eqb, ◌≢◌, ◌⊎◌, List, [], ◌∷◌, ◌++◌, map, length, replicate, sym, refl, ap, ◌∙◌, inl, inr, append-nil, arith, length-append}
use lib.ListN.{length-replicate}
use Rattle.std.proofs.ByRecursion.{All-weaker}
use Rattle.std.proofs.lemmas.Bool.{cond_both, cond-true, cond-false, and_from, both_ways, eqb-true, eqb-false, eq-eqb, ne_eqb, or_left, or_right, or_cases, true≢false, false≢true}
use Rattle.model.specs.Spelling.{Word}
use Rattle.systems.specs.declared.Choice.{Choice}
use Rattle.systems.specs.declared.Choice.TheVariants.{Left, Right, Erase, Pair, Block}
use Rattle.systems.specs.declared.Place.TheVariants.{Letter, Variable}
use Rattle.systems.specs.Choices.{swap}
use Rattle.systems.specs.Fitting.{Crosses, Fits}
use Rattle.systems.specs.Rows.{any, row, replace_blocks}
use Rattle.systems.specs.Sides.{Side, sides, is_variable, Words, filled, fill, word_pairs, side_pairs, word_blocks, side_blocks}
use Rattle.systems.specs.Standings.{fresh}
use Rattle.systems.proofs.Crossing.{pairs_before_or_after, blocks_before_or_after}
use Rattle.systems.proofs.Living.{map_sides}
use Rattle.systems.proofs.Meaning.{swap_means}
use Rattle.systems.proofs.Rows.{all_each}
use Rattle.writing.specs.Writer.{State, lives, leaves, next, begins, ends, empty, filled_sides, letters}
use Rattle.writing.specs.Counting.{row_lengths, has_row}
use Rattle.writing.proofs.Lists.{ends-++}

-- what a choice makes of the filled-in sides

abbrev pub changed : State → Choice → List Word → List Word
changed st (Left x a) ws = ws
changed st (Right x a) ws = ws
changed st (Erase x) ws = ws
changed st (Pair a b) ws = map (word_pairs a b (fresh st.stands)) ws
changed st (Block a n) ws = map (word_blocks a n (fresh st.stands)) ws

map_map : {A B C : Type 0} (f : B → C) (g : A → B) (xs : List A) → map (λ x. f (g x)) xs ≡ map f (map g xs)
map_map f g [] = refl
map_map f g (x ∷ xs) = ap (λ r. f (g x) ∷ r) (map_map f g xs)

pub filled_next : (st : State) (choice : Choice) → Fits st.stands st.words choice (leaves st.stands st.words choice) → filled_sides (next st choice) ≡ changed st choice (filled_sides st)
filled_next st (Left x a) fits =
    let τ : Words = st.words in
    let τ' : Words = (next st (Left x a)).words in
    let v : Side = Letter a ∷ Variable x ∷ [] in
    map_sides (fill τ') (fill τ) (swap x v) st.stands.equations
    (all_each (λ s. fill τ' (swap x v s) ≡ fill τ s) (swap_means (filled τ) (filled τ') x v (λ _. refl) (λ y e. fits.2 y (λ d. eqb-false x y e (sym d))) (ap (λ r. a ∷ r) (append-nil (τ' x)) ∙ sym fits.1)) (sides st.stands.equations))
filled_next st (Right x a) fits =
    let τ : Words = st.words in
    let τ' : Words = (next st (Right x a)).words in
    let v : Side = Variable x ∷ Letter a ∷ [] in
    map_sides (fill τ') (fill τ) (swap x v) st.stands.equations
    (all_each (λ s. fill τ' (swap x v s) ≡ fill τ s) (swap_means (filled τ) (filled τ') x v (λ _. refl) (λ y e. fits.2 y (λ d. eqb-false x y e (sym d))) (sym fits.1)) (sides st.stands.equations))
filled_next st (Erase x) fits =
    let τ : Words = st.words in
    map_sides (fill τ) (fill τ) (swap x []) st.stands.equations
    (all_each (λ s. fill τ (swap x [] s) ≡ fill τ s) (swap_means (filled τ) (filled τ) x [] (λ _. refl) (λ y e. refl) (sym fits.1)) (sides st.stands.equations))
filled_next st (Pair a b) fits =
    let τ : Words = st.words in
    let c : ℕ = fresh st.stands in
    map_sides (fill (λ y. word_pairs a b c (τ y))) (λ s. word_pairs a b c (fill τ s)) (side_pairs a b c) st.stands.equations
    (All-weaker (λ s. Crosses a b τ s → ⊥) (λ s. fill (λ y. word_pairs a b c (τ y)) (side_pairs a b c s) ≡ word_pairs a b c (fill τ s)) (pairs_before_or_after a b c τ) (sides st.stands.equations) fits.3) ∙
    map_map (word_pairs a b c) (fill τ) (sides st.stands.equations)
filled_next st (Block a n) fits =
    let τ : Words = st.words in
    let c : ℕ = fresh st.stands in
    map_sides (fill (λ y. word_blocks a n c (τ y))) (λ s. word_blocks a n c (fill τ s)) (side_blocks a n c) st.stands.equations
    (All-weaker (λ s. Crosses a a τ s → ⊥) (λ s. fill (λ y. word_blocks a n c (τ y)) (side_blocks a n c s) ≡ word_blocks a n c (fill τ s)) (λ s h. blocks_before_or_after a n c τ s fits.1 h) (sides st.stands.equations) fits.3) ∙
    map_map (word_blocks a n c) (fill τ) (sides st.stands.equations)

-- words that get shorter

module _ (g : Word → Word) (no_longer : (w : Word) → length (g w) ≤ length w) where
  pub letters_le : (ws : List Word) → letters (map g ws) ≤ letters ws
  letters_le [] = omega arith
  letters_le (w ∷ ws) = omega (arith, no_longer w, letters_le ws)

  pub letters_lt : (p : Word → Bool) → ((w : Word) → p w ≡ true → length (g w) < length w) → (ws : List Word) → any p ws ≡ true → letters (map g ws) < letters ws
  letters_lt p shorter [] e = absurd (false≢true e)
  letters_lt p shorter (w ∷ ws) e = split (λ f. letters_lt p shorter ws f) (or_cases (p w) (any p ws) e)
    where
      split : (any p ws ≡ true → letters (map g ws) < letters ws) → (p w ≡ true) ⊎ (any p ws ≡ true) → length (g w) + letters (map g ws) < length w + letters ws
      split more (inl f) = omega (arith, shorter w f, letters_le ws)
      split more (inr f) = omega (arith, no_longer w, more f)

any_map : {A B : Type 0} (p : B → Bool) (f : A → B) (xs : List A) → any p (map f xs) ≡ any (λ x. p (f x)) xs
any_map p f [] = refl
any_map p f (x ∷ xs) = ap (λ t. p (f x) || t) (any_map p f xs)

any_imp : {A : Type 0} (p q : A → Bool) → ((x : A) → p x ≡ true → q x ≡ true) → (xs : List A) → any p xs ≡ true → any q xs ≡ true
any_imp p q imp [] e = e
any_imp p q imp (x ∷ xs) e = split (λ f. any_imp p q imp xs f) (or_cases (p x) (any p xs) e)
  where
    split : (any p xs ≡ true → any q xs ≡ true) → (p x ≡ true) ⊎ (any p xs ≡ true) → (q x || any q xs) ≡ true
    split more (inl f) = or_left (q x) (any q xs) (imp x f)
    split more (inr f) = or_right (q x) (any q xs) (more f)

-- pairs

abbrev pub has_pair : ℕ → ℕ → Word → Bool
has_pair a b [] = false
has_pair a b (l ∷ []) = false
has_pair a b (l ∷ (m ∷ w)) = (eqb l a && eqb m b) || has_pair a b (m ∷ w)

module _ (a b c : ℕ) where
  pub pairs_le : (w : Word) → length (word_pairs a b c w) ≤ length w
  pairs_le [] = omega arith
  pairs_le (l ∷ []) = omega arith
  pairs_le (l ∷ (m ∷ w)) =
      cond_both (eqb l a && eqb m b) (c ∷ word_pairs a b c w) (l ∷ word_pairs a b c (m ∷ w)) (λ r. length r ≤ suc (suc (length w)))
      (λ _. omega (arith, pairs_le w)) (λ _. omega (arith, pairs_le (m ∷ w)))

  pub pairs_lt : (w : Word) → has_pair a b w ≡ true → length (word_pairs a b c w) < length w
  pairs_lt [] e = absurd (false≢true e)
  pairs_lt (l ∷ []) e = absurd (false≢true e)
  pairs_lt (l ∷ (m ∷ w)) e =
      cond_both (eqb l a && eqb m b) (c ∷ word_pairs a b c w) (l ∷ word_pairs a b c (m ∷ w)) (λ r. length r < suc (suc (length w)))
      (λ _. omega (arith, pairs_le w)) (λ f. let later : has_pair a b (m ∷ w) ≡ true = sym (ap (λ t. t || has_pair a b (m ∷ w)) f) ∙ e in omega (arith, pairs_lt (m ∷ w) later))

pair_behind : (a b : ℕ) (u v : Word) → has_pair a b v ≡ true → has_pair a b (u ++ v) ≡ true
pair_behind a b [] v e = e
pair_behind a b (l ∷ []) [] e = absurd (false≢true e)
pair_behind a b (l ∷ []) (m ∷ v) e = or_right (eqb l a && eqb m b) (has_pair a b (m ∷ v)) e
pair_behind a b (l ∷ (m ∷ u)) v e = or_right (eqb l a && eqb m b) (has_pair a b (m ∷ (u ++ v))) (pair_behind a b (m ∷ u) v e)

pair_side : (a b : ℕ) (u : Word) (τ : Words) (x : ℕ) → τ x ≡ a ∷ b ∷ u → (s : Side) → any (is_variable x) s ≡ true → has_pair a b (fill τ s) ≡ true
pair_side a b u τ x is [] e = absurd (false≢true e)
pair_side a b u τ x is (Letter l ∷ s) e = pair_behind a b (l ∷ []) (fill τ s) (pair_side a b u τ x is s e)
pair_side a b u τ x is (Variable y ∷ s) e = split (λ f. pair_side a b u τ x is s f) (or_cases (eqb x y) (any (is_variable x) s) e)
  where
    split : (any (is_variable x) s ≡ true → has_pair a b (fill τ s) ≡ true) → (eqb x y ≡ true) ⊎ (any (is_variable x) s ≡ true) → has_pair a b (τ y ++ fill τ s) ≡ true
    split more (inl f) =
        ap (λ r. has_pair a b (r ++ fill τ s)) (ap τ (sym (eqb-true x y f)) ∙ is) ∙
        or_left (eqb a a && eqb b b) (has_pair a b (b ∷ (u ++ fill τ s))) (and_from (eqb a a) (eqb b b) (eq-eqb a a refl) (eq-eqb b b refl))
    split more (inr f) = pair_behind a b (τ y) (fill τ s) (more f)

pub pair_occurs : (a b : ℕ) (u : Word) (st : State) (x : ℕ) → lives st x ≡ true → st.words x ≡ a ∷ b ∷ u → any (has_pair a b) (filled_sides st) ≡ true
pair_occurs a b u st x alive is =
    any_map (has_pair a b) (fill st.words) (sides st.stands.equations) ∙
    any_imp (any (is_variable x)) (λ s. has_pair a b (fill st.words s)) (pair_side a b u st.words x is) (sides st.stands.equations) alive

-- blocks

module _ (a n c : ℕ) (two : 2 ≤ n) where
  abbrev cut : ℕ → Word → Word
  cut k w = replace_blocks (λ l. eqb l a) a n c k w

  row_le : (k : ℕ) → length (row a n c k) ≤ k
  row_le k =
      cond_both (eqb k n) (c ∷ []) (replicate k a) (λ r. length r ≤ k)
      (λ e. omega (arith, eqb-true k n e)) (λ _. omega (arith, length-replicate k a))

  row_lt : (k : ℕ) → eqb n k ≡ true → length (row a n c k) < k
  row_lt k e =
      let same : n ≡ k = eqb-true n k e in
      let one : length (row a n c k) ≡ 1 = ap length (cond-true (eqb k n) (c ∷ []) (replicate k a) (eq-eqb k n (sym same))) in
      omega arith

  blocks_le' : (w : Word) (k : ℕ) → length (cut k w) ≤ k + length w
  blocks_le' [] k = omega (arith, row_le k)
  blocks_le' (x ∷ w) k =
      cond_both (eqb x a) (cut (suc k) w) (row a n c k ++ (x ∷ cut 0 w)) (λ r. length r ≤ k + suc (length w))
      (λ _. omega (arith, blocks_le' w (suc k)))
      (λ _. omega (arith, length-append (row a n c k) (x ∷ cut 0 w), row_le k, blocks_le' w 0))

  blocks_lt' : (w : Word) (k : ℕ) → any (eqb n) (row_lengths a k w) ≡ true → length (cut k w) < k + length w
  blocks_lt' [] k e = at (or_cases (eqb n k) false e)
    where
      at : (eqb n k ≡ true) ⊎ (false ≡ true) → length (row a n c k) < k + 0
      at (inl f) = omega (arith, row_lt k f)
      at (inr f) = absurd (false≢true f)
  blocks_lt' (x ∷ w) k e = go (λ f. blocks_lt' w (suc k) f) (λ f. blocks_lt' w 0 f) (eqb x a) e
    where
      apart : (any (eqb n) (row_lengths a 0 w) ≡ true → length (cut 0 w) < 0 + length w) → (eqb n k ≡ true) ⊎ (any (eqb n) (row_lengths a 0 w) ≡ true) → length (row a n c k ++ (x ∷ cut 0 w)) < k + suc (length w)
      apart there (inl f) = omega (arith, length-append (row a n c k) (x ∷ cut 0 w), row_lt k f, blocks_le' w 0)
      apart there (inr f) = omega (arith, length-append (row a n c k) (x ∷ cut 0 w), row_le k, there f)

      go : (any (eqb n) (row_lengths a (suc k) w) ≡ true → length (cut (suc k) w) < suc k + length w) → (any (eqb n) (row_lengths a 0 w) ≡ true → length (cut 0 w) < 0 + length w) → (t : Bool) → any (eqb n) (cond t (row_lengths a (suc k) w) (k ∷ row_lengths a 0 w)) ≡ true → length (cond t (cut (suc k) w) (row a n c k ++ (x ∷ cut 0 w))) < k + suc (length w)
      go here there true f = omega (arith, here f)
      go here there false f = apart there (or_cases (eqb n k) (any (eqb n) (row_lengths a 0 w)) f)

  pub blocks_le : (w : Word) → length (word_blocks a n c w) ≤ length w
  blocks_le w = omega (arith, blocks_le' w 0)

  pub blocks_lt : (w : Word) → has_row a n w ≡ true → length (word_blocks a n c w) < length w
  blocks_lt w e = omega (arith, blocks_lt' w 0 e)

  -- a word that neither begins nor ends with a stays so

  empty-++ : (u v : Word) → empty v ≡ false → empty (u ++ v) ≡ false
  empty-++ [] v e = e
  empty-++ (l ∷ u) v e = refl

  row_none : row a n c 0 ≡ []
  row_none = cond-false (eqb 0 n) (c ∷ []) [] (ne_eqb 0 n (λ e. omega arith))

  ends_blocks : (w : Word) (k : ℕ) → empty w ≡ false → ends a w ≡ false → (ends a (cut k w) ≡ false) × (empty (cut k w) ≡ false)
  ends_blocks [] k full e = absurd (true≢false full)
  ends_blocks (x ∷ []) k full e =
      cond_both (eqb x a) (row a n c (suc k)) (row a n c k ++ (x ∷ row a n c 0)) (λ r. (ends a r ≡ false) × (empty r ≡ false))
      (λ f. absurd (both_ways (eqb x a) e f))
      (λ _. (ap (λ r. ends a (row a n c k ++ (x ∷ r))) row_none ∙ ends-++ a (row a n c k) (x ∷ []) refl ∙ e, empty-++ (row a n c k) (x ∷ row a n c 0) refl))
  ends_blocks (x ∷ (y ∷ w)) k full e =
      cond_both (eqb x a) (cut (suc k) (y ∷ w)) (row a n c k ++ (x ∷ cut 0 (y ∷ w))) (λ r. (ends a r ≡ false) × (empty r ≡ false))
      (λ _. ends_blocks (y ∷ w) (suc k) refl e)
      (λ _. let rest = ends_blocks (y ∷ w) 0 refl e in
      (ends-++ a (row a n c k) (x ∷ cut 0 (y ∷ w)) refl ∙ ends-++ a (x ∷ []) (cut 0 (y ∷ w)) rest.1 ∙ rest.0, empty-++ (row a n c k) (x ∷ cut 0 (y ∷ w)) refl))

  begins_blocks : (w : Word) → empty w ≡ false → begins a w ≡ false → begins a (word_blocks a n c w) ≡ false
  begins_blocks [] full e = absurd (true≢false full)
  begins_blocks (x ∷ w) full e =
      cond_both (eqb x a) (cut 1 w) (row a n c 0 ++ (x ∷ cut 0 w)) (λ r. begins a r ≡ false)
      (λ f. absurd (both_ways (eqb x a) e f))
      (λ _. ap (λ r. begins a (r ++ (x ∷ cut 0 w))) row_none ∙ e)

  pub bare_blocks : (w : Word) → (empty w ≡ false) × (begins a w ≡ false) × (ends a w ≡ false) → (empty (word_blocks a n c w) ≡ false) × (begins a (word_blocks a n c w) ≡ false) × (ends a (word_blocks a n c w) ≡ false)
  bare_blocks w h = let e = ends_blocks w 0 h.0 h.2 in (e.1, begins_blocks w h.0 h.1, e.0)

  -- rows of another length stay

  row_of_rows : (k j : ℕ) (w : Word) → row_lengths a j (replicate k a ++ w) ≡ row_lengths a (j + k) w
  row_of_rows zero j w = ap (λ i. row_lengths a i w) (omega arith)
  row_of_rows (suc k) j w = cond-true (eqb a a) (row_lengths a (suc j) (replicate k a ++ w)) (j ∷ row_lengths a 0 (replicate k a ++ w)) (eq-eqb a a refl) ∙ row_of_rows k (suc j) w ∙ ap (λ i. row_lengths a i w) (omega arith)

  module _ (m : ℕ) (other : m ≢ n) (new : c ≢ a) where
    -- after the row of k there comes no a
    rows_after_row : (k : ℕ) (w : Word) (more : List ℕ) → ((j : ℕ) → row_lengths a j w ≡ j ∷ more) → (eqb m k || any (eqb m) more) ≡ true → any (eqb m) (row_lengths a 0 (row a n c k ++ w)) ≡ true
    rows_after_row k w more is e =
        cond_both (eqb k n) (c ∷ []) (replicate k a) (λ r. any (eqb m) (row_lengths a 0 (r ++ w)) ≡ true)
        (λ f. ap (any (eqb m)) (cond-false (eqb c a) (row_lengths a 1 w) (0 ∷ row_lengths a 0 w) (ne_eqb c a new) ∙ ap (λ r. 0 ∷ r) (is 0)) ∙
        or_right (eqb m 0) (eqb m 0 || any (eqb m) more) (or_right (eqb m 0) (any (eqb m) more) (later f (or_cases (eqb m k) (any (eqb m) more) e))))
        (λ _. ap (any (eqb m)) (row_of_rows k 0 w ∙ is (0 + k)) ∙ ap (λ i. eqb m i || any (eqb m) more) (omega arith) ∙ e)
      where
        later : eqb k n ≡ true → (eqb m k ≡ true) ⊎ (any (eqb m) more ≡ true) → any (eqb m) more ≡ true
        later f (inl g) = absurd (other (eqb-true m k g ∙ eqb-true k n f))
        later f (inr g) = g

    rows_stay' : (w : Word) (k : ℕ) → any (eqb m) (row_lengths a k w) ≡ true → any (eqb m) (row_lengths a 0 (cut k w)) ≡ true
    rows_stay' [] k e = ap (λ r. any (eqb m) (row_lengths a 0 r)) (sym (append-nil (row a n c k))) ∙ rows_after_row k [] [] (λ j. refl) e
    rows_stay' (x ∷ w) k e = go (λ f. rows_stay' w (suc k) f) (λ f. rows_stay' w 0 f) (eqb x a) refl e
      where
        go : (any (eqb m) (row_lengths a (suc k) w) ≡ true → any (eqb m) (row_lengths a 0 (cut (suc k) w)) ≡ true) → (any (eqb m) (row_lengths a 0 w) ≡ true → any (eqb m) (row_lengths a 0 (cut 0 w)) ≡ true) → (t : Bool) → eqb x a ≡ t → any (eqb m) (cond t (row_lengths a (suc k) w) (k ∷ row_lengths a 0 w)) ≡ true → any (eqb m) (row_lengths a 0 (cond t (cut (suc k) w) (row a n c k ++ (x ∷ cut 0 w)))) ≡ true
        go here there true is f = here f
        go here there false is f =
            rows_after_row k (x ∷ cut 0 w) (row_lengths a 0 (cut 0 w)) (λ j. cond-false (eqb x a) (row_lengths a (suc j) (cut 0 w)) (j ∷ row_lengths a 0 (cut 0 w)) is)
            (split (or_cases (eqb m k) (any (eqb m) (row_lengths a 0 w)) f))
          where
            split : (eqb m k ≡ true) ⊎ (any (eqb m) (row_lengths a 0 w) ≡ true) → (eqb m k || any (eqb m) (row_lengths a 0 (cut 0 w))) ≡ true
            split (inl g) = or_left (eqb m k) (any (eqb m) (row_lengths a 0 (cut 0 w))) g
            split (inr g) = or_right (eqb m k) (any (eqb m) (row_lengths a 0 (cut 0 w))) (there g)

    pub rows_stay : (ws : List Word) → any (has_row a m) ws ≡ true → any (has_row a m) (map (word_blocks a n c) ws) ≡ true
    rows_stay ws e = any_map (has_row a m) (word_blocks a n c) ws ∙ any_imp (has_row a m) (λ w. has_row a m (word_blocks a n c w)) (λ w. rows_stay' w 0) ws e
