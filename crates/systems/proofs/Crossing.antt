-- Where no occurrence crosses, a side may be filled before its pairs or its blocks are replaced, or after. Assumes nothing.
use Rattle.std.proofs.Common.{◌≡◌, ℕ, zero, suc, ◌≤◌, false, ◌&&◌, eqb, ◌⊎◌, [], ◌∷◌, ◌++◌, length, replicate, sym, refl, ap, ◌∙◌, subst, ap₂, inl, inr, append_assoc, append-nil, arith, length-append}
use Rattle.std.proofs.lemmas.Bool.{eqb-true, cases_eq, and_right, cond-false}
use Rattle.model.specs.Spelling.{Word}
use Rattle.model.proofs.Spelling.{joined-++}
use Rattle.systems.specs.declared.Place.{Place}
use Rattle.systems.specs.declared.Place.TheVariants.{Letter, Variable}
use Rattle.systems.specs.Fitting.{EndsWith, BeginsWith, Crosses}
use Rattle.systems.specs.Rows.{row, replace_blocks}
use Rattle.systems.specs.Sides.{Side, is_letter, Words, filled, fill, word_pairs, side_pairs, word_blocks, side_blocks}
use Rattle.systems.proofs.Replacing.{Apart, pairs_apart, row_zero, row_apart, blocks_apart}
use Rattle.systems.proofs.Rows.{cond_under}

module _ (a b : ℕ) (τ : Words) where
  -- the cut behind a variable, and the cut behind a letter with a variable next
  behind_variable : (x : ℕ) (rest : Side) → EndsWith a (τ x) → BeginsWith b (fill τ rest) → Crosses a b τ (Variable x ∷ rest)
  behind_variable x rest ends begins = record {
    before = Variable x ∷ [];
    behind = rest;
    cut = refl;
    beside = inl (x, ([], refl));
    ends = (ends.0, append-nil (τ x) ∙ ends.1);
    begins = begins;
  }

  behind_letter : (l x : ℕ) (rest more : Side) → rest ≡ Variable x ∷ more → l ≡ a → BeginsWith b (fill τ rest) → Crosses a b τ (Letter l ∷ rest)
  behind_letter l x rest more e same begins = record {
    before = Letter l ∷ [];
    behind = rest;
    cut = refl;
    beside = inr (x, (more, e));
    ends = ([], ap (λ r. r ∷ []) same);
    begins = begins;
  }

  -- what crosses in the rest of a side crosses in the side
  pub shorter : (place : Place) (side : Side) → Crosses a b τ side → Crosses a b τ (place ∷ side)
  shorter place side k = record {
    before = place ∷ k.before;
    behind = k.behind;
    cut = ap (λ r. place ∷ r) k.cut;
    beside = deeper k.beside;
    ends = (filled τ place ++ k.ends.0, ap (λ r. filled τ place ++ r) k.ends.1 ∙ sym (append_assoc (filled τ place) k.ends.0 (a ∷ [])));
    begins = k.begins;
  }
    where
      deeper : ((x : ℕ) × EndsWith (Variable x) k.before) ⊎ ((x : ℕ) × BeginsWith (Variable x) k.behind) → ((x : ℕ) × EndsWith (Variable x) (place ∷ k.before)) ⊎ ((x : ℕ) × BeginsWith (Variable x) k.behind)
      deeper (inl e) = inl (e.0, (place ∷ e.1.0, ap (λ r. place ∷ r) e.1.1))
      deeper (inr e) = inr e

only : (a l : ℕ) (u : Word) → l ∷ [] ≡ u ++ (a ∷ []) → l ≡ a
only a l [] e = cc
only a l (y ∷ u) e = let long : ◌≡◌ {A = ℕ} 1 (suc (length (u ++ (a ∷ [])))) = ap length e in absurd (omega (arith, length-append u (a ∷ [])))

words_apart : (a b : ℕ) (u v : Word) → (EndsWith a u → BeginsWith b v → ⊥) → Apart (λ l. eqb l a) (λ l. eqb l b) u v
words_apart a b u v h x y ends begins ex ey = h (subst (λ z. EndsWith z u) (eqb-true x a ex) ends) (subst (λ z. BeginsWith z v) (eqb-true y b ey) begins)

-- pairs

module _ (a b c : ℕ) where
  -- two words are replaced apart, unless one ends with a and the other begins with b
  pairs-++ : (u v : Word) → (EndsWith a u → BeginsWith b v → ⊥) → word_pairs a b c (u ++ v) ≡ word_pairs a b c u ++ word_pairs a b c v
  pairs-++ u v h = pairs_apart (λ l. eqb l a) (λ l. eqb l b) c u v (words_apart a b u v h)

  module _ (τ : Words) where
    abbrev paired : Words
    paired x = word_pairs a b c (τ x)

    pairs_side : (side : Side) → (Crosses a b τ side → ⊥) → fill paired (side_pairs a b c side) ≡ word_pairs a b c (fill τ side)
    pairs_side [] h = refl
    pairs_side (Letter l ∷ []) h = refl
    pairs_side (Variable x ∷ []) h = sym (pairs-++ (τ x) [] (λ ends begins. h (behind_variable a b τ x [] ends begins)))
    pairs_side (Letter l ∷ (Letter m ∷ rest)) h =
        cond_under (fill paired) (eqb l a && eqb m b)
        (Letter c ∷ side_pairs a b c rest) (Letter l ∷ side_pairs a b c (Letter m ∷ rest)) (c ∷ word_pairs a b c (fill τ rest)) (l ∷ word_pairs a b c (m ∷ fill τ rest))
        (λ _. ap (λ r. c ∷ r) (pairs_side rest (λ k. h (shorter a b τ (Letter l) (Letter m ∷ rest) (shorter a b τ (Letter m) rest k)))))
        (λ _. ap (λ r. l ∷ r) (pairs_side (Letter m ∷ rest) (λ k. h (shorter a b τ (Letter l) (Letter m ∷ rest) k))))
    pairs_side (Letter l ∷ (Variable x ∷ rest)) h =
        ap (fill paired) (cond-false (eqb l a && false) (Letter c ∷ side_pairs a b c rest) (Letter l ∷ side_pairs a b c (Variable x ∷ rest)) (and_right (eqb l a) false refl)) ∙
        ap (λ r. l ∷ r) (pairs_side (Variable x ∷ rest) (λ k. h (shorter a b τ (Letter l) (Variable x ∷ rest) k))) ∙
        sym (pairs-++ (l ∷ []) (fill τ (Variable x ∷ rest)) (λ ends begins. h (behind_letter a b τ l x (Variable x ∷ rest) rest refl (only a l ends.0 ends.1) begins)))
    pairs_side (Variable x ∷ (q ∷ rest)) h =
        ap (λ r. word_pairs a b c (τ x) ++ r) (pairs_side (q ∷ rest) (λ k. h (shorter a b τ (Variable x) (q ∷ rest) k))) ∙
        sym (pairs-++ (τ x) (fill τ (q ∷ rest)) (λ ends begins. h (behind_variable a b τ x (q ∷ rest) ends begins)))

-- to replace the pairs before the words are filled in is to replace them after
pub pairs_before_or_after : (a b c : ℕ) (τ : Words) (side : Side) → (Crosses a b τ side → ⊥) → fill (λ x. word_pairs a b c (τ x)) (side_pairs a b c side) ≡ word_pairs a b c (fill τ side)
pairs_before_or_after a b c τ side h = pairs_side a b c τ side h

-- blocks

begins? : (a : ℕ) (w : Word) → BeginsWith a w ⊎ (BeginsWith a w → ⊥)
begins? a [] = inr (λ h. let z : ◌≡◌ {A = ℕ} 0 1 = let e = h.1 in cc in omega arith)
begins? a (x ∷ w) = split (cases_eq x a)
  where
    split : (x ≡ a) ⊎ (x ≡ a → ⊥) → BeginsWith a (x ∷ w) ⊎ (BeginsWith a (x ∷ w) → ⊥)
    split (inl e) = inl (w, ap (λ r. r ∷ w) e)
    split (inr d) = inr (λ h. let e = h.1 in d (cc))

module _ (a n c : ℕ) (some : 1 ≤ n) where
  abbrev blocks : ℕ → Word → Word
  blocks k w = replace_blocks (λ l. eqb l a) a n c k w

  -- two words are replaced apart, unless one ends with a and the other begins with a
  blocks-++ : (u v : Word) → (EndsWith a u → BeginsWith a v → ⊥) → blocks 0 u ++ blocks 0 v ≡ blocks 0 (u ++ v)
  blocks-++ u v h = blocks_apart (λ l. eqb l a) a n c some u v (words_apart a a u v h)

  module _ (τ : Words) where
    abbrev blocked : Words
    blocked x = blocks 0 (τ x)

    abbrev place_blocks : ℕ → Side → Side
    place_blocks k side = replace_blocks (is_letter a) (Letter a) n (Letter c) k side

    fill_replicate : (k : ℕ) → fill blocked (replicate k (Letter a)) ≡ replicate k a
    fill_replicate zero = refl
    fill_replicate (suc k) = ap (λ r. a ∷ r) (fill_replicate k)

    fill_row : (k : ℕ) → fill blocked (row (Letter a) n (Letter c) k) ≡ row a n c k
    fill_row k = cond_under (fill blocked) (eqb k n) (Letter c ∷ []) (replicate k (Letter a)) (c ∷ []) (replicate k a) (λ _. refl) (λ _. fill_replicate k)

    -- k times a stand before the side, and nothing that is filled in at its start goes on with a, unless k is 0
    blocks_side : (side : Side) (k : ℕ) → (Crosses a a τ side → ⊥) → ((x : ℕ) (rest : Side) → side ≡ Variable x ∷ rest → BeginsWith a (fill τ side) → k ≡ 0) → fill blocked (place_blocks k side) ≡ blocks k (fill τ side)
    blocks_side [] k h start = fill_row k
    blocks_side (Letter l ∷ rest) k h start =
        let apart : Crosses a a τ rest → ⊥ = λ r. h (shorter a a τ (Letter l) rest r) in
        cond_under (fill blocked) (eqb l a) (place_blocks (suc k) rest) (row (Letter a) n (Letter c) k ++ (Letter l ∷ place_blocks 0 rest)) (blocks (suc k) (fill τ rest)) (row a n c k ++ (l ∷ blocks 0 (fill τ rest)))
        (λ e. blocks_side rest (suc k) apart (λ x more is begins. absurd (h (behind_letter a a τ l x rest more is (eqb-true l a e) begins))))
        (λ _. joined-++ (filled blocked) (row (Letter a) n (Letter c) k) (Letter l ∷ place_blocks 0 rest) ∙ ap₂ (λ u v. u ++ (l ∷ v)) (fill_row k) (blocks_side rest 0 apart (λ _ _ _ _. refl)))
    blocks_side (Variable x ∷ rest) k h start =
        joined-++ (filled blocked) (row (Letter a) n (Letter c) k) (Variable x ∷ place_blocks 0 rest) ∙
        ap₂ (λ u v. u ++ (blocks 0 (τ x) ++ v)) (fill_row k) (blocks_side rest 0 (λ r. h (shorter a a τ (Variable x) rest r)) (λ _ _ _ _. refl)) ∙
        ap (λ r. row a n c k ++ r) (blocks-++ (τ x) (fill τ rest) (λ ends begins. h (behind_variable a a τ x rest ends begins))) ∙
        closed (begins? a (fill τ (Variable x ∷ rest)))
      where
        closed : BeginsWith a (fill τ (Variable x ∷ rest)) ⊎ (BeginsWith a (fill τ (Variable x ∷ rest)) → ⊥) → row a n c k ++ blocks 0 (fill τ (Variable x ∷ rest)) ≡ blocks k (fill τ (Variable x ∷ rest))
        closed (inl begins) = rw (start x rest refl begins) (ap (λ r. r ++ blocks 0 (fill τ (Variable x ∷ rest))) (row_zero (λ l. eqb l a) a n c some))
        closed (inr other) = sym (row_apart (λ l. eqb l a) a n c some (fill τ (Variable x ∷ rest)) k (λ y begins e. other (subst (λ z. BeginsWith z (fill τ (Variable x ∷ rest))) (eqb-true y a e) begins)))

-- and so for blocks
pub blocks_before_or_after : (a n c : ℕ) (τ : Words) (side : Side) → 2 ≤ n → (Crosses a a τ side → ⊥) → fill (λ x. word_blocks a n c (τ x)) (side_blocks a n c side) ≡ word_blocks a n c (fill τ side)
blocks_before_or_after a n c τ side two h = let some : 1 ≤ n = omega arith in blocks_side a n c some τ side 0 h (λ _ _ _ _. refl)
