-- Two rows are replaced apart where no pair and no block reaches from one into the other. Assumes nothing.
use Rattle.std.proofs.Common.{◌≡◌, ℕ, zero, suc, ◌+◌, ◌≤◌, Bool, true, false, ◌&&◌, eqb, List, [], ◌∷◌, ◌++◌, replicate, sym, refl, ap, ◌∙◌, ap₂, append_assoc, append-nil, arith}
use Rattle.std.specs.List.{AllByRecursion}
use Rattle.std.proofs.lemmas.Bool.{ne_eqb, and_parts, cond-true, cond-false, cond_both}
use Rattle.systems.specs.Fitting.{EndsWith, BeginsWith}
use Rattle.systems.specs.Rows.{replace_pairs, row, replace_blocks}
use Rattle.systems.proofs.Rows.{cond_under}

pub later : {A : Type 0} (a x : A) (u : List A) → EndsWith a u → EndsWith a (x ∷ u)
later a x u e = (x ∷ e.0, ap (λ r. x ∷ r) e.1)

-- where u ends with what passes p, v does not begin with what passes q
abbrev pub Apart : {A : Type 0} → (A → Bool) → (A → Bool) → List A → List A → Type 0
Apart {A} p q u v = (x y : A) → EndsWith x u → BeginsWith y v → p x ≡ true → q y ≡ true → ⊥

apart_later : {A : Type 0} (p q : A → Bool) (x : A) (u v : List A) → Apart p q (x ∷ u) v → Apart p q u v
apart_later p q x u v h y z ends = h y z (later y x u ends)

module _ {A : Type 0} (p q : A → Bool) (c : A) where
  abbrev paired : List A → List A
  paired = replace_pairs p q c

  pub pairs_apart : (u v : List A) → Apart p q u v → paired (u ++ v) ≡ paired u ++ paired v
  pairs_apart [] v h = refl
  pairs_apart (x ∷ []) [] h = refl
  pairs_apart (x ∷ []) (y ∷ v) h =
      cond_both (p x && q y) (c ∷ paired v) (x ∷ paired (y ∷ v)) (λ r. r ≡ x ∷ paired (y ∷ v))
      (λ e. let parts = and_parts (p x) (q y) e in absurd (h x y ([], refl) (v, refl) parts.0 parts.1))
      (λ _. refl)
  pairs_apart (x ∷ (y ∷ u)) v h =
      let less : Apart p q (y ∷ u) v = apart_later p q x (y ∷ u) v h in
      sym (cond_under (λ r. r ++ paired v) (p x && q y)
      (c ∷ paired u) (x ∷ paired (y ∷ u)) (c ∷ paired (u ++ v)) (x ∷ paired (y ∷ (u ++ v)))
      (λ _. ap (λ r. c ∷ r) (sym (pairs_apart u v (apart_later p q y u v less))))
      (λ _. ap (λ r. x ∷ r) (sym (pairs_apart (y ∷ u) v less))))

  -- where no pair stands, nothing changes
  pub pairs_none : (xs : List A) → ((u v : List A) (x y : A) → xs ≡ u ++ (x ∷ y ∷ v) → p x ≡ true → q y ≡ true → ⊥) → paired xs ≡ xs
  pairs_none [] h = refl
  pairs_none (x ∷ []) h = refl
  pairs_none (x ∷ (y ∷ rest)) h =
      cond_both (p x && q y) (c ∷ paired rest) (x ∷ paired (y ∷ rest)) (λ r. r ≡ x ∷ (y ∷ rest))
      (λ e. let parts = and_parts (p x) (q y) e in absurd (h [] rest x y refl parts.0 parts.1))
      (λ _. ap (λ r. x ∷ r) (pairs_none (y ∷ rest) (λ u v z w e. h (x ∷ u) v z w (ap (λ r. x ∷ r) e))))

module _ {A : Type 0} (is_a : A → Bool) (a : A) (n : ℕ) (c : A) (some : 1 ≤ n) where
  abbrev blocked : ℕ → List A → List A
  blocked = replace_blocks is_a a n c

  pub row_zero : row a n c 0 ≡ []
  row_zero = cond-false (eqb 0 n) (c ∷ []) [] (ne_eqb 0 n (λ e. omega arith))

  -- what begins with no a leaves the row before it as it is
  pub row_apart : (v : List A) (k : ℕ) → ((y : A) → BeginsWith y v → is_a y ≡ true → ⊥) → blocked k v ≡ row a n c k ++ blocked 0 v
  row_apart [] k h = sym (ap (λ r. row a n c k ++ r) row_zero ∙ append-nil (row a n c k))
  row_apart (y ∷ v) k h = at k ∙ ap (λ r. row a n c k ++ r) (sym (at 0 ∙ ap (λ r. r ++ (y ∷ blocked 0 v)) row_zero))
    where
      at : (k : ℕ) → blocked k (y ∷ v) ≡ row a n c k ++ (y ∷ blocked 0 v)
      at k = cond_both (is_a y) (blocked (suc k) v) (row a n c k ++ (y ∷ blocked 0 v)) (λ r. r ≡ row a n c k ++ (y ∷ blocked 0 v)) (λ e. absurd (h y (v, refl) e)) (λ _. refl)

  blocks_more : (x : A) (u v : List A) (k : ℕ) → Apart is_a is_a (x ∷ u) v → blocked k (x ∷ u) ++ blocked 0 v ≡ blocked k (x ∷ (u ++ v))
  blocks_more x [] v k h =
      cond_under (λ r. r ++ blocked 0 v) (is_a x) (row a n c (suc k)) (row a n c k ++ (x ∷ row a n c 0)) (blocked (suc k) v) (row a n c k ++ (x ∷ blocked 0 v))
      (λ e. sym (row_apart v (suc k) (λ y begins. h x y ([], refl) begins e)))
      (λ _. append_assoc (row a n c k) (x ∷ row a n c 0) (blocked 0 v) ∙ ap (λ r. row a n c k ++ (x ∷ (r ++ blocked 0 v))) row_zero)
  blocks_more x (y ∷ u) v k h =
      let less : Apart is_a is_a (y ∷ u) v = apart_later is_a is_a x (y ∷ u) v h in
      cond_under (λ r. r ++ blocked 0 v) (is_a x) (blocked (suc k) (y ∷ u)) (row a n c k ++ (x ∷ blocked 0 (y ∷ u))) (blocked (suc k) (y ∷ (u ++ v))) (row a n c k ++ (x ∷ blocked 0 (y ∷ (u ++ v))))
      (λ _. blocks_more y u v (suc k) less)
      (λ _. append_assoc (row a n c k) (x ∷ blocked 0 (y ∷ u)) (blocked 0 v) ∙ ap (λ r. row a n c k ++ (x ∷ r)) (blocks_more y u v 0 less))

  pub blocks_apart : (u v : List A) → Apart is_a is_a u v → blocked 0 u ++ blocked 0 v ≡ blocked 0 (u ++ v)
  blocks_apart [] v h = ap (λ r. r ++ blocked 0 v) row_zero
  blocks_apart (x ∷ u) v h = blocks_more x u v 0 h

  -- a row of a alone, and one without a
  blocks_row : is_a a ≡ true → (k j : ℕ) → blocked j (replicate k a) ≡ row a n c (j + k)
  blocks_row is zero j = ap (row a n c) (omega arith)
  blocks_row is (suc k) j = cond-true (is_a a) (blocked (suc j) (replicate k a)) (row a n c j ++ (a ∷ blocked 0 (replicate k a))) is ∙ blocks_row is k (suc j) ∙ ap (row a n c) (omega arith)

  pub row_alone : is_a a ≡ true → (k : ℕ) → blocked 0 (replicate k a) ≡ row a n c k
  row_alone is k = blocks_row is k 0 ∙ ap (row a n c) (omega arith)

  pub blocks_none : (xs : List A) → AllByRecursion (λ x. is_a x ≡ false) xs → blocked 0 xs ≡ xs
  blocks_none [] h = row_zero
  blocks_none (x ∷ xs) h = cond-false (is_a x) (blocked 1 xs) (row a n c 0 ++ (x ∷ blocked 0 xs)) h.0 ∙ ap₂ (λ u v. u ++ (x ∷ v)) row_zero (blocks_none xs h.1)
