-- The lengths of the blocks are those of the maximal rows. Assumes nothing.
use Rattle.std.proofs.Common.{◌≡◌, ℕ, zero, suc, ◌+◌, ◌<◌, ◌≤◌, Bool, true, false, cond, eqb, ◌⊎◌, List, [], ◌∷◌, ◌++◌, length, replicate, sym, refl, ap, ◌∙◌, subst, ap₂, inl, inr, append_assoc, arith, length-append}
use lib.ListN.{length-replicate}
use Rattle.std.specs.List.{AllByRecursion}
use Rattle.std.proofs.lemmas.Bool.{cond_both, cond-true, cond-false, both_ways, eqb-true, eq-eqb, or_left, or_right, or_cases, false≢true}
use Rattle.model.specs.Spelling.{Word}
use Rattle.systems.specs.Fitting.{EndsWith, BeginsWith}
use Rattle.systems.specs.Rows.{any}
use Rattle.writing.specs.Writer.{begins, ends, empty, front, rest, letters, from, MaximalRow, InSome, Rising, RowLengths}
use Rattle.writing.specs.Counting.{row_lengths, has_row, keep, counted_lengths}
use Rattle.writing.proofs.Lists.{ends_true, begins_true, ends-++, is_ended, is_begun, from_has}

-- rows

replicate_end : (a k : ℕ) (w : Word) → replicate k a ++ (a ∷ w) ≡ a ∷ (replicate k a ++ w)
replicate_end a zero w = refl
replicate_end a (suc k) w = ap (λ r. a ∷ r) (replicate_end a k w)

module _ (a n : ℕ) where
  -- the row of k times a that stands first
  here : (k : ℕ) (w : Word) → n ≡ k → begins a w ≡ false → MaximalRow a n (replicate k a ++ w)
  here k w e f = record {
    before = [];
    behind = w;
    is = ap (λ m. replicate m a ++ w) (sym e);
    not_before = λ h. both_ways (ends a []) refl (is_ended a [] h);
    not_behind = λ h. both_ways (begins a w) f (is_begun a w h);
  }

  there : (u : Word) (x : ℕ) (w : Word) → eqb x a ≡ false → MaximalRow a n w → MaximalRow a n (u ++ (x ∷ w))
  there u x w f r = record {
    before = u ++ (x ∷ r.before);
    behind = r.behind;
    is = ap (λ v. u ++ (x ∷ v)) r.is ∙ sym (append_assoc u (x ∷ r.before) (replicate n a ++ r.behind));
    not_before = λ h. at r.before r.not_before (sym (ends-++ a u (x ∷ r.before) refl) ∙ is_ended a (u ++ (x ∷ r.before)) h);
    not_behind = r.not_behind;
  }
    where
      at : (v : Word) → (EndsWith a v → ⊥) → ends a (x ∷ v) ≡ true → ⊥
      at [] h e = both_ways (eqb x a) f e
      at (y ∷ v) h e = h (front (y ∷ v), ends_true a (y ∷ v) e)

  found : (w : Word) (k : ℕ) → any (eqb n) (row_lengths a k w) ≡ true → MaximalRow a n (replicate k a ++ w)
  found [] k e = at (or_cases (eqb n k) false e)
    where
      at : (eqb n k ≡ true) ⊎ (false ≡ true) → MaximalRow a n (replicate k a ++ [])
      at (inl f) = here k [] (eqb-true n k f) refl
      at (inr f) = absurd (false≢true f)
  found (x ∷ w) k e = go (λ f. found w (suc k) f) (λ f. found w 0 f) (eqb x a) refl e
    where
      go : (any (eqb n) (row_lengths a (suc k) w) ≡ true → MaximalRow a n (replicate (suc k) a ++ w)) → (any (eqb n) (row_lengths a 0 w) ≡ true → MaximalRow a n w) → (t : Bool) → eqb x a ≡ t → any (eqb n) (cond t (row_lengths a (suc k) w) (k ∷ row_lengths a 0 w)) ≡ true → MaximalRow a n (replicate k a ++ (x ∷ w))
      go same other true is f = subst (MaximalRow a n) (sym (replicate_end a k w) ∙ ap (λ l. replicate k a ++ (l ∷ w)) (sym (eqb-true x a is))) (same f)
      go same other false is f = split (or_cases (eqb n k) (any (eqb n) (row_lengths a 0 w)) f)
        where
          split : (eqb n k ≡ true) ⊎ (any (eqb n) (row_lengths a 0 w) ≡ true) → MaximalRow a n (replicate k a ++ (x ∷ w))
          split (inl g) = here k (x ∷ w) (eqb-true n k g) is
          split (inr g) = there (replicate k a) x w is (other g)

  first_row : (m : ℕ) (w : Word) → begins a w ≡ false → n ≡ m → any (eqb n) (row_lengths a m w) ≡ true
  first_row m [] f e = or_left (eqb n m) false (eq-eqb n m e)
  first_row m (x ∷ w) f e =
      ap (any (eqb n)) (cond-false (eqb x a) (row_lengths a (suc m) w) (m ∷ row_lengths a 0 w) f) ∙ or_left (eqb n m) (any (eqb n) (row_lengths a 0 w)) (eq-eqb n m e)

  row_on : (k j : ℕ) (w : Word) → row_lengths a j (replicate k a ++ w) ≡ row_lengths a (j + k) w
  row_on zero j w = ap (λ i. row_lengths a i w) (omega arith)
  row_on (suc k) j w = cond-true (eqb a a) (row_lengths a (suc j) (replicate k a ++ w)) (j ∷ row_lengths a 0 (replicate k a ++ w)) (eq-eqb a a refl) ∙ row_on k (suc j) w ∙ ap (λ i. row_lengths a i w) (omega arith)

  counted : (w : Word) → begins a w ≡ false → (u : Word) (k : ℕ) → (empty u ≡ true → k ≡ 0) → ends a u ≡ false → any (eqb n) (row_lengths a k (u ++ (replicate n a ++ w))) ≡ true
  counted w f [] k start e = ap (any (eqb n)) (row_on n k w) ∙ first_row (k + n) w f (let z : k ≡ 0 = start refl in omega arith)
  counted w f (x ∷ u) k start e = go (λ s g. counted w f u (suc k) s g) (λ g. counted w f u 0 (λ _. refl) g) (eqb x a) refl
    where
      rest_end : (v : Word) → ends a (x ∷ v) ≡ false → ends a v ≡ false
      rest_end [] g = refl
      rest_end (y ∷ v) g = g

      not_last : (v : Word) → eqb x a ≡ true → ends a (x ∷ v) ≡ false → empty v ≡ true → suc k ≡ 0
      not_last [] is g _ = absurd (both_ways (eqb x a) g is)
      not_last (y ∷ v) is g full = absurd (false≢true full)

      go : ((empty u ≡ true → suc k ≡ 0) → ends a u ≡ false → any (eqb n) (row_lengths a (suc k) (u ++ (replicate n a ++ w))) ≡ true) → (ends a u ≡ false → any (eqb n) (row_lengths a 0 (u ++ (replicate n a ++ w))) ≡ true) → (t : Bool) → eqb x a ≡ t → any (eqb n) (cond t (row_lengths a (suc k) (u ++ (replicate n a ++ w))) (k ∷ row_lengths a 0 (u ++ (replicate n a ++ w)))) ≡ true
      go same other true is = same (not_last u is e) (rest_end u e)
      go same other false is = or_right (eqb n k) (any (eqb n) (row_lengths a 0 (u ++ (replicate n a ++ w)))) (other (rest_end u e))

  no_begin : (w : Word) → (BeginsWith a w → ⊥) → (t : Bool) → begins a w ≡ t → begins a w ≡ false
  no_begin w h true e = absurd (h (rest w, begins_true a w e))
  no_begin w h false e = e

  no_end : (w : Word) → (EndsWith a w → ⊥) → (t : Bool) → ends a w ≡ t → ends a w ≡ false
  no_end w h true e = absurd (h (front w, ends_true a w e))
  no_end w h false e = e

  has_maximal : (w : Word) → MaximalRow a n w → has_row a n w ≡ true
  has_maximal w r =
      ap (has_row a n) r.is ∙
      counted r.behind (no_begin r.behind r.not_behind (begins a r.behind) refl) r.before 0 (λ _. refl) (no_end r.before r.not_before (ends a r.before) refl)

  short : (w : Word) → MaximalRow a n w → n ≤ length w
  short w r =
      let long : length w ≡ length (r.before ++ (replicate n a ++ r.behind)) = ap length r.is in
      omega (arith, length-append r.before (replicate n a ++ r.behind), length-append (replicate n a) r.behind, length-replicate n a)

  some_found : (ws : List Word) → any (has_row a n) ws ≡ true → InSome (MaximalRow a n) ws
  some_found [] e = absurd (false≢true e)
  some_found (w ∷ ws) e = split (λ f. some_found ws f) (or_cases (has_row a n w) (any (has_row a n) ws) e)
    where
      split : (any (has_row a n) ws ≡ true → InSome (MaximalRow a n) ws) → (has_row a n w ≡ true) ⊎ (any (has_row a n) ws ≡ true) → MaximalRow a n w ⊎ InSome (MaximalRow a n) ws
      split more (inl f) = inl (found w 0 f)
      split more (inr f) = inr (more f)

  some_counted : (ws : List Word) → InSome (MaximalRow a n) ws → (any (has_row a n) ws ≡ true) × (n ≤ letters ws)
  some_counted [] h = absurd h
  some_counted (w ∷ ws) (inl r) = (or_left (has_row a n w) (any (has_row a n) ws) (has_maximal w r), omega (arith, short w r))
  some_counted (w ∷ ws) (inr h) = let k = some_counted ws h in (or_right (has_row a n w) (any (has_row a n) ws) k.0, omega (arith, k.1))

-- what is kept of rising numbers

module _ (p : ℕ → Bool) where
  keep_above : (count k j : ℕ) → j < k → AllByRecursion (λ m. j < m) (keep p (from k count))
  keep_above zero k j lt = tt
  keep_above (suc count) k j lt =
      cond_both (p k) (k ∷ keep p (from (suc k) count)) (keep p (from (suc k) count)) (AllByRecursion (λ m. j < m))
      (λ _. (lt, keep_above count (suc k) j (omega arith))) (λ _. keep_above count (suc k) j (omega arith))

  keep_rising : (count k : ℕ) → Rising (keep p (from k count))
  keep_rising zero k = tt
  keep_rising (suc count) k =
      cond_both (p k) (k ∷ keep p (from (suc k) count)) (keep p (from (suc k) count)) Rising
      (λ _. (keep_above count (suc k) k (omega arith), keep_rising count (suc k))) (λ _. keep_rising count (suc k))

  kept : (n count k : ℕ) → any (eqb n) (keep p (from k count)) ≡ true → (k ≤ n) × (p n ≡ true)
  kept n zero k e = absurd (false≢true e)
  kept n (suc count) k e = go (λ f. kept n count (suc k) f) (p k) refl e
    where
      go : (any (eqb n) (keep p (from (suc k) count)) ≡ true → (suc k ≤ n) × (p n ≡ true)) → (t : Bool) → p k ≡ t → any (eqb n) (cond t (k ∷ keep p (from (suc k) count)) (keep p (from (suc k) count))) ≡ true → (k ≤ n) × (p n ≡ true)
      go more true is f = split (or_cases (eqb n k) (any (eqb n) (keep p (from (suc k) count))) f)
        where
          split : (eqb n k ≡ true) ⊎ (any (eqb n) (keep p (from (suc k) count)) ≡ true) → (k ≤ n) × (p n ≡ true)
          split (inl g) = (omega (arith, eqb-true n k g), ap p (eqb-true n k g) ∙ is)
          split (inr g) = let h = more g in (omega (arith, h.0), h.1)
      go more false is f = let h = more f in (omega (arith, h.0), h.1)

  keeps : (n : ℕ) → p n ≡ true → (ns : List ℕ) → any (eqb n) ns ≡ true → any (eqb n) (keep p ns) ≡ true
  keeps n e [] f = f
  keeps n e (m ∷ ns) f = go (λ g. keeps n e ns g) (p m) refl (or_cases (eqb n m) (any (eqb n) ns) f)
    where
      go : (any (eqb n) ns ≡ true → any (eqb n) (keep p ns) ≡ true) → (t : Bool) → p m ≡ t → (eqb n m ≡ true) ⊎ (any (eqb n) ns ≡ true) → any (eqb n) (cond t (m ∷ keep p ns) (keep p ns)) ≡ true
      go more true is (inl g) = or_left (eqb n m) (any (eqb n) (keep p ns)) g
      go more true is (inr g) = or_right (eqb n m) (any (eqb n) (keep p ns)) (more g)
      go more false is (inl g) = absurd (both_ways (p m) is (subst (λ z. p z ≡ true) (eqb-true n m g) e))
      go more false is (inr g) = more g

-- the lengths up to a bound that is no less than all letters
pub rows_up_to : (a : ℕ) (ws : List Word) (count : ℕ) → letters ws ≤ suc count → RowLengths a ws (keep (λ n. any (has_row a n) ws) (from 2 count))
rows_up_to a ws count all = record {
  rising = keep_rising (λ n. any (has_row a n) ws) count 2;
  rows = λ n e. (let h = kept (λ n. any (has_row a n) ws) n count 2 e in (h.0, some_found a n ws h.1));
  all_rows = λ n two some. (let h = some_counted a n ws some in keeps (λ n. any (has_row a n) ws) n h.0 (from 2 count) (from_has n count 2 two (omega (arith, h.1, all))));
}

pub rows_counted : (a : ℕ) (ws : List Word) → RowLengths a ws (counted_lengths a ws)
rows_counted a ws = rows_up_to a ws (letters ws) (omega arith)

-- there are no others

above : (n : ℕ) (ms : List ℕ) → AllByRecursion (λ m. n < m) ms → (k : ℕ) → any (eqb k) ms ≡ true → n < k
above n [] h k e = absurd (false≢true e)
above n (m ∷ ms) h k e = split (λ f. above n ms h.1 k f) (or_cases (eqb k m) (any (eqb k) ms) e)
  where
    split : (any (eqb k) ms ≡ true → n < k) → (eqb k m ≡ true) ⊎ (any (eqb k) ms ≡ true) → n < k
    split more (inl f) = subst (λ z. n < z) (sym (eqb-true k m f)) h.0
    split more (inr f) = more f

abbrev Among : List ℕ → List ℕ → Type 0
Among ns ms = (k : ℕ) → any (eqb k) ns ≡ true → any (eqb k) ms ≡ true

at_head : (n : ℕ) (ns : List ℕ) → any (eqb n) (n ∷ ns) ≡ true
at_head n ns = or_left (eqb n n) (any (eqb n) ns) (eq-eqb n n refl)

not_below : (n m : ℕ) (ns ms : List ℕ) → Rising (m ∷ ms) → Among (n ∷ ns) (m ∷ ms) → m ≤ n
not_below n m ns ms rising in_both = split (or_cases (eqb n m) (any (eqb n) ms) (in_both n (at_head n ns)))
  where
    split : (eqb n m ≡ true) ⊎ (any (eqb n) ms ≡ true) → m ≤ n
    split (inl e) = omega (arith, eqb-true n m e)
    split (inr there) = omega (arith, above m ms rising.0 n there)

rest_among : (n m : ℕ) (ns ms : List ℕ) → m ≤ n → Rising (n ∷ ns) → Among (n ∷ ns) (m ∷ ms) → Among ns ms
rest_among n m ns ms le rising in_both k over = split (or_cases (eqb k m) (any (eqb k) ms) (in_both k (or_right (eqb k n) (any (eqb k) ns) over)))
  where
    split : (eqb k m ≡ true) ⊎ (any (eqb k) ms ≡ true) → any (eqb k) ms ≡ true
    split (inl e) = let same : k ≡ m = eqb-true k m e in absurd (omega (arith, above n ns rising.0 k over))
    split (inr f) = f

rising_same : (ns ms : List ℕ) → Rising ns → Rising ms → Among ns ms → Among ms ns → ns ≡ ms
rising_same [] [] h k over back = refl
rising_same [] (m ∷ ms) h k over back = absurd (false≢true (back m (at_head m ms)))
rising_same (n ∷ ns) [] h k over back = absurd (false≢true (over n (at_head n ns)))
rising_same (n ∷ ns) (m ∷ ms) h k over back =
    let down : m ≤ n = not_below n m ns ms k over in
    let up : n ≤ m = not_below m n ms ns h back in
    let same : n ≡ m = omega arith in
    ap₂ (λ l r. l ∷ r) same (rising_same ns ms h.1 k.1 (rest_among n m ns ms down h over) (rest_among m n ms ns up k back))

pub same_rows : (a : ℕ) (ws : List Word) (ns ms : List ℕ) → RowLengths a ws ns → RowLengths a ws ms → ns ≡ ms
same_rows a ws ns ms p q =
    rising_same ns ms p.rising q.rising (λ k e. let h = p.rows k e in q.all_rows k h.0 h.1) (λ k e. let h = q.rows k e in p.all_rows k h.0 h.1)
