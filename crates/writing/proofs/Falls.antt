-- Each choice that is sure makes less: the letters of the filled-in sides, those of the words, or the live variables. Assumes nothing.
use Rattle.std.proofs.Common.{◌≡◌, ℕ, suc, ◌+◌, ◌<◌, ◌≤◌, Bool, true, false, cond, eqb, ◌⊎◌, [], ◌∷◌, ◌++◌, map, length, sym, refl, ap, subst, inl, inr, arith, length-append}
use Rattle.std.proofs.lemmas.Bool.{cond-true, cond-false, cases_eq, false≢true}
use Rattle.systems.specs.declared.Choice.{Choice}
use Rattle.systems.specs.declared.Choice.TheVariants.{Left, Right, Erase, Pair, Block}
use Rattle.systems.specs.declared.Pop.TheVariants.{AtLeft, AtRight}
use Rattle.systems.specs.Rows.{any}
use Rattle.systems.specs.Sides.{word_pairs, word_blocks}
use Rattle.systems.specs.Standings.{fresh}
use Rattle.systems.proofs.Living.{erased_gone}
use Rattle.writing.specs.Counts.{word_letters, live_count, weight}
use Rattle.writing.specs.Writer.{State, lives, next, from, variables, filled_sides, letters}
use Rattle.writing.proofs.Filled.{filled_next, pairs_le, blocks_le}
use Rattle.writing.proofs.Lists.{total_le, total_lt, from_has}
use Rattle.writing.proofs.Parts.{Sure, lives_before}

-- A to Z are the numbers below 26; the number is kept shut
pub all_variables : (n : ℕ) × ((variables ≡ from 0 n) × (n ≡ 26))
unfolding variables
all_variables = (26, (refl, refl))

pub in_variables : (x : ℕ) → x < 26 → any (eqb x) variables ≡ true
unfolding variables
in_variables x lt = from_has x 26 0 (omega arith) (omega arith)

shrinks : (st : State) (choice : Choice) → Sure st choice → (y : ℕ) → length ((next st choice).words y) ≤ length (st.words y)
shrinks st (Left x a) sure y = split (cases_eq y x)
  where
    split : (y ≡ x) ⊎ (y ≡ x → ⊥) → length ((next st (Left x a)).words y) ≤ length (st.words y)
    split (inl e) =
        let long : length (st.words x) ≡ suc (length ((next st (Left x a)).words x)) = ap length sure.0.1 in
        let le : length ((next st (Left x a)).words x) ≤ length (st.words x) = omega arith in
        subst (λ z. length ((next st (Left x a)).words z) ≤ length (st.words z)) (sym e) le
    split (inr d) = let same : length ((next st (Left x a)).words y) ≡ length (st.words y) = ap length (sure.0.2 y d) in omega arith
shrinks st (Right x a) sure y = split (cases_eq y x)
  where
    split : (y ≡ x) ⊎ (y ≡ x → ⊥) → length ((next st (Right x a)).words y) ≤ length (st.words y)
    split (inl e) =
        let long : length (st.words x) ≡ length ((next st (Right x a)).words x ++ (a ∷ [])) = ap length sure.0.1 in
        let le : length ((next st (Right x a)).words x) ≤ length (st.words x) = omega (arith, length-append ((next st (Right x a)).words x) (a ∷ [])) in
        subst (λ z. length ((next st (Right x a)).words z) ≤ length (st.words z)) (sym e) le
    split (inr d) = let same : length ((next st (Right x a)).words y) ≡ length (st.words y) = ap length (sure.0.2 y d) in omega arith
shrinks st (Erase x) sure y = omega arith
shrinks st (Pair a b) sure y = pairs_le a b (fresh st.stands) (st.words y)
shrinks st (Block a n) sure y = blocks_le a n (fresh st.stands) sure.0.1 (st.words y)

cond_le : (t t' : Bool) (m m' : ℕ) → (t' ≡ true → t ≡ true) → m' ≤ m → cond t' m' 0 ≤ cond t m 0
cond_le true true m m' h le = le
cond_le true false m m' h le = omega arith
cond_le false true m m' h le = absurd (false≢true (h refl))
cond_le false false m m' h le = omega arith

cond_lt : (t t' : Bool) (m m' : ℕ) → t ≡ true → m' < m → cond t' m' 0 < cond t m 0
cond_lt true true m m' h lt = lt
cond_lt true false m m' h lt = omega arith
cond_lt false t' m m' h lt = absurd (false≢true h)

module _ (st : State) (choice : Choice) (sure : Sure st choice) where
  pub words_le : word_letters (next st choice) ≤ word_letters st
  words_le = total_le (λ x. cond (lives (next st choice) x) (length ((next st choice).words x)) 0) (λ x. cond (lives st x) (length (st.words x)) 0) (λ x. cond_le (lives st x) (lives (next st choice) x) (length (st.words x)) (length ((next st choice).words x)) (lives_before st choice x) (shrinks st choice sure x)) variables

  pub words_lt : (x : ℕ) → x < 26 → lives st x ≡ true → length ((next st choice).words x) < length (st.words x) → word_letters (next st choice) < word_letters st
  words_lt x small alive less =
      total_lt (λ x. cond (lives (next st choice) x) (length ((next st choice).words x)) 0) (λ x. cond (lives st x) (length (st.words x)) 0) (λ x. cond_le (lives st x) (lives (next st choice) x) (length (st.words x)) (length ((next st choice).words x)) (lives_before st choice x) (shrinks st choice sure x))
      x (cond_lt (lives st x) (lives (next st choice) x) (length (st.words x)) (length ((next st choice).words x)) alive less) variables (in_variables x small)

  pub count_le : live_count (next st choice) ≤ live_count st
  count_le = total_le (λ x. cond (lives (next st choice) x) 1 0) (λ x. cond (lives st x) 1 0) (λ x. cond_le (lives st x) (lives (next st choice) x) 1 1 (lives_before st choice x) (omega arith)) variables

  pub count_lt : (x : ℕ) → x < 26 → lives st x ≡ true → lives (next st choice) x ≡ false → live_count (next st choice) < live_count st
  count_lt x small alive dead =
      let before : ◌≡◌ {A = ℕ} (cond (lives st x) 1 0) 1 = cond-true (lives st x) 1 0 alive in
      let now : ◌≡◌ {A = ℕ} (cond (lives (next st choice) x) 1 0) 0 = cond-false (lives (next st choice) x) 1 0 dead in
      total_lt (λ x. cond (lives (next st choice) x) 1 0) (λ x. cond (lives st x) 1 0) (λ x. cond_le (lives st x) (lives (next st choice) x) 1 1 (lives_before st choice x) (omega arith))
      x (omega arith) variables (in_variables x small)

pub record Falls (st : State) (choice : Choice) : Type 0 where
  pub rules : length (next st choice).stands.rules + letters (filled_sides (next st choice)) ≤ length st.stands.rules + letters (filled_sides st)
  pub pops : length (next st choice).stands.pops + word_letters (next st choice) ≤ length st.stands.pops + word_letters st
  pub letters_fall : letters (filled_sides (next st choice)) ≤ letters (filled_sides st)
  pub all : weight (next st choice) < weight st

pub falls : (st : State) → ((x : ℕ) → lives st x ≡ true → x < 26) → (choice : Choice) → Sure st choice → Falls st choice
falls st below (Left x a) sure =
    let same : letters (filled_sides (next st (Left x a))) ≡ letters (filled_sides st) = ap letters (filled_next st (Left x a) sure.0) in
    let long : length (st.words x) ≡ suc (length ((next st (Left x a)).words x)) = ap length sure.0.1 in
    let less : word_letters (next st (Left x a)) < word_letters st = words_lt st (Left x a) sure x (below x sure.0.0) sure.0.0 (omega arith) in
    record { rules = omega arith; pops = omega (arith, length-append st.stands.pops (AtLeft x a ∷ [])); letters_fall = omega arith; all = omega (arith, count_le st (Left x a) sure) }
falls st below (Right x a) sure =
    let same : letters (filled_sides (next st (Right x a))) ≡ letters (filled_sides st) = ap letters (filled_next st (Right x a) sure.0) in
    let long : length (st.words x) ≡ length ((next st (Right x a)).words x ++ (a ∷ [])) = ap length sure.0.1 in
    let less : word_letters (next st (Right x a)) < word_letters st = words_lt st (Right x a) sure x (below x sure.0.0) sure.0.0 (omega (arith, length-append ((next st (Right x a)).words x) (a ∷ []))) in
    record { rules = omega arith; pops = omega (arith, length-append st.stands.pops (AtRight x a ∷ [])); letters_fall = omega arith; all = omega (arith, count_le st (Right x a) sure) }
falls st below (Erase x) sure =
    let same : letters (filled_sides (next st (Erase x))) ≡ letters (filled_sides st) = ap letters (filled_next st (Erase x) sure.0) in
    let less : live_count (next st (Erase x)) < live_count st = count_lt st (Erase x) sure x (below x sure.0.0) sure.0.0 (erased_gone st.stands x) in
    let words : word_letters (next st (Erase x)) ≤ word_letters st = words_le st (Erase x) sure in
    record { rules = omega arith; pops = omega (arith, length-append st.stands.pops []); letters_fall = omega arith; all = omega arith }
falls st below (Pair a b) sure =
    let same : letters (filled_sides (next st (Pair a b))) ≡ letters (map (word_pairs a b (fresh st.stands)) (filled_sides st)) = ap letters (filled_next st (Pair a b) sure.0) in
    let less : letters (map (word_pairs a b (fresh st.stands)) (filled_sides st)) < letters (filled_sides st) = sure.1 in
    let words : word_letters (next st (Pair a b)) ≤ word_letters st = words_le st (Pair a b) sure in
    record { rules = omega arith; pops = omega (arith, length-append st.stands.pops []); letters_fall = omega arith; all = omega (arith, count_le st (Pair a b) sure) }
falls st below (Block a n) sure =
    let same : letters (filled_sides (next st (Block a n))) ≡ letters (map (word_blocks a n (fresh st.stands)) (filled_sides st)) = ap letters (filled_next st (Block a n) sure.0) in
    let less : letters (map (word_blocks a n (fresh st.stands)) (filled_sides st)) < letters (filled_sides st) = sure.1 in
    let words : word_letters (next st (Block a n)) ≤ word_letters st = words_le st (Block a n) sure in
    record { rules = omega arith; pops = omega (arith, length-append st.stands.pops []); letters_fall = omega arith; all = omega (arith, count_le st (Block a n) sure) }
