-- The turn of a variable: its choices are sure, and there is one at least. Assumes nothing.
use Rattle.std.proofs.Common.{◌≡◌, ℕ, zero, suc, ◌+◌, ◌<◌, ◌≤◌, Bool, true, false, ◌&&◌, eqb, ◌≢◌, ◌⊎◌, List, [], ◌∷◌, ◌++◌, map, length, sym, refl, ap, ◌∙◌, subst, inl, inr, arith, length-append}
use Rattle.std.specs.List.{AllByRecursion}
use Rattle.std.proofs.ByRecursion.{All-append}
use Rattle.std.proofs.lemmas.Bool.{cond_both, and_cases, eqb-false, both_ways, true≢false}
use Rattle.model.specs.Spelling.{Word}
use Rattle.systems.specs.declared.Choice.{Choice}
use Rattle.systems.specs.declared.Choice.TheVariants.{Left, Right, Erase, Pair, Block}
use Rattle.systems.specs.Fitting.{Fits}
use Rattle.systems.specs.Rows.{any}
use Rattle.systems.specs.Sides.{Words, word_pairs, word_blocks}
use Rattle.systems.specs.Standings.{fresh}
use Rattle.systems.proofs.Living.{erased_gone}
use Rattle.writing.specs.Writer.{State, lives, leaves, next, follow, Part, each, from, variables, erase_empty, for_pair, for_block, filled_sides, letters, pop_rows, join_pair, join_blocks, erasures, erased, begins, empty, rest}
use Rattle.writing.specs.Counting.{has_row, keep}
use Rattle.writing.specs.Turns.{block_lengths, turn}
use Rattle.writing.proofs.Falls.{all_variables}
use Rattle.writing.proofs.Filled.{filled_next, letters_lt, pairs_le, pairs_lt, has_pair, pair_occurs, blocks_le, blocks_lt, bare_blocks, rows_stay}
use Rattle.writing.proofs.Limited.{Holds, holds_follow, live_low}
use Rattle.writing.proofs.Lists.{is_begun, put_here, put_there}
use Rattle.writing.proofs.Parts.{Sure, AllSure, sure-++, then_is, each_makes, each_sure, erase_sure, for_pair_sure, for_block_sure, lives_before}
use Rattle.writing.proofs.Uncrossing.{Of, Clear, Bare, follow_of, other_word, for_pair_of, erase_of, pairs_clear, blocks_bare, clear_none_crosses, bare_none_crosses}

over_variables : (p : ℕ → Part) (P : ℕ → State → Type 0) → ((n : ℕ) (st : State) (x : ℕ) → x < 0 + n → P x (follow st (each p (from 0 n) st))) → (st : State) (x : ℕ) → x < 26 → P x (follow st (each p variables st))
over_variables p P h st x lt =
    let n : ℕ = all_variables.0 in
    let is : n ≡ 26 = all_variables.1.1 in
    subst (λ vs. P x (follow st (each p vs st))) (sym all_variables.1.0) (h n st x (omega arith))

-- pops and erasures keep the filled-in sides

abbrev Quiet : Choice → Type 0
Quiet (Left x a) = Unit {0}
Quiet (Right x a) = Unit {0}
Quiet (Erase x) = Unit {0}
Quiet (Pair a b) = ⊥
Quiet (Block a n) = ⊥

quiet_of : (y : ℕ) (choice : Choice) → Of y choice → Quiet choice
quiet_of y (Left x a) h = tt
quiet_of y (Right x a) h = tt
quiet_of y (Erase x) h = tt
quiet_of y (Pair a b) h = h
quiet_of y (Block a n) h = h

quiet_all : (y : ℕ) (list : List Choice) → AllByRecursion (Of y) list → AllByRecursion Quiet list
quiet_all y [] h = tt
quiet_all y (choice ∷ more) h = (quiet_of y choice h.0, quiet_all y more h.1)

each_quiet : (p : ℕ → Part) → ((y : ℕ) (st : State) → AllByRecursion (Of y) (p y st)) → (xs : List ℕ) (st : State) → AllByRecursion Quiet (each p xs st)
each_quiet p of [] st = tt
each_quiet p of (x ∷ xs) st = subst (AllByRecursion Quiet) (sym (then_is (p x) (each p xs) st)) (All-append Quiet (p x st) (each p xs (follow st (p x st))) (quiet_all x (p x st) (of x st)) (each_quiet p of xs (follow st (p x st))))

quiet_next : (st : State) (choice : Choice) → Sure st choice → Quiet choice → filled_sides (next st choice) ≡ filled_sides st
quiet_next st (Left x a) sure q = filled_next st (Left x a) sure.0
quiet_next st (Right x a) sure q = filled_next st (Right x a) sure.0
quiet_next st (Erase x) sure q = filled_next st (Erase x) sure.0
quiet_next st (Pair a b) sure q = absurd q
quiet_next st (Block a n) sure q = absurd q

quiet_filled : (st : State) (list : List Choice) → AllSure st list → AllByRecursion Quiet list → filled_sides (follow st list) ≡ filled_sides st
quiet_filled st [] sure q = refl
quiet_filled st (choice ∷ more) sure q = quiet_filled (next st choice) more sure.1 q.1 ∙ quiet_next st choice sure.0 q.0

-- a letter that is known stays known
fresh_next : (st : State) (choice : Choice) → fresh st.stands ≤ fresh (next st choice).stands
fresh_next st (Left x a) = omega arith
fresh_next st (Right x a) = omega arith
fresh_next st (Erase x) = omega arith
fresh_next st (Pair a b) = omega arith
fresh_next st (Block a n) = omega arith

fresh_follow : (st : State) (list : List Choice) → fresh st.stands ≤ fresh (follow st list).stands
fresh_follow st [] = omega arith
fresh_follow st (choice ∷ more) = omega (arith, fresh_next st choice, fresh_follow (next st choice) more)

-- after the erasures no live variable is empty
abbrev Full : ℕ → State → Type 0
Full x st = lives st x ≡ true → empty (st.words x) ≡ false

erase_full : (x : ℕ) (st : State) → Full x (follow st (erase_empty x st))
erase_full x st =
    cond_both (lives st x && empty (st.words x)) (Erase x ∷ []) [] (λ k. Full x (follow st k))
    (λ _ alive. absurd (both_ways (lives (next st (Erase x)) x) (erased_gone st.stands x) alive))
    (λ e alive. full alive (and_cases (lives st x) (empty (st.words x)) e))
  where
    full : lives st x ≡ true → (lives st x ≡ false) ⊎ (empty (st.words x) ≡ false) → empty (st.words x) ≡ false
    full alive (inl dead) = absurd (both_ways (lives st x) dead alive)
    full alive (inr e) = e

full_other : (x y : ℕ) → x ≢ y → (st : State) (choice : Choice) → Of y choice → Full x st → Full x (next st choice)
full_other x y d st choice of h alive = ap empty (other_word x y d st choice of) ∙ h (lives_before st choice x alive)

pub erased_full : (st : State) (x : ℕ) → x < 26 → Full x (erased st)
erased_full st x lt =
    over_variables erase_empty Full (λ n st x l. each_makes erase_empty Full erase_full (λ x y d st h. follow_of (Full x) y (full_other x y d) (erase_empty y st) st (erase_of y st) h) n 0 st (λ y k. absurd (omega arith)) x l) st x lt

pub erasures_sure : (st : State) → AllSure st (erasures st)
erasures_sure st = each_sure erase_empty erase_sure variables st

-- the blocks of the lengths that stand
module _ (a : ℕ) (p : ℕ → Bool) where
  blocks_sure : (count k : ℕ) (st : State) → 2 ≤ k → k + count ≤ 1000001 → a < fresh st.stands → ((x : ℕ) → Bare a x st) → ((n : ℕ) → k ≤ n → p n ≡ true → any (has_row a n) (filled_sides st) ≡ true) → AllSure st (map (Block a) (keep p (from k count)))
  blocks_sure zero k st two few known bare rows = tt
  blocks_sure (suc count) k st two few known bare rows =
      cond_both (p k) (k ∷ keep p (from (suc k) count)) (keep p (from (suc k) count)) (λ l. AllSure st (map (Block a) l))
      (λ e. let c : ℕ = fresh st.stands in
      let few' : k ≤ 1000000 = omega arith in
      let fits : Fits st.stands st.words (Block a k) (leaves st.stands st.words (Block a k)) = (known, two, few', bare_none_crosses a st bare, λ _. refl) in
      let shortens : letters (map (word_blocks a k c) (filled_sides st)) < letters (filled_sides st) = letters_lt (word_blocks a k c) (blocks_le a k c two) (has_row a k) (blocks_lt a k c two) (filled_sides st) (rows k (omega arith) e) in (
        (fits, shortens),
        blocks_sure count (suc k) (next st (Block a k)) (omega arith) (omega arith) (omega (arith, fresh_next st (Block a k)))
            (λ x alive. bare_blocks a k c two (st.words x) (bare x (lives_before st (Block a k) x alive)))
            (λ n le f. ap (any (has_row a n)) (filled_next st (Block a k) fits) ∙ rows_stay a k c two n (λ same. omega arith) (λ same. omega arith) (filled_sides st) (rows n (omega arith) f)),
      ))
      (λ _. blocks_sure count (suc k) st (omega arith) (omega arith) known bare (λ n le f. rows n (omega arith) f))

module _ (σ : Words) (st : State) (holds : Holds σ st) (x : ℕ) (alive : lives st x ≡ true) where
  pair_turn : (a b : ℕ) (w : Word) → st.words x ≡ a ∷ b ∷ w → a ≢ b → AllSure st (join_pair a b st)
  pair_turn a b w is d =
      let pops : List Choice = each (for_pair a b) variables st in
      let st₁ : State = follow st pops in
      let sure : AllSure st pops = each_sure (for_pair a b) (for_pair_sure a b) variables st in
      let holds₁ : Holds σ st₁ = holds_follow σ st pops sure holds in
      let letters_known : AllByRecursion (λ l. l < fresh st.stands) (a ∷ b ∷ w) = subst (AllByRecursion (λ l. l < fresh st.stands)) is (holds.kept.below x) in
      let clear : (y : ℕ) → Clear a b y st₁ = λ y live_y. over_variables (for_pair a b) (Clear a b) (pairs_clear a b) st y (live_low st₁.stands holds₁.formed y live_y) live_y in
      let same : filled_sides st₁ ≡ filled_sides st = quiet_filled st pops sure (each_quiet (for_pair a b) (for_pair_of a b) variables st) in
      let occurs : any (has_pair a b) (filled_sides st₁) ≡ true = ap (any (has_pair a b)) same ∙ pair_occurs a b w st x alive is in
      let c : ℕ = fresh st₁.stands in
      let known_a : a < c = omega (arith, letters_known.0, fresh_follow st pops) in
      let known_b : b < c = omega (arith, letters_known.1.0, fresh_follow st pops) in
      subst (AllSure st) (sym (then_is (each (for_pair a b) variables) (λ _. Pair a b ∷ []) st)) (sure-++ st pops (Pair a b ∷ []) sure
      (((known_a, known_b, d, clear_none_crosses a b st₁ d clear, λ _. refl), letters_lt (word_pairs a b c) (pairs_le a b c) (has_pair a b) (pairs_lt a b c) (filled_sides st₁) occurs), tt))

  block_turn : (a : ℕ) (w : Word) → st.words x ≡ a ∷ w → AllSure st (join_blocks a (block_lengths a st) st)
  block_turn a w is =
      let pops : List Choice = each (for_block a) variables st in
      let st₁ : State = follow st pops in
      let sure : AllSure st pops = each_sure (for_block a) (for_block_sure a) variables st in
      let holds₁ : Holds σ st₁ = holds_follow σ st pops sure holds in
      let letters_known : AllByRecursion (λ l. l < fresh st.stands) (a ∷ w) = subst (AllByRecursion (λ l. l < fresh st.stands)) is (holds.kept.below x) in
      let bare : (y : ℕ) → Bare a y st₁ = λ y live_y. over_variables (for_block a) (Bare a) (blocks_bare a) st y (live_low st₁.stands holds₁.formed y live_y) live_y in
      let known_a : a < fresh st₁.stands = omega (arith, letters_known.0, fresh_follow st pops) in
      let few : letters (filled_sides st₁) ≤ 512 = omega (arith, holds₁.within.rules) in
      subst (AllSure st) (sym (then_is (pop_rows a) (λ _. map (Block a) (block_lengths a st)) st)) (sure-++ st pops (map (Block a) (block_lengths a st)) sure
      (blocks_sure a (λ n. any (has_row a n) (filled_sides st₁)) (letters (filled_sides st₁)) 2 st₁ (omega arith) (omega arith) known_a bare (λ n le e. e)))

  some_pop : (a : ℕ) (w : Word) → st.words x ≡ a ∷ w → each (for_block a) variables st ≡ [] → ⊥
  some_pop a w is none =
      let bare : Bare a x (follow st (each (for_block a) variables st)) = over_variables (for_block a) (Bare a) (blocks_bare a) st x (live_low st.stands holds.formed x alive) in
      let still : Bare a x st = subst (λ l. Bare a x (follow st l)) none bare in
      both_ways (begins a (st.words x)) (still alive).1 (is_begun a (st.words x) (w, is))

  one_at_least : (list more : List Choice) → (list ≡ [] → ⊥) → 1 ≤ length (list ++ more)
  one_at_least [] more h = absurd (h refl)
  one_at_least (choice ∷ list) more h = omega arith

  pub turn_sure : (w : Word) → st.words x ≡ w → empty w ≡ false → AllSure st (turn x w st) × (1 ≤ length (turn x w st))
  turn_sure [] is full = absurd (true≢false full)
  turn_sure (a ∷ []) is full =
      ((((alive, is ∙ ap (λ r. a ∷ r) (sym (put_here st.words x (rest (st.words x)) ∙ ap rest is)), put_there st.words x (rest (st.words x))), tt), tt), omega arith)
  turn_sure (a ∷ (b ∷ w)) is full =
      cond_both (eqb a b) (join_blocks a (block_lengths a st) st) (join_pair a b st) (λ l. AllSure st l × (1 ≤ length l))
      (λ _. (block_turn a (b ∷ w) is, subst (λ l. 1 ≤ length l) (sym (then_is (pop_rows a) (λ _. map (Block a) (block_lengths a st)) st)) (one_at_least (each (for_block a) variables st) (map (Block a) (block_lengths a st)) (some_pop a (b ∷ w) is))))
      (λ e. (pair_turn a b w is (eqb-false a b e), omega (arith, length-append (each (for_pair a b) variables st) (Pair a b ∷ []), ap length (then_is (each (for_pair a b) variables) (λ _. Pair a b ∷ []) st))))
