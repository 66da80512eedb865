-- What a writer follows behind one choice, and what a dead variable does before blocks are joined. Assumes nothing.
use Rattle.std.proofs.Common.{◌≡◌, ℕ, ◌+◌, ◌<◌, Bool, true, false, cond, ◌&&◌, ◌≢◌, ◌⊎◌, List, [], ◌∷◌, map, length, Some, None, Option, get_or, set, sym, refl, ap, ◌∙◌, subst, ap₂, inl, inr, arith}
use Rattle.std.specs.Option.{option_map}
use Rattle.std.proofs.lemmas.Bool.{cond-true, cond-false, cases_eq, ne_eqb}
use Rattle.std.proofs.lemmas.List.{get_or-set_same, get_or-set_other, get_or-map, length-map, length-set}
use Rattle.model.specs.Spelling.{Word}
use Rattle.systems.specs.declared.Choice.{Choice}
use Rattle.systems.specs.declared.Choice.TheVariants.{Left, Right, Erase, Pair, Block}
use Rattle.systems.specs.declared.Place.TheVariants.{Letter}
use Rattle.systems.specs.Sides.{Side, Words, on_sides, sides, side_blocks, side_pairs, word_blocks, word_pairs}
use Rattle.systems.specs.Standings.{fresh}
use Rattle.systems.proofs.Living.{live_taken, erased_gone}
use Rattle.writing.specs.Writer.{State, lives, next, follow, Part, then, again, put, rest, front, begins, ends, empty, pop_first, pop_last, erase_empty, for_block, filled_sides}
use Rattle.writing.proofs.Filled.{filled_next}
use Rattle.writing.proofs.Lists.{put_here, put_there}
use Rattle.writing.proofs.Parts.{AllSure, again_none, then_none}
use Rattle.std.specs.Borrow.{MutBor}
use Rattle.leftover.specs.declared.store.Leftover.{Leftover}
use Rattle.writer.specs.declared.store.Draft.{Draft}
use Rattle.writer.specs.Following.{At, Follows, Wrote, Ready, Does}
use Rattle.leftover.specs.Leaving.{begins_with, ends_with, is_emptied, length_of}
use Rattle.writer.proofs.Following.{room_left, same_does, same_ready}
use Rattle.writer.proofs.Joining.{blocks_letters, pairs_letters, sides_on}

abbrev pub word_at : Draft → ℕ → Option Word
word_at w x = get_or w.left.now.words x None

-- a part that makes one choice, if a test of the word passes
module _ (p : Part) (choice : Choice) (test : Option Word → Bool) (w : Draft) (x : ℕ) (made : (st : State) → Follows w st → p st ≡ cond (test (word_at w x)) (choice ∷ []) []) where
  one_made : test (word_at w x) ≡ true → (st : State) → Follows w st → p st ≡ choice ∷ []
  one_made e st follows = made st follows ∙ cond-true (test (word_at w x)) (choice ∷ []) [] e

  pub one_room : test (word_at w x) ≡ true → Ready p w → w.count < length w.list.now
  one_room e = room_left p w (λ st follows. let one : length (p st) ≡ 1 = ap length (one_made e st follows) in omega arith)

  pub one_done : (v : Draft) (r : MutBor Leftover) → test (word_at w x) ≡ true → v.list.ghost_name ≡ w.list.ghost_name → Wrote (record { list = w.list; count = w.count; left = r }) (choice ∷ []) v → ((st : State) → Follows w st → AllSure st (choice ∷ []) → Follows v (next st choice)) → Does p w v
  one_done v r e same wrote behind = record { same = same; writes = writes }
    where
      writes : (σ : Words) (st : State) → At σ p w st → Wrote w (p st) v × Follows v (follow st (p st))
      writes σ st at =
          let is : p st ≡ choice ∷ [] = one_made e st at.follows in
          subst (λ l. Wrote w l v × Follows v (follow st l)) (sym is)
          (record { long = wrote.long; put = wrote.put }, behind st at.follows (subst (AllSure st) is at.sure))

-- which choices the three smallest parts make, by the word that the writer has
module _ (w : Draft) (x : ℕ) (low : x < 26) where
  first_test : (a : ℕ) (t : Bool) (u : Word) → begins_with a (cond t (Some u) None) ≡ (t && begins a u)
  first_test a true u = refl
  first_test a false u = refl

  pub first_made : (a : ℕ) (st : State) → Follows w st → pop_first a x st ≡ cond (begins_with a (word_at w x)) (Left x a ∷ []) []
  first_made a st follows = ap (λ t. cond t (Left x a ∷ []) []) (sym (ap (begins_with a) (follows.words x low) ∙ first_test a (lives st x) (st.words x)))

  last_test : (a : ℕ) (t : Bool) (u : Word) → ends_with a (cond t (Some u) None) ≡ (t && ends a u)
  last_test a true u = refl
  last_test a false u = refl

  pub last_made : (a : ℕ) (st : State) → Follows w st → pop_last a x st ≡ cond (ends_with a (word_at w x)) (Right x a ∷ []) []
  last_made a st follows = ap (λ t. cond t (Right x a ∷ []) []) (sym (ap (ends_with a) (follows.words x low) ∙ last_test a (lives st x) (st.words x)))

  empty_test : (t : Bool) (u : Word) → is_emptied (cond t (Some u) None) ≡ (t && empty u)
  empty_test true u = refl
  empty_test false u = refl

  pub erase_made : (st : State) → Follows w st → erase_empty x st ≡ cond (is_emptied (word_at w x)) (Erase x ∷ []) []
  erase_made st follows = ap (λ t. cond t (Erase x ∷ []) []) (sym (ap is_emptied (follows.words x low) ∙ empty_test (lives st x) (st.words x)))

-- behind a pop
module _ (w v : Draft) (x : ℕ) (low : x < 26) (choice : Choice) (g : Word → Word) (st : State) (follows : Follows w st)
    (lives_on : (y : ℕ) → lives (next st choice) y ≡ lives st y)
    (left : (y : ℕ) → (next st choice).words y ≡ put st.words x (g (st.words x)) y)
    (words : v.left.now.words ≡ set w.left.now.words x (option_map g (word_at w x))) where
  of_option : (t : Bool) (u : Word) → option_map g (cond t (Some u) None) ≡ cond t (Some (g u)) None
  of_option true u = refl
  of_option false u = refl

  popped_words : (y : ℕ) → y < 26 → word_at v y ≡ cond (lives (next st choice) y) (Some ((next st choice).words y)) None
  popped_words y small = ap (λ ws. get_or ws y None) words ∙ split (cases_eq y x)
    where
      new : List (Option Word)
      new = set w.left.now.words x (option_map g (word_at w x))

      split : (y ≡ x) ⊎ (y ≢ x) → get_or new y None ≡ cond (lives (next st choice) y) (Some ((next st choice).words y)) None
      split (inl e) =
          ap (λ z. get_or new z None) e ∙
          get_or-set_same w.left.now.words x (option_map g (word_at w x)) None (omega (arith, follows.all)) ∙
          ap (option_map g) (follows.words x low) ∙
          of_option (lives st x) (st.words x) ∙
          ap₂ (λ t u. cond t (Some u) None) (sym (lives_on x)) (sym (left x ∙ put_here st.words x (g (st.words x)))) ∙
          ap (λ z. cond (lives (next st choice) z) (Some ((next st choice).words z)) None) (sym e)
      split (inr d) =
          get_or-set_other w.left.now.words x y (option_map g (word_at w x)) None d ∙
          follows.words y small ∙
          ap₂ (λ t u. cond t (Some u) None) (sym (lives_on y)) (sym (left y ∙ put_there st.words x (g (st.words x)) y d))

  pub popped_all : length v.left.now.words ≡ 26
  popped_all = ap length words ∙ length-set w.left.now.words x (option_map g (word_at w x)) ∙ follows.all

module _ (w v : Draft) (x : ℕ) (low : x < 26) (filled : v.left.now.filled ≡ w.left.now.filled) (same : v.left.now.fresh ≡ w.left.now.fresh) (st : State) (follows : Follows w st) where
  pub left_follows : (a : ℕ) → v.left.now.words ≡ set w.left.now.words x (option_map rest (word_at w x)) → AllSure st (Left x a ∷ []) → Follows v (next st (Left x a))
  left_follows a words sure = record {
    words = popped_words w v x low (Left x a) rest st follows (λ y. live_taken st.stands (Left x a) y refl) (λ y. refl) words;
    all = popped_all w v x low (Left x a) rest st follows (λ y. live_taken st.stands (Left x a) y refl) (λ y. refl) words;
    filled = ap sides filled ∙ follows.filled ∙ ap (map (map _)) (sym (filled_next st (Left x a) sure.0.0));
    next = same ∙ follows.next;
  }

  pub right_follows : (a : ℕ) → v.left.now.words ≡ set w.left.now.words x (option_map front (word_at w x)) → AllSure st (Right x a ∷ []) → Follows v (next st (Right x a))
  right_follows a words sure = record {
    words = popped_words w v x low (Right x a) front st follows (λ y. live_taken st.stands (Right x a) y refl) (λ y. refl) words;
    all = popped_all w v x low (Right x a) front st follows (λ y. live_taken st.stands (Right x a) y refl) (λ y. refl) words;
    filled = ap sides filled ∙ follows.filled ∙ ap (map (map _)) (sym (filled_next st (Right x a) sure.0.0));
    next = same ∙ follows.next;
  }

  erased_words : v.left.now.words ≡ set w.left.now.words x None → (y : ℕ) → y < 26 → word_at v y ≡ cond (lives (next st (Erase x)) y) (Some (st.words y)) None
  erased_words words y small = ap (λ ws. get_or ws y None) words ∙ split (cases_eq y x)
    where
      split : (y ≡ x) ⊎ (y ≢ x) → get_or (set w.left.now.words x None) y None ≡ cond (lives (next st (Erase x)) y) (Some (st.words y)) None
      split (inl e) =
          ap (λ z. get_or (set w.left.now.words x None) z None) e ∙
          get_or-set_same w.left.now.words x None None (omega (arith, follows.all)) ∙
          sym (cond-false (lives (next st (Erase x)) x) (Some (st.words x)) None (erased_gone st.stands x)) ∙
          ap (λ z. cond (lives (next st (Erase x)) z) (Some (st.words z)) None) (sym e)
      split (inr d) =
          get_or-set_other w.left.now.words x y None None d ∙
          follows.words y small ∙
          ap (λ t. cond t (Some (st.words y)) None) (sym (live_taken st.stands (Erase x) y (ne_eqb y x d)))

  pub erase_follows : v.left.now.words ≡ set w.left.now.words x None → AllSure st (Erase x ∷ []) → Follows v (next st (Erase x))
  erase_follows words sure = record {
    words = erased_words words;
    all = ap length words ∙ length-set w.left.now.words x None ∙ follows.all;
    filled = ap sides filled ∙ follows.filled ∙ ap (map (map _)) (sym (filled_next st (Erase x) sure.0.0));
    next = same ∙ follows.next;
  }

-- behind a rule
module _ (w v : Draft) (choice : Choice) (f : Side → Side) (g : Word → Word) (st : State) (follows : Follows w st)
    (lives_on : (y : ℕ) → lives (next st choice) y ≡ lives st y)
    (left : (y : ℕ) → (next st choice).words y ≡ g (st.words y))
    (in_sides : (u : Word) → f (map Letter u) ≡ map Letter (g u))
    (sides_are : filled_sides (next st choice) ≡ map g (filled_sides st))
    (made : fresh (next st choice).stands ≡ fresh st.stands + 1)
    (words : v.left.now.words ≡ map (option_map g) w.left.now.words)
    (filled : v.left.now.filled ≡ on_sides f w.left.now.filled)
    (one_more : v.left.now.fresh ≡ w.left.now.fresh + 1) where
  joined_option : (t : Bool) (u : Word) → option_map g (cond t (Some u) None) ≡ cond t (Some (g u)) None
  joined_option true u = refl
  joined_option false u = refl

  joined_words : (y : ℕ) → y < 26 → word_at v y ≡ cond (lives (next st choice) y) (Some ((next st choice).words y)) None
  joined_words y small =
      ap (λ ws. get_or ws y None) words ∙
      get_or-map (option_map g) w.left.now.words y None None (omega (arith, follows.all)) ∙
      ap (option_map g) (follows.words y small) ∙
      joined_option (lives st y) (st.words y) ∙
      ap₂ (λ t u. cond t (Some u) None) (sym (lives_on y)) (sym (left y))

  joined_sides : (ws : List Word) → map f (map (map Letter) ws) ≡ map (map Letter) (map g ws)
  joined_sides [] = refl
  joined_sides (u ∷ ws) = ap₂ (λ s ss. s ∷ ss) (in_sides u) (joined_sides ws)

  pub joined_follows : Follows v (next st choice)
  joined_follows = record {
    words = joined_words;
    all = ap length words ∙ length-map w.left.now.words (option_map g) ∙ follows.all;
    filled = ap sides filled ∙ sym (sides_on f w.left.now.filled) ∙ ap (map f) follows.filled ∙ joined_sides (filled_sides st) ∙ ap (map (map Letter)) (sym sides_are);
    next = omega (arith, one_more, follows.next, made);
  }

pub pair_follows : (w v : Draft) (a b : ℕ) (st : State) → Follows w st → v.left.now.words ≡ map (option_map (word_pairs a b w.left.now.fresh)) w.left.now.words → v.left.now.filled ≡ on_sides (side_pairs a b w.left.now.fresh) w.left.now.filled → v.left.now.fresh ≡ w.left.now.fresh + 1 → AllSure st (Pair a b ∷ []) → Follows v (next st (Pair a b))
pair_follows w v a b st follows words filled one_more sure =
    let c : ℕ = w.left.now.fresh in
    joined_follows w v (Pair a b) (side_pairs a b c) (word_pairs a b c) st follows (λ y. live_taken st.stands (Pair a b) y refl)
    (λ y. ap (λ k. word_pairs a b k (st.words y)) (sym follows.next))
    (pairs_letters a b c)
    (filled_next st (Pair a b) sure.0.0 ∙ ap (λ k. map (word_pairs a b k) (filled_sides st)) (sym follows.next))
    (omega arith) words filled one_more

pub block_follows : (w v : Draft) (a n : ℕ) (st : State) → Follows w st → v.left.now.words ≡ map (option_map (word_blocks a n w.left.now.fresh)) w.left.now.words → v.left.now.filled ≡ on_sides (side_blocks a n w.left.now.fresh) w.left.now.filled → v.left.now.fresh ≡ w.left.now.fresh + 1 → AllSure st (Block a n ∷ []) → Follows v (next st (Block a n))
block_follows w v a n st follows words filled one_more sure =
    let c : ℕ = w.left.now.fresh in
    joined_follows w v (Block a n) (side_blocks a n c) (word_blocks a n c) st follows (λ y. live_taken st.stands (Block a n) y refl)
    (λ y. ap (λ k. word_blocks a n k (st.words y)) (sym follows.next))
    (λ u. blocks_letters a n c u 0)
    (filled_next st (Block a n) sure.0.0 ∙ ap (λ k. map (word_blocks a n k) (filled_sides st)) (sym follows.next))
    (omega arith) words filled one_more

-- a dead variable does nothing before blocks are joined, however many letters are counted of its word
module _ (w : Draft) (x a : ℕ) (low : x < 26) where
  abbrev pub by_count : ℕ → Part
  by_count n = then (again n (pop_first a x)) (then (again n (pop_last a x)) (erase_empty x))

  dead_count : (n : ℕ) (st : State) → lives st x ≡ false → by_count n st ≡ erase_empty x st
  dead_count n st dead =
      let no_first : pop_first a x st ≡ [] = ap (λ t. cond (t && begins a (st.words x)) (Left x a ∷ []) []) dead in
      let no_last : pop_last a x st ≡ [] = ap (λ t. cond (t && ends a (st.words x)) (Right x a ∷ []) []) dead in
      then_none (again n (pop_first a x)) (then (again n (pop_last a x)) (erase_empty x)) st (again_none (pop_first a x) n st no_first) ∙
      then_none (again n (pop_last a x)) (erase_empty x) st (again_none (pop_last a x) n st no_last)

  counted_block : (st : State) → Follows w st → by_count (length_of (word_at w x)) st ≡ for_block a x st
  counted_block st follows = ap (λ o. by_count (length_of o) st) (follows.words x low) ∙ go (lives st x) refl
    where
      go : (t : Bool) → lives st x ≡ t → by_count (length_of (cond t (Some (st.words x)) None)) st ≡ by_count (length (st.words x)) st
      go true alive = refl
      go false dead = dead_count 0 st dead ∙ sym (dead_count (length (st.words x)) st dead)

  pub counted_ready : (n : ℕ) → n ≡ length_of (word_at w x) → Ready (for_block a x) w → Ready (by_count n) w
  counted_ready n is = same_ready (for_block a x) (by_count n) w (λ _ st follows _. sym (ap (λ m. by_count m st) is ∙ counted_block st follows))

  pub counted_done : (n : ℕ) (v : Draft) → n ≡ length_of (word_at w x) → Does (by_count n) w v → Does (for_block a x) w v
  counted_done n v is = same_does (by_count n) (for_block a x) w v (λ _ st follows _. ap (λ m. by_count m st) is ∙ counted_block st follows)
