-- No limit is met. Assumes nothing.
use Rattle.std.proofs.Common.{◌≡◌, ℕ, zero, suc, ◌+◌, ◌<◌, ◌≤◌, Bool, true, false, cond, not, ◌&&◌, eqb, ltb, leb, ◌⊎◌, List, [], ◌∷◌, ◌++◌, map, length, replicate, Some, None, Option, sym, refl, ap, ◌∙◌, subst, ap₂, inl, inr, arith, length-append}
use Rattle.std.specs.List.{flat_map, AllByRecursion}
use Rattle.std.specs.Option.{option_map}
use Rattle.std.proofs.ByRecursion.{All-weaker, All-map}
use Rattle.std.proofs.lemmas.Bool.{cond_both, cond-false, eqb-true, ne_eqb, lt-ltb, le-ltb, le-leb, lt-leb, and_from, not_from_true, or_cases, false≢true, not_from_false}
use Rattle.model.specs.declared.Rule.{Rule}
use Rattle.model.specs.declared.Rule.TheVariants.{Pair as PairRule, Block as BlockRule}
use Rattle.model.specs.Spelling.{Word, spell, spell_word}
use Rattle.model.specs.Witnesses.{made_length}
use Rattle.model.proofs.Fitting.{fits_taken}
use Rattle.model.proofs.Spelling.{spell_older, spell_newest, joined-++}
use Rattle.systems.specs.declared.Choice.{Choice}
use Rattle.systems.specs.declared.Choice.TheVariants.{Left, Right, Erase, Pair, Block}
use Rattle.systems.specs.declared.Place.{Place}
use Rattle.systems.specs.declared.Place.TheVariants.{Letter, Variable}
use Rattle.systems.specs.Choices.{taken}
use Rattle.systems.specs.Invariants.{KnownPlace, WellFormed}
use Rattle.systems.specs.Refusals.{of_rule, pop_refusal, choice_refusal}
use Rattle.systems.specs.Rows.{any, row, replace_blocks}
use Rattle.systems.specs.Sides.{Side, sides, places, is_variable, Words, filled, fill, word_pairs, word_blocks}
use Rattle.systems.specs.Standings.{Standing, fresh, live}
use Rattle.systems.proofs.Allowing.{allowed}
use Rattle.systems.proofs.Forming.{taken_formed}
use Rattle.systems.proofs.Keeping.{Kept, kept_taken}
use Rattle.systems.proofs.Rows.{all_joined, joined_pairs, joined_blocks}
use Rattle.writing.specs.Counts.{word_letters}
use Rattle.writing.specs.Writer.{State, leaves, next, follow, filled_sides, total, letters}
use Rattle.writing.specs.Counts.{weight}
use Rattle.writing.proofs.Falls.{Falls, falls}
use Rattle.writing.proofs.Filled.{filled_next}
use Rattle.writing.proofs.Parts.{Sure, AllSure}
use Rattle.writing.proofs.Shares.{variable_places, variables_stay, few_places}

abbrev spelled : List Rule → List Word → ℕ
spelled rules = total (λ w. length (spell_word rules w))

-- what stays within the limits
pub record Within (st : State) : Type 0 where
  pub rules : length st.stands.rules + letters (filled_sides st) ≤ 512
  pub pops : length st.stands.pops + word_letters st ≤ 512
  pub variable : variable_places st.stands.equations ≤ 1024
  pub spells : spelled st.stands.rules (filled_sides st) ≤ 512

-- what holds of every state that is reached
pub record Holds (σ : Words) (st : State) : Type 0 where
  pub kept : Kept σ st.stands st.words
  pub formed : WellFormed st.stands
  pub within : Within st

low_in_side : (k x : ℕ) (s : Side) → AllByRecursion (KnownPlace k) s → any (is_variable x) s ≡ true → x < 26
low_in_side k x [] h e = absurd (false≢true e)
low_in_side k x (Letter a ∷ s) h e = low_in_side k x s h.1 e
low_in_side k x (Variable y ∷ s) h e = split (λ f. low_in_side k x s h.1 f) (or_cases (eqb x y) (any (is_variable x) s) e)
  where
    split : (any (is_variable x) s ≡ true → x < 26) → (eqb x y ≡ true) ⊎ (any (is_variable x) s ≡ true) → x < 26
    split more (inl f) = subst (λ z. z < 26) (sym (eqb-true x y f)) h.0
    split more (inr f) = more f

low_in_sides : (k x : ℕ) (ss : List Side) → AllByRecursion (AllByRecursion (KnownPlace k)) ss → any (any (is_variable x)) ss ≡ true → x < 26
low_in_sides k x [] h e = absurd (false≢true e)
low_in_sides k x (s ∷ ss) h e = split (λ f. low_in_sides k x ss h.1 f) (or_cases (any (is_variable x) s) (any (any (is_variable x)) ss) e)
  where
    split : (any (any (is_variable x)) ss ≡ true → x < 26) → (any (is_variable x) s ≡ true) ⊎ (any (any (is_variable x)) ss ≡ true) → x < 26
    split more (inl f) = low_in_side k x s h.0 f
    split more (inr f) = more f

-- a live variable is one of A to Z
pub live_low : (S : Standing) → WellFormed S → (x : ℕ) → live S x ≡ true → x < 26
live_low S formed x alive = low_in_sides (fresh S) x (sides S.equations) formed.known_places alive

-- the letters of the filled-in sides are known
known_sides : (σ : Words) (st : State) → Holds σ st → AllByRecursion (AllByRecursion (λ l. l < fresh st.stands)) (filled_sides st)
known_sides σ st holds =
    All-map (AllByRecursion (λ l. l < fresh st.stands)) (fill st.words) (sides st.stands.equations)
    (All-weaker (AllByRecursion (KnownPlace (fresh st.stands))) (λ s. AllByRecursion (λ l. l < fresh st.stands) (fill st.words s)) (λ s h. all_joined (KnownPlace (fresh st.stands)) (λ l. l < fresh st.stands) (filled st.words) at s h) (sides st.stands.equations) holds.formed.known_places)
  where
    at : (p : Place) → KnownPlace (fresh st.stands) p → AllByRecursion (λ l. l < fresh st.stands) (filled st.words p)
    at (Letter a) h = (h, tt)
    at (Variable x) h = holds.kept.below x

spelled_map : (rules rules' : List Rule) (g : Word → Word) (k : ℕ) → ((w : Word) → AllByRecursion (λ l. l < k) w → spell_word rules' (g w) ≡ spell_word rules w) → (ws : List Word) → AllByRecursion (AllByRecursion (λ l. l < k)) ws → spelled rules' (map g ws) ≡ spelled rules ws
spelled_map rules rules' g k same [] h = refl
spelled_map rules rules' g k same (w ∷ ws) h = ap₂ (λ m n. m + n) (ap length (same w h.0)) (spelled_map rules rules' g k same ws h.1)

-- what the filled-in sides spell keeps its length
spelled_next : (σ : Words) (st : State) (choice : Choice) → Holds σ st → Sure st choice → spelled (next st choice).stands.rules (filled_sides (next st choice)) ≡ spelled st.stands.rules (filled_sides st)
spelled_next σ st (Left x a) holds sure = ap (spelled st.stands.rules) (filled_next st (Left x a) sure.0)
spelled_next σ st (Right x a) holds sure = ap (spelled st.stands.rules) (filled_next st (Right x a) sure.0)
spelled_next σ st (Erase x) holds sure = ap (spelled st.stands.rules) (filled_next st (Erase x) sure.0)
spelled_next σ st (Pair a b) holds sure =
    let rules : List Rule = st.stands.rules in
    let k : ℕ = fresh st.stands in
    let f : ℕ → Word = spell rules in
    let g : ℕ → Word = spell (PairRule a b ∷ rules) in
    ap (spelled (PairRule a b ∷ rules)) (filled_next st (Pair a b) sure.0) ∙
    spelled_map rules (PairRule a b ∷ rules) (word_pairs a b k) k
    (λ w h. joined_pairs (λ l. eqb l a) (λ l. eqb l b) k f g (λ u v eu ev. spell_newest (PairRule a b) rules ∙ sym (ap₂ (λ r s. f r ++ f s) (eqb-true u a eu) (eqb-true v b ev))) w (All-weaker (λ l. l < k) (λ l. g l ≡ f l) (spell_older (PairRule a b) rules) w h))
    (filled_sides st) (known_sides σ st holds)
spelled_next σ st (Block a n) holds sure =
    let rules : List Rule = st.stands.rules in
    let k : ℕ = fresh st.stands in
    let f : ℕ → Word = spell rules in
    let g : ℕ → Word = spell (BlockRule a n ∷ rules) in
    ap (spelled (BlockRule a n ∷ rules)) (filled_next st (Block a n) sure.0) ∙
    spelled_map rules (BlockRule a n ∷ rules) (word_blocks a n k) k
    (λ w h. joined_blocks (λ l. eqb l a) a n k f g (spell_older (BlockRule a n) rules a sure.0.0) (spell_newest (BlockRule a n) rules) (λ u e. ap f (eqb-true u a e)) w 0 (All-weaker (λ l. l < k) (λ l. g l ≡ f l) (spell_older (BlockRule a n) rules) w h))
    (filled_sides st) (known_sides σ st holds)

-- where words get shorter, the new letter stands in them, so that it spells no more than they do

module _ (φ : ℕ → Word) (c : ℕ) where
  abbrev New : Word → ℕ → Type 0
  New r n = (length (φ c) ≤ length (flat_map φ r)) ⊎ (length r ≡ n)

  new_first : (r : Word) → length (φ c) ≤ length (flat_map φ (c ∷ r))
  new_first r = omega (arith, length-append (φ c) (flat_map φ r))

  new_later : (u r : Word) (m n : ℕ) → New u m → New r n → New (u ++ r) (m + n)
  new_later u r m n (inl h) k = inl (let e : length (flat_map φ (u ++ r)) ≡ length (flat_map φ u ++ flat_map φ r) = ap length (joined-++ φ u r) in omega (arith, length-append (flat_map φ u) (flat_map φ r)))
  new_later u r m n (inr h) (inl k) = inl (let e : length (flat_map φ (u ++ r)) ≡ length (flat_map φ u ++ flat_map φ r) = ap length (joined-++ φ u r) in omega (arith, length-append (flat_map φ u) (flat_map φ r)))
  new_later u r m n (inr h) (inr k) = inr (omega (arith, length-append u r))

  new_letter : (g : Word → Word) → ((w : Word) → New (g w) (length w)) → (ws : List Word) → letters (map g ws) < letters ws → length (φ c) ≤ total (λ w. length (flat_map φ w)) (map g ws)
  new_letter g new [] less = absurd (omega arith)
  new_letter g new (w ∷ ws) less = split (λ l. new_letter g new ws l) (new w)
    where
      split : (letters (map g ws) < letters ws → length (φ c) ≤ total (λ w. length (flat_map φ w)) (map g ws)) → New (g w) (length w) → length (φ c) ≤ length (flat_map φ (g w)) + total (λ w. length (flat_map φ w)) (map g ws)
      split more (inl h) = omega arith
      split more (inr h) = omega (arith, more (omega arith))

  pairs_new : (a b : ℕ) (w : Word) → New (word_pairs a b c w) (length w)
  pairs_new a b [] = inr refl
  pairs_new a b (l ∷ []) = inr refl
  pairs_new a b (l ∷ (m ∷ w)) =
      cond_both (eqb l a && eqb m b) (c ∷ word_pairs a b c w) (l ∷ word_pairs a b c (m ∷ w)) (λ r. New r (suc (suc (length w))))
      (λ _. inl (new_first (word_pairs a b c w)))
      (λ _. later (pairs_new a b (m ∷ w)))
    where
      later : New (word_pairs a b c (m ∷ w)) (suc (length w)) → New (l ∷ word_pairs a b c (m ∷ w)) (suc (suc (length w)))
      later (inl h) = inl (omega (arith, length-append (φ l) (flat_map φ (word_pairs a b c (m ∷ w)))))
      later (inr h) = inr (ap suc h)

  module _ (a n : ℕ) where
    abbrev cut : ℕ → Word → Word
    cut k w = replace_blocks (λ l. eqb l a) a n c k w

    replicate_length : (k : ℕ) → length (replicate k a) ≡ k
    replicate_length zero = refl
    replicate_length (suc k) = ap suc (replicate_length k)

    row_new : (k : ℕ) → New (row a n c k) k
    row_new k = cond_both (eqb k n) (c ∷ []) (replicate k a) (λ r. New r k) (λ _. inl (new_first [])) (λ _. inr (replicate_length k))

    as_long : (r : Word) (m m' : ℕ) → m ≡ m' → New r m → New r m'
    as_long r m m' e h = subst (New r) e h

    blocks_new : (w : Word) (k : ℕ) → New (cut k w) (k + length w)
    blocks_new [] k = as_long (row a n c k) k (k + 0) (omega arith) (row_new k)
    blocks_new (x ∷ w) k =
        cond_both (eqb x a) (cut (suc k) w) (row a n c k ++ (x ∷ cut 0 w)) (λ r. New r (k + suc (length w)))
        (λ _. as_long (cut (suc k) w) (suc k + length w) (k + suc (length w)) (omega arith) (blocks_new w (suc k)))
        (λ _. new_later (row a n c k) (x ∷ cut 0 w) k (suc (length w)) (row_new k) (as_long (x ∷ cut 0 w) (1 + (0 + length w)) (suc (length w)) (omega arith) (new_later (x ∷ []) (cut 0 w) 1 (0 + length w) (inr refl) (blocks_new w 0))))

within_next : (σ : Words) (st : State) (choice : Choice) → Holds σ st → Sure st choice → Within (next st choice)
within_next σ st choice holds sure =
    let f : Falls st choice = falls st (live_low st.stands holds.formed) choice sure in
    let now : Within st = holds.within in
    record {
      rules = omega (arith, f.rules, now.rules);
      pops = omega (arith, f.pops, now.pops);
      variable = omega (arith, variables_stay choice (fresh st.stands) st.stands.equations, now.variable);
      spells = omega (arith, spelled_next σ st choice holds sure, now.spells);
    }

-- a reason that does not hold is passed over
pub passed : {E : Type 0} (t : Bool) (e : E) (others : Option E) → t ≡ false → others ≡ None → cond t (Some e) others ≡ None
passed t e others is none = cond-false t (Some e) others is ∙ none

pop_free : (S : Standing) (x a n : ℕ) → live S x ≡ true → a < fresh S → length S.pops < 1024 → n ≤ 2048 → pop_refusal S x a n ≡ None
pop_free S x a n alive low room small =
    passed (not (live S x)) _ _ (not_from_true (live S x) alive)
    (passed (not (ltb a (fresh S))) _ _ (not_from_true (ltb a (fresh S)) (lt-ltb a (fresh S) low))
    (passed (leb 1024 (length S.pops)) _ _ (lt-leb 1024 (length S.pops) room)
    (passed (ltb 2048 n) _ _ (le-ltb 2048 n small) refl)))

last_low : (k : ℕ) (u : Word) (a : ℕ) → AllByRecursion (λ l. l < k) (u ++ (a ∷ [])) → a < k
last_low k [] a h = h.0
last_low k (l ∷ u) a h = last_low k u a h.1

-- no choice that is sure is refused
pub free : (σ : Words) (st : State) (choice : Choice) → Holds σ st → Sure st choice → choice_refusal st.stands choice ≡ None
free σ st (Left x a) holds sure =
    let S : Standing = st.stands in
    let then : Within (next st (Left x a)) = within_next σ st (Left x a) holds sure in
    let low : a < fresh S = (subst (AllByRecursion (λ l. l < fresh S)) sure.0.1 (holds.kept.below x)).0 in
    pop_free S x a (places (taken S (Left x a)).equations) sure.0.0 low (omega (arith, holds.within.pops)) (omega (arith, few_places (next st (Left x a)), then.rules, then.variable))
free σ st (Right x a) holds sure =
    let S : Standing = st.stands in
    let then : Within (next st (Right x a)) = within_next σ st (Right x a) holds sure in
    let low : a < fresh S = last_low (fresh S) (leaves S st.words (Right x a) x) a (subst (AllByRecursion (λ l. l < fresh S)) sure.0.1 (holds.kept.below x)) in
    pop_free S x a (places (taken S (Right x a)).equations) sure.0.0 low (omega (arith, holds.within.pops)) (omega (arith, few_places (next st (Right x a)), then.rules, then.variable))
free σ st (Erase x) holds sure = passed (not (live st.stands x)) _ _ (not_from_true (live st.stands x) sure.0.0) refl
free σ st (Pair a b) holds sure =
    let S : Standing = st.stands in
    let c : ℕ = fresh S in
    let then : Within (next st (Pair a b)) = within_next σ st (Pair a b) holds sure in
    let rules : List Rule = PairRule a b ∷ S.rules in
    let new : length (spell rules c) ≤ spelled rules (map (word_pairs a b c) (filled_sides st)) = new_letter (spell rules) c (word_pairs a b c) (pairs_new (spell rules) c a b) (filled_sides st) sure.1 in
    let same : spelled rules (filled_sides (next st (Pair a b))) ≡ spelled rules (map (word_pairs a b c) (filled_sides st)) = ap (spelled rules) (filled_next st (Pair a b) sure.0) in
    let spells : length (spell rules c) ≡ made_length S.rules (PairRule a b) = ap length (spell_newest (PairRule a b) S.rules) in
    ap (option_map of_rule) (fits_taken S.rules (PairRule a b) (record {
      low = and_from (ltb a c) (ltb b c) (lt-ltb a c sure.0.0) (lt-ltb b c sure.0.1);
      two = not_from_false (eqb a b) (ne_eqb a b sure.0.2);
      ranged = refl;
      few = omega (arith, then.rules);
      short = omega (arith, new, then.spells, same, spells);
    }))
free σ st (Block a n) holds sure =
    let S : Standing = st.stands in
    let c : ℕ = fresh S in
    let then : Within (next st (Block a n)) = within_next σ st (Block a n) holds sure in
    let rules : List Rule = BlockRule a n ∷ S.rules in
    let new_in : (w : Word) → New (spell rules) c (word_blocks a n c w) (length w) = λ w. as_long (spell rules) c a n (word_blocks a n c w) (0 + length w) (length w) (omega arith) (blocks_new (spell rules) c a n w 0) in
    let new : length (spell rules c) ≤ spelled rules (map (word_blocks a n c) (filled_sides st)) = new_letter (spell rules) c (word_blocks a n c) new_in (filled_sides st) sure.1 in
    let same : spelled rules (filled_sides (next st (Block a n))) ≡ spelled rules (map (word_blocks a n c) (filled_sides st)) = ap (spelled rules) (filled_next st (Block a n) sure.0) in
    let spells : length (spell rules c) ≡ made_length S.rules (BlockRule a n) = ap length (spell_newest (BlockRule a n) S.rules) in
    ap (option_map of_rule) (fits_taken S.rules (BlockRule a n) (record {
      low = lt-ltb a c sure.0.0;
      two = refl;
      ranged = and_from (leb 2 n) (leb n 1000000) (le-leb 2 n sure.0.1) (le-leb n 1000000 sure.0.2);
      few = omega (arith, then.rules);
      short = omega (arith, new, then.spells, same, spells);
    }))

-- over a run

pub holds_next : (σ : Words) (st : State) (choice : Choice) → Sure st choice → Holds σ st → Holds σ (next st choice)
holds_next σ st choice sure h = record {
  kept = kept_taken σ st.stands st.words choice (leaves st.stands st.words choice) h.formed sure.0 h.kept;
  formed = taken_formed st.stands choice (allowed st.stands choice (free σ st choice h sure)) h.formed;
  within = within_next σ st choice h sure;
}

pub holds_follow : (σ : Words) (st : State) (list : List Choice) → AllSure st list → Holds σ st → Holds σ (follow st list)
holds_follow σ st [] sure h = h
holds_follow σ st (choice ∷ more) sure h = holds_follow σ (next st choice) more sure.1 (holds_next σ st choice sure.0 h)

pub run_falls : (σ : Words) (st : State) (list : List Choice) → Holds σ st → AllSure st list → length list + weight (follow st list) ≤ weight st
run_falls σ st [] h sure = omega arith
run_falls σ st (choice ∷ more) h sure = omega (arith, (falls st (live_low st.stands h.formed) choice sure.0).all, run_falls σ (next st choice) more (holds_next σ st choice sure.0 h) sure.1)
