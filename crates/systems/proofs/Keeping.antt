-- A run whose taken choices fit a solution keeps it. Assumes nothing.
use Rattle.std.proofs.Common.{◌≡◌, ℕ, ◌<◌, ◌≤◌, true, false, eqb, ◌⊎◌, List, [], ◌∷◌, ◌++◌, map, reverse, sym, refl, ap, ◌∙◌, subst, ap₂, inl, inr, append-nil, arith}
use mathlib.Core.Path.{fun_ext}
use Rattle.std.specs.List.{AllByRecursion}
use Rattle.std.proofs.ByRecursion.{All-weaker}
use Rattle.std.proofs.lemmas.Bool.{both_ways, eqb-true, eqb-false, eq-eqb, ne_eqb, cases_eq, cases_Bool, cond-false}
use Rattle.model.specs.declared.Rule.{Rule}
use Rattle.model.specs.declared.Rule.TheVariants.{Pair as PairRule, Block as BlockRule}
use Rattle.model.specs.Spelling.{Word, known, spell, spell_word}
use Rattle.model.proofs.Spelling.{joined-++, spell_older, spell_newest}
use Rattle.systems.specs.declared.Place.TheVariants.{Letter, Variable}
use Rattle.systems.specs.declared.Choice.{Choice}
use Rattle.systems.specs.declared.Choice.TheVariants.{Left, Right, Erase, Pair, Block}
use Rattle.systems.specs.Choices.{swap, taken}
use Rattle.systems.specs.Fitting.{Crosses, SameBut, Fits}
use Rattle.systems.specs.Invariants.{WellFormed}
use Rattle.systems.specs.Runs.{Load, opened, loaded, Reaches, Follows, opening, choosing, beginning, fitting, passing}
use Rattle.systems.specs.Sides.{Side, Equation, sides, on_sides, Words, filled, fill, Solves, Below, Solution, SameSides, word_pairs, side_pairs, word_blocks, side_blocks}
use Rattle.systems.specs.Standings.{Standing, fresh, live, lefts, rights, around, whole}
use Rattle.systems.specs.Theorems.{NothingLeft, Complete}
use Rattle.systems.proofs.Allowing.{after_taken, after_refused, fits_by_limit}
use Rattle.systems.proofs.Crossing.{pairs_before_or_after, blocks_before_or_after}
use Rattle.systems.proofs.Forming.{opened_bare, runs_are_well_formed}
use Rattle.systems.proofs.Living.{erases, live_taken, Gone, gone_everywhere}
use Rattle.systems.proofs.Meaning.{swap_means, SpellsOlder}
use Rattle.systems.proofs.Rows.{all_each, all_pairs, joined_pairs, all_blocks, joined_blocks}
use Rattle.systems.proofs.Whole.{left_assembled, right_assembled, whole_assembled, rules_assembled}

below_more : (k m : ℕ) → k ≤ m → (w : Word) → Below k w → Below m w
below_more k m le w h = All-weaker (λ l. l < k) (λ l. l < m) (λ l b. omega arith) w h

below_front : (k : ℕ) (u v : Word) → Below k (u ++ v) → Below k u
below_front k [] v h = tt
below_front k (x ∷ u) v h = (h.0, below_front k u v h.1)

-- what holds as the choices go on
pub record Kept (σ : Words) (S : Standing) (τ : Words) : Type 0 where
  pub below : (x : ℕ) → Below (fresh S) (τ x)
  pub solves : Solves τ S.equations
  pub words : (x : ℕ) → whole S τ x ≡ σ x

solves_on : (τ τ' : Words) (f : Side → Side) (G : Word → Word) (E : List Equation) → Solves τ E → AllByRecursion (λ s. fill τ' (f s) ≡ G (fill τ s)) (sides E) → Solves τ' (on_sides f E)
solves_on τ τ' f G [] h same = tt
solves_on τ τ' f G (e ∷ E) h same = (same.0 ∙ ap G h.0 ∙ sym same.1.0, solves_on τ τ' f G E h.1 same.1.1)

-- the words change at x alone
module _ (x : ℕ) (τ τ' : Words) (others : SameBut x τ τ') where
  elsewhere : (y : ℕ) → eqb x y ≡ false → τ' y ≡ τ y
  elsewhere y e = others y (λ d. eqb-false x y e (sym d))

  below_but : (k : ℕ) → ((y : ℕ) → Below k (τ y)) → Below k (τ' x) → (y : ℕ) → Below k (τ' y)
  below_but k each here y = split (cases_eq y x)
    where
      split : (y ≡ x) ⊎ (y ≡ x → ⊥) → Below k (τ' y)
      split (inl e) = subst (λ z. Below k (τ' z)) (sym e) here
      split (inr d) = subst (Below k) (sym (others y d)) (each y)

  swap_fill : (v : Side) → fill τ' v ≡ τ x → (s : Side) → fill τ' (swap x v s) ≡ fill τ s
  swap_fill v same s = swap_means (filled τ) (filled τ') x v (λ _. refl) elsewhere same s

-- a choice that makes a letter
made_words : (S : Standing) → WellFormed S → (rules : List Rule) → SpellsOlder S.rules rules → (τ τ' : Words) → ((y : ℕ) → spell_word rules (τ' y) ≡ spell_word S.rules (τ y)) → (y : ℕ) → whole (record { equations = S.equations; rules = rules; pops = S.pops ++ [] }) τ' y ≡ whole S τ y
made_words S formed rules older τ τ' same y =
    whole_assembled (record { equations = S.equations; rules = rules; pops = S.pops ++ [] }) τ' y ∙
    rules_assembled S formed rules older (λ z. spell_word rules (τ' z)) y ∙
    ap (λ w. spell_word S.rules (lefts S y) ++ (w ++ spell_word S.rules (reverse (rights S y)))) (same y) ∙
    sym (whole_assembled S τ y)

pub kept_taken : (σ : Words) (S : Standing) (τ : Words) (choice : Choice) (τ' : Words) → WellFormed S → Fits S τ choice τ' → Kept σ S τ → Kept σ (taken S choice) τ'
kept_taken σ S τ (Left x a) τ' formed fits kept =
    let letters : Below (fresh S) (a ∷ τ' x) = subst (Below (fresh S)) fits.1 (kept.below x) in
    let v : Side = Letter a ∷ Variable x ∷ [] in
    record {
      below = below_but x τ τ' fits.2 (fresh S) kept.below letters.1;
      solves = solves_on τ τ' (swap x v) (λ w. w) S.equations kept.solves (all_each (λ s. fill τ' (swap x v s) ≡ fill τ s) (swap_fill x τ τ' fits.2 v (ap (λ r. a ∷ r) (append-nil (τ' x)) ∙ sym fits.1)) (sides S.equations));
      words = λ y.
          whole_assembled (taken S (Left x a)) τ' y ∙
          left_assembled S x a (λ z. spell_word S.rules (τ z)) (λ z. spell_word S.rules (τ' z)) (ap (spell_word S.rules) fits.1) (λ z e. ap (spell_word S.rules) (sym (elsewhere x τ τ' fits.2 z e))) y ∙
          sym (whole_assembled S τ y) ∙ kept.words y;
    }
kept_taken σ S τ (Right x a) τ' formed fits kept =
    let letters : Below (fresh S) (τ' x ++ (a ∷ [])) = subst (Below (fresh S)) fits.1 (kept.below x) in
    let v : Side = Variable x ∷ Letter a ∷ [] in
    record {
      below = below_but x τ τ' fits.2 (fresh S) kept.below (below_front (fresh S) (τ' x) (a ∷ []) letters);
      solves = solves_on τ τ' (swap x v) (λ w. w) S.equations kept.solves (all_each (λ s. fill τ' (swap x v s) ≡ fill τ s) (swap_fill x τ τ' fits.2 v (sym fits.1)) (sides S.equations));
      words = λ y.
          whole_assembled (taken S (Right x a)) τ' y ∙
          right_assembled S x a (λ z. spell_word S.rules (τ z)) (λ z. spell_word S.rules (τ' z)) (ap (spell_word S.rules) fits.1 ∙ joined-++ (spell S.rules) (τ' x) (a ∷ []) ∙ ap (λ r. spell_word S.rules (τ' x) ++ r) (append-nil (spell S.rules a))) (λ z e. ap (spell_word S.rules) (sym (elsewhere x τ τ' fits.2 z e))) y ∙
          sym (whole_assembled S τ y) ∙ kept.words y;
    }
kept_taken σ S τ (Erase x) τ' formed fits kept =
    record {
      below = λ y. subst (Below (fresh S)) (sym (fits.2 y)) (kept.below y);
      solves = solves_on τ τ' (swap x []) (λ w. w) S.equations kept.solves (all_each (λ s. fill τ' (swap x [] s) ≡ fill τ s) (swap_fill x τ τ' (λ y _. fits.2 y) [] (sym fits.1)) (sides S.equations));
      words = λ y. made_words S formed S.rules (λ _ _. refl) τ τ' (λ z. ap (spell_word S.rules) (fits.2 z)) y ∙ kept.words y;
    }
kept_taken σ S τ (Pair a b) τ' formed fits kept =
    let k : ℕ = fresh S in
    let m : ℕ = known (PairRule a b ∷ S.rules) in
    let more : k ≤ m = omega arith in
    let newest : k < m = omega arith in
    let f : ℕ → Word = spell S.rules in
    let g : ℕ → Word = spell (PairRule a b ∷ S.rules) in
    let made : τ' ≡ (λ y. word_pairs a b k (τ y)) = fun_ext fits.4 in
    record {
      below = λ y. subst (Below m) (sym (fits.4 y)) (all_pairs (λ l. eqb l a) (λ l. eqb l b) k (λ l. l < m) newest (τ y) (below_more k m more (τ y) (kept.below y)));
      solves = solves_on τ τ' (side_pairs a b k) (word_pairs a b k) S.equations kept.solves
          (All-weaker (λ s. Crosses a b τ s → ⊥) (λ s. fill τ' (side_pairs a b k s) ≡ word_pairs a b k (fill τ s)) (λ s none. ap (λ (w : Words). fill w (side_pairs a b k s)) made ∙ pairs_before_or_after a b k τ s none) (sides S.equations) fits.3);
      words = λ y. made_words S formed (PairRule a b ∷ S.rules) (spell_older (PairRule a b) S.rules) τ τ'
          (λ z. ap (spell_word (PairRule a b ∷ S.rules)) (fits.4 z) ∙
          joined_pairs (λ l. eqb l a) (λ l. eqb l b) k f g (λ u v eu ev. spell_newest (PairRule a b) S.rules ∙ sym (ap₂ (λ r s. f r ++ f s) (eqb-true u a eu) (eqb-true v b ev))) (τ z)
          (All-weaker (λ l. l < k) (λ l. g l ≡ f l) (spell_older (PairRule a b) S.rules) (τ z) (kept.below z)))
          y ∙ kept.words y;
    }
kept_taken σ S τ (Block a n) τ' formed fits kept =
    let k : ℕ = fresh S in
    let m : ℕ = known (BlockRule a n ∷ S.rules) in
    let more : k ≤ m = omega arith in
    let newest : k < m = omega arith in
    let old : a < m = omega (arith, fits.0) in
    let f : ℕ → Word = spell S.rules in
    let g : ℕ → Word = spell (BlockRule a n ∷ S.rules) in
    let made : τ' ≡ (λ y. word_blocks a n k (τ y)) = fun_ext fits.4 in
    record {
      below = λ y. subst (Below m) (sym (fits.4 y)) (all_blocks (λ l. eqb l a) a n k (λ l. l < m) old newest (τ y) 0 (below_more k m more (τ y) (kept.below y)));
      solves = solves_on τ τ' (side_blocks a n k) (word_blocks a n k) S.equations kept.solves
          (All-weaker (λ s. Crosses a a τ s → ⊥) (λ s. fill τ' (side_blocks a n k s) ≡ word_blocks a n k (fill τ s)) (λ s none. ap (λ (w : Words). fill w (side_blocks a n k s)) made ∙ blocks_before_or_after a n k τ s fits.1 none) (sides S.equations) fits.3);
      words = λ y. made_words S formed (BlockRule a n ∷ S.rules) (spell_older (BlockRule a n) S.rules) τ τ'
          (λ z. ap (spell_word (BlockRule a n ∷ S.rules)) (fits.4 z) ∙
          joined_blocks (λ l. eqb l a) a n k f g (spell_older (BlockRule a n) S.rules a fits.0) (spell_newest (BlockRule a n) S.rules) (λ u e. ap f (eqb-true u a e)) (τ z) 0
          (All-weaker (λ l. l < k) (λ l. g l ≡ f l) (spell_older (BlockRule a n) S.rules) (τ z) (kept.below z)))
          y ∙ kept.words y;
    }

-- of a variable that is no longer live nothing was left, and that stays
stays_empty : (S : Standing) (τ : Words) (choice : Choice) (τ' : Words) → Fits S τ choice τ' → (x : ℕ) → live S x ≡ false → τ x ≡ [] → τ' x ≡ []
stays_empty S τ (Left y a) τ' fits x gone e = fits.2 x (λ d. both_ways (live S x) gone (subst (λ z. live S z ≡ true) (sym d) fits.0)) ∙ e
stays_empty S τ (Right y a) τ' fits x gone e = fits.2 x (λ d. both_ways (live S x) gone (subst (λ z. live S z ≡ true) (sym d) fits.0)) ∙ e
stays_empty S τ (Erase y) τ' fits x gone e = fits.2 x ∙ e
stays_empty S τ (Pair a b) τ' fits x gone e = fits.4 x ∙ ap (word_pairs a b (fresh S)) e
stays_empty S τ (Block a n) τ' fits x gone e =
    fits.4 x ∙ ap (word_blocks a n (fresh S)) e ∙ cond-false (eqb 0 n) (fresh S ∷ []) [] (ne_eqb 0 n (λ z. omega (arith, fits.1)))

-- or it is erased now, and the choice fits
erased_empty : (S : Standing) (τ : Words) (choice : Choice) (τ' : Words) → Fits S τ choice τ' → (x : ℕ) → erases x choice ≡ true → τ' x ≡ []
erased_empty S τ (Left y a) τ' fits x e = absurd (both_ways false refl e)
erased_empty S τ (Right y a) τ' fits x e = absurd (both_ways false refl e)
erased_empty S τ (Erase y) τ' fits x e = fits.2 x ∙ ap τ (eqb-true x y e) ∙ fits.1
erased_empty S τ (Pair a b) τ' fits x e = absurd (both_ways false refl e)
erased_empty S τ (Block a n) τ' fits x e = absurd (both_ways false refl e)

pub nothing_left_taken : (loads : List Load) (S : Standing) (τ : Words) (choice : Choice) (τ' : Words) → Fits S τ choice τ' → NothingLeft loads S τ → NothingLeft loads (taken S choice) τ'
nothing_left_taken loads S τ choice τ' fits left x of gone = split (cases_Bool (live S x)) (cases_Bool (erases x choice))
  where
    split : (live S x ≡ true) ⊎ (live S x ≡ false) → (erases x choice ≡ true) ⊎ (erases x choice ≡ false) → τ' x ≡ []
    split (inr before) more = stays_empty S τ choice τ' fits x before (left x of before)
    split (inl here) (inl now) = erased_empty S τ choice τ' fits x now
    split (inl here) (inr other) = absurd (both_ways (live (taken S choice) x) gone (live_taken S choice x other ∙ here))

-- a side with no variable is its letters
bare : (τ : Words) (s : Side) → ((x : ℕ) → Gone x s) → s ≡ map Letter (fill τ s)
bare τ [] h = refl
bare τ (Letter a ∷ s) h = ap (λ r. Letter a ∷ r) (bare τ s (λ x. (h x).1))
bare τ (Variable y ∷ s) h = absurd (both_ways (eqb y y) (h y).0 (eq-eqb y y refl))

bare_equal : (τ : Words) (E : List Equation) → ((x : ℕ) → AllByRecursion (Gone x) (sides E)) → Solves τ E → AllByRecursion SameSides E
bare_equal τ [] h solves = tt
bare_equal τ (e ∷ E) h solves = (bare τ e.0 (λ x. (h x).0) ∙ ap (map Letter) solves.0 ∙ sym (bare τ e.1 (λ x. (h x).1.0)), bare_equal τ E (λ x. (h x).1.1) solves.1)

-- the whole run

follows_reaches : {loads : List Load} {σ : Words} {choices : List Choice} {S : Standing} {τ : Words} → Follows loads σ choices S τ → Reaches loads choices S
follows_reaches beginning = opening
follows_reaches (fitting follows choice τ' free fits) = choosing (follows_reaches follows) choice
follows_reaches (passing follows choice why because) = choosing (follows_reaches follows) choice

plain : (w : Word) → spell_word [] w ≡ w
plain [] = refl
plain (l ∷ w) = ap (λ r. l ∷ r) (plain w)

-- the words that are followed, and that nothing is left of a variable that is gone
abbrev KeptSoFar : List Load → Words → Standing → Words → Type 0
KeptSoFar loads σ S τ = Kept σ S τ × NothingLeft loads S τ

kept_first : (loads : List Load) (σ : Words) → Solution σ (loaded loads) → KeptSoFar loads σ (opened loads) σ
kept_first loads σ solution = (
  subst (λ S. Kept σ S σ) (opened_bare loads) (record { below = solution.a_to_z; solves = solution.solves; words = λ x. plain (σ x ++ []) ∙ append-nil (σ x) }),
  λ x of gone. absurd (both_ways (live (opened loads) x) gone of),
)

kept_followed : (loads : List Load) (σ : Words) → Solution σ (loaded loads) → (choices : List Choice) (S : Standing) (τ : Words) → Follows loads σ choices S τ → KeptSoFar loads σ S τ
kept_followed loads σ solution choices S τ beginning = kept_first loads σ solution
kept_followed loads σ solution choices S τ (fitting {choices = earlier} {S = T} {τ = υ} follows choice τ' free fits) =
    let kept : KeptSoFar loads σ T υ = kept_followed loads σ solution earlier T υ follows in
    subst (λ U. KeptSoFar loads σ U τ') (sym (after_taken T choice free))
    (kept_taken σ T υ choice τ' (runs_are_well_formed loads earlier T (follows_reaches follows)) fits kept.0, nothing_left_taken loads T υ choice τ' fits kept.1)
kept_followed loads σ solution choices S τ (passing {choices = earlier} {S = T} {τ = υ} follows choice why because) =
    subst (λ U. KeptSoFar loads σ U υ) (sym (after_refused T choice why because)) (kept_followed loads σ solution earlier T υ follows)

pub complete : Complete
complete loads choices S σ τ solution follows =
    let so_far : KeptSoFar loads σ S τ = kept_followed loads σ solution choices S τ follows in
    let kept : Kept σ S τ = so_far.0 in
    record {
      reaches = follows_reaches follows;
      solves = kept.solves;
      known_words = kept.below;
      nothing_left = so_far.1;
      whole_words = kept.words;
      no_needless_refusal = λ choice τ' fits. fits_by_limit S τ choice τ' kept.below fits;
      same_sides = λ none. bare_equal τ S.equations (λ x. gone_everywhere S x (none x)) kept.solves;
      same_words = λ none x of. ap (λ w. spell_word S.rules (around S x w)) (sym (so_far.1 x of (none x))) ∙ kept.words x;
    }
