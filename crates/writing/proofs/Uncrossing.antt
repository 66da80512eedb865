-- After the uncrossing pops nothing crosses. Assumes nothing.
use Rattle.std.proofs.Common.{◌≡◌, ℕ, zero, suc, ◌+◌, ◌<◌, ◌≤◌, Bool, true, false, ◌&&◌, eqb, ◌≢◌, ◌⊎◌, List, [], ◌∷◌, ◌++◌, length, sym, refl, ap, ◌∙◌, subst, inl, inr, append_assoc, append-nil, arith, length-append}
use Rattle.std.specs.List.{AllByRecursion}
use Rattle.std.proofs.ByRecursion.{All-append, All-weaker}
use Rattle.std.proofs.lemmas.Bool.{cond_both, and_parts, and_cases, both_ways, eqb-true, eq-eqb, or_left, or_right, false≢true}
use Rattle.model.specs.Spelling.{Word}
use Rattle.model.proofs.Spelling.{joined-++}
use Rattle.systems.specs.declared.Choice.{Choice}
use Rattle.systems.specs.declared.Choice.TheVariants.{Left, Right, Erase, Pair, Block}
use Rattle.systems.specs.declared.Place.TheVariants.{Letter, Variable}
use Rattle.systems.specs.Choices.{swap}
use Rattle.systems.specs.Fitting.{EndsWith, BeginsWith, Crosses, NoneCrosses}
use Rattle.systems.specs.Rows.{any}
use Rattle.systems.specs.Sides.{Side, sides, is_variable, Words, filled, fill}
use Rattle.systems.proofs.Living.{all_sides, erased_gone}
use Rattle.systems.proofs.Rows.{all_each}
use Rattle.writing.specs.Writer.{State, lives, next, follow, Part, then, again, each, from, pop_first, pop_last, erase_empty, for_pair, for_block, rest, front, begins, ends, empty, put}
use Rattle.writing.proofs.Lists.{begins_true, ends_true, begins-++, ends-++, is_begun, is_ended, begins_front, put_here, put_there}
use Rattle.writing.proofs.Parts.{then_is, then_makes, Keeps, again_keeps, each_makes, lives_before}

-- each x has the letter b right before it, where `ready` says that b stands right before the side
abbrev pub Led : ℕ → ℕ → Bool → Side → Type 0
Led x b ready [] = Unit {0}
Led x b ready (Letter l ∷ s) = Led x b (eqb l b) s
Led x b ready (Variable y ∷ s) = (eqb x y ≡ true → ready ≡ true) × Led x b false s

abbrev pub starts : ℕ → Side → Bool
starts a [] = false
starts a (Letter l ∷ s) = eqb l a
starts a (Variable y ∷ s) = false

-- each x has the letter a right behind it
abbrev pub Trailed : ℕ → ℕ → Side → Type 0
Trailed x a [] = Unit {0}
Trailed x a (Letter l ∷ s) = Trailed x a s
Trailed x a (Variable y ∷ s) = (eqb x y ≡ true → starts a s ≡ true) × Trailed x a s

module _ (x b : ℕ) where
  led_more : (t t' : Bool) → (t ≡ true → t' ≡ true) → (s : Side) → Led x b t s → Led x b t' s
  led_more t t' more [] h = tt
  led_more t t' more (Letter l ∷ s) h = h
  led_more t t' more (Variable y ∷ s) h = (λ e. more (h.0 e), h.1)

  led_any : (t : Bool) (s : Side) → Led x b false s → Led x b t s
  led_any t s h = led_more false t (λ e. absurd (false≢true e)) s h

  led_made : (t : Bool) (s : Side) → Led x b t (swap x (Letter b ∷ Variable x ∷ []) s)
  led_made t [] = tt
  led_made t (Letter l ∷ s) = led_made (eqb l b) s
  led_made t (Variable y ∷ s) =
      cond_both (eqb x y) (Letter b ∷ Variable x ∷ []) (Variable y ∷ []) (λ v. Led x b t (v ++ swap x (Letter b ∷ Variable x ∷ []) s))
      (λ _. (λ _. eq-eqb b b refl, led_made false s))
      (λ e. (λ f. absurd (both_ways (eqb x y) e f), led_made false s))

  abbrev LedThrough : ℕ → Side → Type 0
  LedThrough y v = (t : Bool) (s : Side) → (eqb x y ≡ true → t ≡ true) → Led x b false s → Led x b t (v ++ s)

  led_swap : (y : ℕ) (v : Side) → LedThrough y v → (s : Side) (t t' : Bool) → (t ≡ true → t' ≡ true) → Led x b t s → Led x b t' (swap y v s)
  led_swap y v through [] t t' more h = tt
  led_swap y v through (Letter l ∷ s) t t' more h = led_swap y v through s (eqb l b) (eqb l b) (λ e. e) h
  led_swap y v through (Variable z ∷ s) t t' more h =
      cond_both (eqb y z) v (Variable z ∷ []) (λ r. Led x b t' (r ++ swap y v s))
      (λ e. through t' (swap y v s) (λ f. more (h.0 (subst (λ u. eqb x u ≡ true) (eqb-true y z e) f))) (led_swap y v through s false false (λ e. e) h.1))
      (λ _. (λ f. more (h.0 f), led_swap y v through s false false (λ e. e) h.1))

  through_left : (y l : ℕ) → x ≢ y → LedThrough y (Letter l ∷ Variable y ∷ [])
  through_left y l d t s ok h = (λ e. absurd (d (eqb-true x y e)), h)

  through_right : (y l : ℕ) → LedThrough y (Variable y ∷ Letter l ∷ [])
  through_right y l t s ok h = (ok, led_any (eqb l b) s h)

  through_none : (y : ℕ) → LedThrough y []
  through_none y t s ok h = led_any t s h

module _ (x a : ℕ) where
  trailed_made : (s : Side) → Trailed x a (swap x (Variable x ∷ Letter a ∷ []) s)
  trailed_made [] = tt
  trailed_made (Letter l ∷ s) = trailed_made s
  trailed_made (Variable y ∷ s) =
      cond_both (eqb x y) (Variable x ∷ Letter a ∷ []) (Variable y ∷ []) (λ v. Trailed x a (v ++ swap x (Variable x ∷ Letter a ∷ []) s))
      (λ _. (λ _. eq-eqb a a refl, trailed_made s))
      (λ e. (λ f. absurd (both_ways (eqb x y) e f), trailed_made s))

  starts_swap : (y : ℕ) (v : Side) (s : Side) → starts a s ≡ true → starts a (swap y v s) ≡ true
  starts_swap y v [] e = e
  starts_swap y v (Letter l ∷ s) e = e
  starts_swap y v (Variable z ∷ s) e = absurd (false≢true e)

  abbrev TrailedThrough : ℕ → Side → Type 0
  TrailedThrough y v = (s : Side) → (eqb x y ≡ true → starts a s ≡ true) → Trailed x a s → Trailed x a (v ++ s)

  trailed_swap : (y : ℕ) (v : Side) → TrailedThrough y v → (s : Side) → Trailed x a s → Trailed x a (swap y v s)
  trailed_swap y v through [] h = tt
  trailed_swap y v through (Letter l ∷ s) h = trailed_swap y v through s h
  trailed_swap y v through (Variable z ∷ s) h =
      cond_both (eqb y z) v (Variable z ∷ []) (λ r. Trailed x a (r ++ swap y v s))
      (λ e. through (swap y v s) (λ f. starts_swap y v s (h.0 (subst (λ u. eqb x u ≡ true) (eqb-true y z e) f))) (trailed_swap y v through s h.1))
      (λ _. (λ f. starts_swap y v s (h.0 f), trailed_swap y v through s h.1))

  through_left' : (y l : ℕ) → TrailedThrough y (Letter l ∷ Variable y ∷ [])
  through_left' y l s ok h = (ok, h)

  through_right' : (y l : ℕ) → x ≢ y → TrailedThrough y (Variable y ∷ Letter l ∷ [])
  through_right' y l d s ok h = (λ e. absurd (d (eqb-true x y e)), h)

  through_none' : (y : ℕ) → TrailedThrough y []
  through_none' y s ok h = h

-- what is wanted of a variable x for ab: no b can come first at it unless a b stands before it, and no a last unless an a stands behind it

abbrev pub LeftClear : ℕ → ℕ → State → Type 0
LeftClear b x st = (begins b (st.words x) ≡ false) ⊎ AllByRecursion (Led x b false) (sides st.stands.equations)

abbrev pub RightClear : ℕ → ℕ → State → Type 0
RightClear a x st = (ends a (st.words x) ≡ false) ⊎ AllByRecursion (Trailed x a) (sides st.stands.equations)

abbrev pub Clear : ℕ → ℕ → ℕ → State → Type 0
Clear a b x st = lives st x ≡ true → (empty (st.words x) ≡ false) × LeftClear b x st × RightClear a x st

-- the choices of one variable
abbrev pub Of : ℕ → Choice → Type 0
Of y (Left z l) = z ≡ y
Of y (Right z l) = z ≡ y
Of y (Erase z) = z ≡ y
Of y (Pair a b) = ⊥
Of y (Block a n) = ⊥

module _ (Q : State → Type 0) (y : ℕ) (step : (st : State) (choice : Choice) → Of y choice → Q st → Q (next st choice)) where
  pub follow_of : (list : List Choice) (st : State) → AllByRecursion (Of y) list → Q st → Q (follow st list)
  follow_of [] st of h = h
  follow_of (choice ∷ more) st of h = follow_of more (next st choice) of.1 (step st choice of.0 h)

abbrev pub AllOf : ℕ → Part → Type 0
AllOf y p = (st : State) → AllByRecursion (Of y) (p st)

then_of : (y : ℕ) (p q : Part) → AllOf y p → AllOf y q → AllOf y (then p q)
then_of y p q h k st = subst (AllByRecursion (Of y)) (sym (then_is p q st)) (All-append (Of y) (p st) (q (follow st (p st))) (h st) (k (follow st (p st))))

again_of : (y : ℕ) (p : Part) → AllOf y p → (n : ℕ) → AllOf y (again n p)
again_of y p h zero st = tt
again_of y p h (suc n) st = then_of y p (again n p) h (again_of y p h n) st

first_of : (a y : ℕ) → AllOf y (pop_first a y)
first_of a y st = cond_both (lives st y && begins a (st.words y)) (Left y a ∷ []) [] (AllByRecursion (Of y)) (λ _. (refl, tt)) (λ _. tt)

last_of : (a y : ℕ) → AllOf y (pop_last a y)
last_of a y st = cond_both (lives st y && ends a (st.words y)) (Right y a ∷ []) [] (AllByRecursion (Of y)) (λ _. (refl, tt)) (λ _. tt)

pub erase_of : (y : ℕ) → AllOf y (erase_empty y)
erase_of y st = cond_both (lives st y && empty (st.words y)) (Erase y ∷ []) [] (AllByRecursion (Of y)) (λ _. (refl, tt)) (λ _. tt)

pub for_pair_of : (a b y : ℕ) → AllOf y (for_pair a b y)
for_pair_of a b y = then_of y (pop_first b y) (then (pop_last a y) (erase_empty y)) (first_of b y) (then_of y (pop_last a y) (erase_empty y) (last_of a y) (erase_of y))

for_block_of : (a y : ℕ) → AllOf y (for_block a y)
for_block_of a y st =
    let n : ℕ = length (st.words y) in
    then_of y (again n (pop_first a y)) (then (again n (pop_last a y)) (erase_empty y)) (again_of y (pop_first a y) (first_of a y) n)
    (then_of y (again n (pop_last a y)) (erase_empty y) (again_of y (pop_last a y) (last_of a y) n) (erase_of y)) st

-- the choices of another variable leave the word of x
pub other_word : (x y : ℕ) → x ≢ y → (st : State) (choice : Choice) → Of y choice → (next st choice).words x ≡ st.words x
other_word x y d st (Left z l) e = put_there st.words z (rest (st.words z)) x (λ f. d (f ∙ e))
other_word x y d st (Right z l) e = put_there st.words z (front (st.words z)) x (λ f. d (f ∙ e))
other_word x y d st (Erase z) e = refl
other_word x y d st (Pair a b) e = absurd e
other_word x y d st (Block a n) e = absurd e

-- and what stands beside it
other_led : (x b y : ℕ) → x ≢ y → (st : State) (choice : Choice) → Of y choice → AllByRecursion (Led x b false) (sides st.stands.equations) → AllByRecursion (Led x b false) (sides (next st choice).stands.equations)
other_led x b y d st (Left z l) e h = all_sides (Led x b false) (Led x b false) (swap z (Letter l ∷ Variable z ∷ [])) (λ s. led_swap x b z (Letter l ∷ Variable z ∷ []) (through_left x b z l (λ f. d (f ∙ e))) s false false (λ e. e)) st.stands.equations h
other_led x b y d st (Right z l) e h = all_sides (Led x b false) (Led x b false) (swap z (Variable z ∷ Letter l ∷ [])) (λ s. led_swap x b z (Variable z ∷ Letter l ∷ []) (through_right x b z l) s false false (λ e. e)) st.stands.equations h
other_led x b y d st (Erase z) e h = all_sides (Led x b false) (Led x b false) (swap z []) (λ s. led_swap x b z [] (through_none x b z) s false false (λ e. e)) st.stands.equations h
other_led x b y d st (Pair _ _) e h = absurd e
other_led x b y d st (Block _ _) e h = absurd e

other_trailed : (x a y : ℕ) → x ≢ y → (st : State) (choice : Choice) → Of y choice → AllByRecursion (Trailed x a) (sides st.stands.equations) → AllByRecursion (Trailed x a) (sides (next st choice).stands.equations)
other_trailed x a y d st (Left z l) e h = all_sides (Trailed x a) (Trailed x a) (swap z (Letter l ∷ Variable z ∷ [])) (trailed_swap x a z (Letter l ∷ Variable z ∷ []) (through_left' x a z l)) st.stands.equations h
other_trailed x a y d st (Right z l) e h = all_sides (Trailed x a) (Trailed x a) (swap z (Variable z ∷ Letter l ∷ [])) (trailed_swap x a z (Variable z ∷ Letter l ∷ []) (through_right' x a z l (λ f. d (f ∙ e)))) st.stands.equations h
other_trailed x a y d st (Erase z) e h = all_sides (Trailed x a) (Trailed x a) (swap z []) (trailed_swap x a z [] (through_none' x a z)) st.stands.equations h
other_trailed x a y d st (Pair _ _) e h = absurd e
other_trailed x a y d st (Block _ _) e h = absurd e

clear_other : (a b x y : ℕ) → x ≢ y → (st : State) (choice : Choice) → Of y choice → Clear a b x st → Clear a b x (next st choice)
clear_other a b x y d st choice of clear alive =
    let before = clear (lives_before st choice x alive) in
    let same : (next st choice).words x ≡ st.words x = other_word x y d st choice of in
    (ap empty same ∙ before.0, lefts same before.1, rights same before.2)
  where
    lefts : (next st choice).words x ≡ st.words x → LeftClear b x st → LeftClear b x (next st choice)
    lefts same (inl e) = inl (ap (begins b) same ∙ e)
    lefts same (inr h) = inr (other_led x b y d st choice of h)

    rights : (next st choice).words x ≡ st.words x → RightClear a x st → RightClear a x (next st choice)
    rights same (inl e) = inl (ap (ends a) same ∙ e)
    rights same (inr h) = inr (other_trailed x a y d st choice of h)

-- what the pops of x for a pair make
module _ (a b x : ℕ) where
  abbrev L : State → Type 0
  L st = lives st x ≡ true → LeftClear b x st

  abbrev R : State → Type 0
  R st = lives st x ≡ true → RightClear a x st

  first_makes : (st : State) → L (follow st (pop_first b x st))
  first_makes st =
      cond_both (lives st x && begins b (st.words x)) (Left x b ∷ []) [] (λ l. L (follow st l))
      (λ _ _. inr (all_sides (λ _. Unit {0}) (Led x b false) (swap x (Letter b ∷ Variable x ∷ [])) (λ s _. led_made x b false s) st.stands.equations (all_each (λ _. Unit {0}) (λ _. tt) (sides st.stands.equations))))
      (λ e alive. inl (not_begun alive (and_cases (lives st x) (begins b (st.words x)) e)))
    where
      not_begun : lives st x ≡ true → (lives st x ≡ false) ⊎ (begins b (st.words x) ≡ false) → begins b (st.words x) ≡ false
      not_begun alive (inl dead) = absurd (both_ways (lives st x) dead alive)
      not_begun alive (inr e) = e

  last_makes : (st : State) → R (follow st (pop_last a x st))
  last_makes st =
      cond_both (lives st x && ends a (st.words x)) (Right x a ∷ []) [] (λ l. R (follow st l))
      (λ _ _. inr (all_sides (λ _. Unit {0}) (Trailed x a) (swap x (Variable x ∷ Letter a ∷ [])) (λ s _. trailed_made x a s) st.stands.equations (all_each (λ _. Unit {0}) (λ _. tt) (sides st.stands.equations))))
      (λ e alive. inl (not_ended alive (and_cases (lives st x) (ends a (st.words x)) e)))
    where
      not_ended : lives st x ≡ true → (lives st x ≡ false) ⊎ (ends a (st.words x) ≡ false) → ends a (st.words x) ≡ false
      not_ended alive (inl dead) = absurd (both_ways (lives st x) dead alive)
      not_ended alive (inr e) = e

  last_keeps : Keeps L (pop_last a x)
  last_keeps st h =
      cond_both (lives st x && ends a (st.words x)) (Right x a ∷ []) [] (λ l. L (follow st l))
      (λ _ alive. on (h (lives_before st (Right x a) x alive)))
      (λ _. h)
    where
      on : LeftClear b x st → LeftClear b x (next st (Right x a))
      on (inl e) = inl (ap (begins b) (put_here st.words x (front (st.words x))) ∙ begins_front b (st.words x) e)
      on (inr k) = inr (all_sides (Led x b false) (Led x b false) (swap x (Variable x ∷ Letter a ∷ [])) (λ s. led_swap x b x (Variable x ∷ Letter a ∷ []) (through_right x b x a) s false false (λ e. e)) st.stands.equations k)

  erase_makes : (st : State) → L st → R st → Clear a b x (follow st (erase_empty x st))
  erase_makes st l r =
      cond_both (lives st x && empty (st.words x)) (Erase x ∷ []) [] (λ k. Clear a b x (follow st k))
      (λ _ alive. absurd (both_ways (lives (next st (Erase x)) x) (erased_gone st.stands x) alive))
      (λ e alive. (full alive (and_cases (lives st x) (empty (st.words x)) e), l alive, r alive))
    where
      full : lives st x ≡ true → (lives st x ≡ false) ⊎ (empty (st.words x) ≡ false) → empty (st.words x) ≡ false
      full alive (inl dead) = absurd (both_ways (lives st x) dead alive)
      full alive (inr e) = e

  pair_makes : (st : State) → Clear a b x (follow st (for_pair a b x st))
  pair_makes st =
      let st₁ : State = follow st (pop_first b x st) in
      let st₂ : State = follow st₁ (pop_last a x st₁) in
      then_makes (pop_first b x) (then (pop_last a x) (erase_empty x)) (Clear a b x) st
      (then_makes (pop_last a x) (erase_empty x) (Clear a b x) st₁
      (erase_makes st₂ (last_keeps st₁ (first_makes st)) (last_makes st₁)))

pub pairs_clear : (a b : ℕ) (n : ℕ) (st : State) (x : ℕ) → x < 0 + n → Clear a b x (follow st (each (for_pair a b) (from 0 n) st))
pairs_clear a b n st x lt = each_makes (for_pair a b) (Clear a b) (pair_makes a b) (λ x y d st h. follow_of (Clear a b x) y (clear_other a b x y d) (for_pair a b y st) st (for_pair_of a b y st) h) n 0 st (λ y l. absurd (omega arith)) x lt

-- what the pops of x for a block make: its word neither begins nor ends with a

abbrev pub Bare : ℕ → ℕ → State → Type 0
Bare a x st = lives st x ≡ true → (empty (st.words x) ≡ false) × (begins a (st.words x) ≡ false) × (ends a (st.words x) ≡ false)

bare_other : (a x y : ℕ) → x ≢ y → (st : State) (choice : Choice) → Of y choice → Bare a x st → Bare a x (next st choice)
bare_other a x y d st choice of h alive =
    let k = h (lives_before st choice x alive) in
    let same : (next st choice).words x ≡ st.words x = other_word x y d st choice of in
    (ap empty same ∙ k.0, ap (begins a) same ∙ k.1, ap (ends a) same ∙ k.2)

-- either k is enough pops, or none is needed
module _ (a x : ℕ) where
  abbrev Unbegun : State → Type 0
  Unbegun st = lives st x ≡ true → begins a (st.words x) ≡ false

  abbrev Unended : State → Type 0
  Unended st = lives st x ≡ true → ends a (st.words x) ≡ false

  guard_false : (p q : Bool) → (p && q) ≡ false → p ≡ true → q ≡ false
  guard_false p q e alive = split (and_cases p q e)
    where
      split : (p ≡ false) ⊎ (q ≡ false) → q ≡ false
      split (inl dead) = absurd (both_ways p dead alive)
      split (inr f) = f

  none_begins : (w : Word) → length w ≤ 0 → begins a w ≡ false
  none_begins [] h = refl
  none_begins (l ∷ w) h = absurd (omega arith)

  none_ends : (w : Word) → length w ≤ 0 → ends a w ≡ false
  none_ends [] h = refl
  none_ends (l ∷ w) h = absurd (omega arith)

  firsts_make : (n : ℕ) (st : State) → (length (st.words x) ≤ n) ⊎ Unbegun st → Unbegun (follow st (again n (pop_first a x) st))
  firsts_make zero st (inl short) = λ _. none_begins (st.words x) short
  firsts_make zero st (inr h) = h
  firsts_make (suc n) st enough =
      let w : Word = st.words x in
      then_makes (pop_first a x) (again n (pop_first a x)) Unbegun st
      (firsts_make n (follow st (pop_first a x st))
      (cond_both (lives st x && begins a w) (Left x a ∷ []) [] (λ l. (length ((follow st l).words x) ≤ n) ⊎ Unbegun (follow st l))
      (λ e. inl (fewer (and_parts (lives st x) (begins a w) e) enough))
      (λ e. inr (guard_false (lives st x) (begins a w) e))))
    where
      fewer : (lives st x ≡ true) × (begins a (st.words x) ≡ true) → (length (st.words x) ≤ suc n) ⊎ Unbegun st → length (put st.words x (rest (st.words x)) x) ≤ n
      fewer parts (inr h) = absurd (both_ways (begins a (st.words x)) (h parts.0) parts.1)
      fewer parts (inl short) =
          let long : length (st.words x) ≡ suc (length (rest (st.words x))) = ap length (begins_true a (st.words x) parts.1) in
          let left : length (put st.words x (rest (st.words x)) x) ≡ length (rest (st.words x)) = ap length (put_here st.words x (rest (st.words x))) in
          omega arith

  lasts_make : (n : ℕ) (st : State) → (length (st.words x) ≤ n) ⊎ Unended st → Unended (follow st (again n (pop_last a x) st))
  lasts_make zero st (inl short) = λ _. none_ends (st.words x) short
  lasts_make zero st (inr h) = h
  lasts_make (suc n) st enough =
      let w : Word = st.words x in
      then_makes (pop_last a x) (again n (pop_last a x)) Unended st
      (lasts_make n (follow st (pop_last a x st))
      (cond_both (lives st x && ends a w) (Right x a ∷ []) [] (λ l. (length ((follow st l).words x) ≤ n) ⊎ Unended (follow st l))
      (λ e. inl (fewer (and_parts (lives st x) (ends a w) e) enough))
      (λ e. inr (guard_false (lives st x) (ends a w) e))))
    where
      fewer : (lives st x ≡ true) × (ends a (st.words x) ≡ true) → (length (st.words x) ≤ suc n) ⊎ Unended st → length (put st.words x (front (st.words x)) x) ≤ n
      fewer parts (inr h) = absurd (both_ways (ends a (st.words x)) (h parts.0) parts.1)
      fewer parts (inl short) =
          let long : length (st.words x) ≡ length (front (st.words x) ++ (a ∷ [])) = ap length (ends_true a (st.words x) parts.1) in
          let left : length (put st.words x (front (st.words x)) x) ≡ length (front (st.words x)) = ap length (put_here st.words x (front (st.words x))) in
          omega (arith, length-append (front (st.words x)) (a ∷ []))

  -- no pop makes the word longer
  first_no_longer : (n : ℕ) → Keeps (λ st. length (st.words x) ≤ n) (pop_first a x)
  first_no_longer n st h =
      let w : Word = st.words x in
      cond_both (lives st x && begins a w) (Left x a ∷ []) [] (λ l. length ((follow st l).words x) ≤ n)
      (λ e. let long : length w ≡ suc (length (rest w)) = ap length (begins_true a w (and_parts (lives st x) (begins a w) e).1) in
      let left : length (put st.words x (rest w) x) ≡ length (rest w) = ap length (put_here st.words x (rest w)) in
      omega arith)
      (λ _. h)

  last_unbegun : Keeps Unbegun (pop_last a x)
  last_unbegun st h =
      cond_both (lives st x && ends a (st.words x)) (Right x a ∷ []) [] (λ l. Unbegun (follow st l))
      (λ _ alive. ap (begins a) (put_here st.words x (front (st.words x))) ∙ begins_front a (st.words x) (h (lives_before st (Right x a) x alive)))
      (λ _. h)

  erase_bare : (st : State) → Unbegun st → Unended st → Bare a x (follow st (erase_empty x st))
  erase_bare st l r =
      cond_both (lives st x && empty (st.words x)) (Erase x ∷ []) [] (λ k. Bare a x (follow st k))
      (λ _ alive. absurd (both_ways (lives (next st (Erase x)) x) (erased_gone st.stands x) alive))
      (λ e alive. (guard_false (lives st x) (empty (st.words x)) e alive, l alive, r alive))

  block_makes : (st : State) → Bare a x (follow st (for_block a x st))
  block_makes st =
      let n : ℕ = length (st.words x) in
      let self : length (st.words x) ≤ n = omega arith in
      let st₁ : State = follow st (again n (pop_first a x) st) in
      let st₂ : State = follow st₁ (again n (pop_last a x) st₁) in
      let short : length (st₁.words x) ≤ n = again_keeps (λ s. length (s.words x) ≤ n) (pop_first a x) (first_no_longer n) n st self in
      then_makes (again n (pop_first a x)) (then (again n (pop_last a x)) (erase_empty x)) (Bare a x) st
      (then_makes (again n (pop_last a x)) (erase_empty x) (Bare a x) st₁
      (erase_bare st₂ (again_keeps Unbegun (pop_last a x) last_unbegun n st₁ (firsts_make n st (inl self))) (lasts_make n st₁ (inl short))))

pub blocks_bare : (a : ℕ) (n : ℕ) (st : State) (x : ℕ) → x < 0 + n → Bare a x (follow st (each (for_block a) (from 0 n) st))
blocks_bare a n st x lt = each_makes (for_block a) (Bare a) (block_makes a) (λ x y d st h. follow_of (Bare a x) y (bare_other a x y d) (for_block a y st) st (for_block_of a y st) h) n 0 st (λ y l. absurd (omega arith)) x lt

-- where every live variable is clear, nothing crosses

abbrev Ok : ℕ → ℕ → Words → ℕ → Side → Type 0
Ok a b τ x s = (empty (τ x) ≡ false) × ((begins b (τ x) ≡ false) ⊎ ((a ≢ b) × Led x b false s)) × ((ends a (τ x) ≡ false) ⊎ ((a ≢ b) × Trailed x a s))

stands_at : (x : ℕ) (u v : Side) → any (is_variable x) (u ++ (Variable x ∷ v)) ≡ true
stands_at x [] v = or_left (eqb x x) (any (is_variable x) v) (eq-eqb x x refl)
stands_at x (p ∷ u) v = or_right (is_variable x p) (any (is_variable x) (u ++ (Variable x ∷ v))) (stands_at x u v)

trailed_at : (x a : ℕ) (u v : Side) → Trailed x a (u ++ (Variable x ∷ v)) → starts a v ≡ true
trailed_at x a [] v h = h.0 (eq-eqb x x refl)
trailed_at x a (Letter l ∷ u) v h = trailed_at x a u v h
trailed_at x a (Variable y ∷ u) v h = trailed_at x a u v h.1

abbrev last_is : ℕ → Bool → Side → Bool
last_is b t [] = t
last_is b t (Letter l ∷ s) = last_is b (eqb l b) s
last_is b t (Variable y ∷ s) = last_is b false s

led_at : (x b : ℕ) (u v : Side) (t : Bool) → Led x b t (u ++ (Variable x ∷ v)) → last_is b t u ≡ true
led_at x b [] v t h = h.0 (eq-eqb x x refl)
led_at x b (Letter l ∷ u) v t h = led_at x b u v (eqb l b) h
led_at x b (Variable y ∷ u) v t h = led_at x b u v false h.1

last_more : (b : ℕ) (t : Bool) (u : Side) → last_is b false u ≡ true → last_is b t u ≡ true
last_more b t [] e = absurd (false≢true e)
last_more b t (Letter l ∷ u) e = e
last_more b t (Variable y ∷ u) e = e

last_ends : (b : ℕ) (τ : Words) (u : Side) (w : Word) → last_is b (ends b w) u ≡ true → ends b (w ++ fill τ u) ≡ true
last_ends b τ [] w e = ap (ends b) (append-nil w) ∙ e
last_ends b τ (Letter l ∷ u) w e = ap (ends b) (sym (append_assoc w (l ∷ []) (fill τ u))) ∙ last_ends b τ u (w ++ (l ∷ [])) (ap (λ t. last_is b t u) (ends-++ b w (l ∷ []) refl) ∙ e)
last_ends b τ (Variable y ∷ u) w e = ap (ends b) (sym (append_assoc w (τ y) (fill τ u))) ∙ last_ends b τ u (w ++ τ y) (last_more b (ends b (w ++ τ y)) u e)

start_begins : (a b : ℕ) (τ : Words) (s : Side) → starts a s ≡ true → begins b (fill τ s) ≡ true → a ≡ b
start_begins a b τ [] e f = absurd (false≢true e)
start_begins a b τ (Letter l ∷ s) e f = sym (eqb-true l a e) ∙ eqb-true l b f
start_begins a b τ (Variable y ∷ s) e f = absurd (false≢true e)

uncrossed : (a b : ℕ) (τ : Words) (s : Side) → ((x : ℕ) → any (is_variable x) s ≡ true → Ok a b τ x s) → Crosses a b τ s → ⊥
uncrossed a b τ s ok k = split k.beside
  where
    split : ((x : ℕ) × EndsWith (Variable x) k.before) ⊎ ((x : ℕ) × BeginsWith (Variable x) k.behind) → ⊥
    split (inl (x, (u, e))) = right here.2
      where
        cut : s ≡ u ++ (Variable x ∷ k.behind)
        cut = k.cut ∙ ap (λ r. r ++ k.behind) e ∙ append_assoc u (Variable x ∷ []) k.behind

        here : Ok a b τ x s
        here = ok x (ap (any (is_variable x)) cut ∙ stands_at x u k.behind)

        right : ((ends a (τ x) ≡ false) ⊎ ((a ≢ b) × Trailed x a s)) → ⊥
        right (inl f) =
            let filled_in : fill τ k.before ≡ fill τ u ++ τ x = ap (fill τ) e ∙ joined-++ (filled τ) u (Variable x ∷ []) ∙ ap (λ r. fill τ u ++ r) (append-nil (τ x)) in
            both_ways (ends a (τ x)) f (sym (ends-++ a (fill τ u) (τ x) here.0) ∙ ap (ends a) (sym filled_in) ∙ is_ended a (fill τ k.before) k.ends)
        right (inr h) = h.0 (start_begins a b τ k.behind (trailed_at x a u k.behind (subst (Trailed x a) cut h.1)) (is_begun b (fill τ k.behind) k.begins))
    split (inr (x, (u, e))) = left here.1
      where
        cut : s ≡ k.before ++ (Variable x ∷ u)
        cut = k.cut ∙ ap (λ r. k.before ++ r) e

        here : Ok a b τ x s
        here = ok x (ap (any (is_variable x)) cut ∙ stands_at x k.before u)

        left : ((begins b (τ x) ≡ false) ⊎ ((a ≢ b) × Led x b false s)) → ⊥
        left (inl f) = both_ways (begins b (τ x)) f (sym (begins-++ b (τ x) (fill τ u) here.0) ∙ ap (λ r. begins b (fill τ r)) (sym e) ∙ is_begun b (fill τ k.behind) k.begins)
        left (inr h) =
            let last : ends b (fill τ k.before) ≡ true = last_ends b τ k.before [] (led_at x b k.before u false (subst (Led x b false) cut h.1)) in
            let is_a : eqb a b ≡ true = sym (ends-++ b k.ends.0 (a ∷ []) refl) ∙ ap (ends b) (sym k.ends.1) ∙ last in
            h.0 (eqb-true a b is_a)

all_of : (Q : ℕ → Side → Type 0) (ss : List Side) → ((x : ℕ) → any (any (is_variable x)) ss ≡ true → AllByRecursion (Q x) ss) → AllByRecursion (λ s. (x : ℕ) → any (is_variable x) s ≡ true → Q x s) ss
all_of Q [] h = tt
all_of Q (s ∷ ss) h = (λ x e. (h x (or_left (any (is_variable x) s) (any (any (is_variable x)) ss) e)).0, all_of Q ss (λ x e. (h x (or_right (any (is_variable x) s) (any (any (is_variable x)) ss) e)).1))

module _ (a b : ℕ) (st : State) where
  abbrev ss : List Side
  ss = sides st.stands.equations

  oks : (x : ℕ) → a ≢ b → (empty (st.words x) ≡ false) × LeftClear b x st × RightClear a x st → AllByRecursion (Ok a b st.words x) ss
  oks x d h = split h.1 h.2
    where
      split : LeftClear b x st → RightClear a x st → AllByRecursion (Ok a b st.words x) ss
      split (inl e) (inl f) = all_each (Ok a b st.words x) (λ s. (h.0, inl e, inl f)) ss
      split (inl e) (inr f) = All-weaker (Trailed x a) (Ok a b st.words x) (λ s k. (h.0, inl e, inr (d, k))) ss f
      split (inr e) (inl f) = All-weaker (Led x b false) (Ok a b st.words x) (λ s k. (h.0, inr (d, k), inl f)) ss e
      split (inr e) (inr f) = both ss e f
        where
          both : (ss : List Side) → AllByRecursion (Led x b false) ss → AllByRecursion (Trailed x a) ss → AllByRecursion (Ok a b st.words x) ss
          both [] e f = tt
          both (s ∷ ss) e f = ((h.0, inr (d, e.0), inr (d, f.0)), both ss e.1 f.1)

  pub clear_none_crosses : a ≢ b → ((x : ℕ) → Clear a b x st) → NoneCrosses a b st.words st.stands
  clear_none_crosses d clear =
      All-weaker (λ s. (x : ℕ) → any (is_variable x) s ≡ true → Ok a b st.words x s) (λ s. Crosses a b st.words s → ⊥) (uncrossed a b st.words) ss
      (all_of (Ok a b st.words) ss (λ x alive. oks x d (clear x alive)))

pub bare_none_crosses : (a : ℕ) (st : State) → ((x : ℕ) → Bare a x st) → NoneCrosses a a st.words st.stands
bare_none_crosses a st bare =
    let ss : List Side = sides st.stands.equations in
    All-weaker (λ s. (x : ℕ) → any (is_variable x) s ≡ true → Ok a a st.words x s) (λ s. Crosses a a st.words s → ⊥) (uncrossed a a st.words) ss
    (all_of (Ok a a st.words) ss (λ x alive. let k = bare x alive in all_each (Ok a a st.words x) (λ s. (k.0, inl k.1, inl k.2)) ss))
