-- What each pass over the marks does to the equations that they hold, and how many places there are. Assumes nothing.
use Rattle.std.proofs.Common.{◌≡◌, ℕ, zero, suc, ◌+◌, ◌*◌, ◌<◌, Bool, true, false, cond, ◌&&◌, ◌||◌, eqb, ltb, List, [], ◌∷◌, ◌++◌, map, length, replicate, is_some, Some, None, Option, sym, refl, ap, ◌∙◌, ap₂, append_assoc, add-mul, arith}
use Rattle.std.proofs.Math.Bool.{and-false, or_assoc}
use Rattle.std.proofs.lemmas.List.{length-append, length-map, map-append}
use Rattle.std.proofs.lemmas.List.Sums.{sum_by-cons, sum_by-append}
use Rattle.std.proofs.lemmas.Bool.{cond-false, ne_eqb, lt-ltb, and_parts, false≢true}
use Rattle.std.specs.List.{count_by, flat_map}
use Rattle.systems.specs.declared.Place.{Place}
use Rattle.systems.specs.declared.Place.TheVariants.{Letter, Variable}
use Rattle.systems.specs.Choices.{swap}
use Rattle.systems.specs.Loading.{place_of, readable, at_most_one, side_of}
use Rattle.systems.specs.Rows.{any, row, replace_pairs, replace_blocks}
use Rattle.systems.specs.Sides.{Side, Equation, sides, on_sides, places, is_letter, is_variable, side_pairs, side_blocks, stands_in}
use Rattle.systems.proofs.Living.{sides_on}
use Rattle.sides.specs.declared.mark.Mark.{Mark}
use Rattle.sides.specs.declared.mark.Mark.TheVariants.{End, At}
use Rattle.sides.specs.Holding.{all_places}
use Rattle.sides.specs.Marks.{lifted, flat, onto, sides_of, pair_up, equations_in, marks_of, Whole, count_of, mark_swap, mark_pairs, mark_blocks}

-- there and back

side_of_marks : (s : Side) (ms : List Mark) (ss : List Side) → sides_of ms ≡ ss → sides_of (map At s ++ (End ∷ ms)) ≡ s ∷ ss
side_of_marks [] ms ss e = ap (λ r. [] ∷ r) e
side_of_marks (p ∷ s) ms ss e = ap (onto p) (side_of_marks s ms ss e)

sides_of_flat : (ss : List Side) → sides_of (flat ss) ≡ ss
sides_of_flat [] = refl
sides_of_flat (s ∷ ss) = side_of_marks s (flat ss) ss (sides_of_flat ss)

pair_up_sides : (E : List Equation) → pair_up (sides E) ≡ E
pair_up_sides [] = refl
pair_up_sides (e ∷ E) = ap (λ r. (e.0, e.1) ∷ r) (pair_up_sides E)

-- marks that are written from equations hold them
pub holds : (E : List Equation) (ms : List Mark) → ms ≡ marks_of E → (equations_in ms ≡ E) × Whole ms
unfolding equations_in marks_of
holds E ms e =
    let back : equations_in ms ≡ E = ap equations_in e ∙ ap pair_up (sides_of_flat (sides E)) ∙ pair_up_sides E in
    (back, ap marks_of back ∙ sym e)

-- a pass over the marks that stops at each end
module _ (r : Side → Side) (R : List Mark → List Mark) (none : R [] ≡ []) (step : (s : Side) (ms : List Mark) → R (map At s ++ (End ∷ ms)) ≡ map At (r s) ++ (End ∷ R ms)) where
  flat_on : (ss : List Side) → R (flat ss) ≡ flat (map r ss)
  flat_on [] = none
  flat_on (s ∷ ss) = step s (flat ss) ∙ ap (λ t. map At (r s) ++ (End ∷ t)) (flat_on ss)

  pub rewritten : (ms ms' : List Mark) → Whole ms → ms' ≡ R ms → (equations_in ms' ≡ on_sides r (equations_in ms)) × Whole ms'
  unfolding marks_of
  rewritten ms ms' h e =
      let E = equations_in ms in
      holds (on_sides r E) ms' (e ∙ ap R (sym h) ∙ flat_on (sides E) ∙ ap flat (sides_on r E))

-- each of the three stops

swap_step : (x : ℕ) (v : Side) (s : Side) (ms : List Mark) → mark_swap x v (map At s ++ (End ∷ ms)) ≡ map At (swap x v s) ++ (End ∷ mark_swap x v ms)
swap_step x v [] ms = refl
swap_step x v (Letter a ∷ s) ms = ap (λ r. At (Letter a) ∷ r) (swap_step x v s ms)
swap_step x v (Variable y ∷ s) ms = at (eqb x y) (swap_step x v s ms)
  where
    at : (b : Bool) → mark_swap x v (map At s ++ (End ∷ ms)) ≡ map At (swap x v s) ++ (End ∷ mark_swap x v ms) → cond b (map At v) (At (Variable y) ∷ []) ++ mark_swap x v (map At s ++ (End ∷ ms)) ≡ map At (cond b v (Variable y ∷ []) ++ swap x v s) ++ (End ∷ mark_swap x v ms)
    at true ih = ap (λ r. map At v ++ r) ih ∙ sym (append_assoc (map At v) (map At (swap x v s)) (End ∷ mark_swap x v ms)) ∙ ap (λ r. r ++ (End ∷ mark_swap x v ms)) (sym (map-append At v (swap x v s)))
    at false ih = ap (λ r. At (Variable y) ∷ r) ih

cond_same : {A B : Type 0} (f : A → B) (b : Bool) (u v : B) (x y : A) → u ≡ f x → v ≡ f y → cond b u v ≡ f (cond b x y)
cond_same f true u v x y e d = e
cond_same f false u v x y e d = d

module _ (p q : Place → Bool) (c : Place) where
  abbrev R₂ : List Mark → List Mark
  R₂ = replace_pairs (lifted p) (lifted q) (At c)

  abbrev r₂ : Side → Side
  r₂ = replace_pairs p q c

  pairs_step : (s : Side) (ms : List Mark) → R₂ (map At s ++ (End ∷ ms)) ≡ map At (r₂ s) ++ (End ∷ R₂ ms)
  pairs_step [] [] = refl
  pairs_step [] (m ∷ ms) = refl
  pairs_step (x ∷ []) ms = cond-false (p x && false) (At c ∷ R₂ ms) (At x ∷ R₂ (End ∷ ms)) (and-false (p x)) ∙ ap (λ r. At x ∷ r) (pairs_step [] ms)
  pairs_step (x ∷ (y ∷ s)) ms =
      cond_same (λ t. map At t ++ (End ∷ R₂ ms)) (p x && q y) (At c ∷ R₂ (map At s ++ (End ∷ ms))) (At x ∷ R₂ (At y ∷ (map At s ++ (End ∷ ms)))) (c ∷ r₂ s) (x ∷ r₂ (y ∷ s))
      (ap (λ t. At c ∷ t) (pairs_step s ms)) (ap (λ t. At x ∷ t) (pairs_step (y ∷ s) ms))

map_replicate : (k : ℕ) (p : Place) → replicate k (At p) ≡ map At (replicate k p)
map_replicate zero p = refl
map_replicate (suc k) p = ap (λ t. At p ∷ t) (map_replicate k p)

module _ (p : Place → Bool) (a : Place) (n : ℕ) (c : Place) where
  abbrev R : ℕ → List Mark → List Mark
  R = replace_blocks (lifted p) (At a) n (At c)

  abbrev r : ℕ → Side → Side
  r = replace_blocks p a n c

  map_row : (k : ℕ) → row (At a) n (At c) k ≡ map At (row a n c k)
  map_row k = cond_same (map At) (eqb k n) (At c ∷ []) (replicate k (At a)) (c ∷ []) (replicate k a) refl (map_replicate k a)

  blocks_step : (s : Side) (k : ℕ) (ms : List Mark) → R k (map At s ++ (End ∷ ms)) ≡ map At (r k s) ++ (End ∷ R 0 ms)
  blocks_step [] k ms = ap (λ t. t ++ (End ∷ R 0 ms)) (map_row k)
  blocks_step (x ∷ s) k ms =
      let end = End ∷ R 0 ms in
      cond_same (λ t. map At t ++ end) (p x) (R (suc k) (map At s ++ (End ∷ ms))) (row (At a) n (At c) k ++ (At x ∷ R 0 (map At s ++ (End ∷ ms)))) (r (suc k) s) (row a n c k ++ (x ∷ r 0 s))
      (blocks_step s (suc k) ms)
      (ap₂ (λ u t. u ++ (At x ∷ t)) (map_row k) (blocks_step s 0 ms) ∙ sym (append_assoc (map At (row a n c k)) (At x ∷ map At (r 0 s)) end) ∙ ap (λ u. u ++ end) (sym (map-append At (row a n c k) (x ∷ r 0 s))))

-- what a pass does to the equations
pub swap_holds : (x : ℕ) (v : Side) (ms ms' : List Mark) → Whole ms → ms' ≡ mark_swap x v ms → (equations_in ms' ≡ on_sides (swap x v) (equations_in ms)) × Whole ms'
swap_holds x v = rewritten (swap x v) (mark_swap x v) refl (swap_step x v)

pub pairs_hold : (a b c : ℕ) (ms ms' : List Mark) → Whole ms → ms' ≡ mark_pairs a b c ms → (equations_in ms' ≡ on_sides (side_pairs a b c) (equations_in ms)) × Whole ms'
pairs_hold a b c = rewritten (side_pairs a b c) (mark_pairs a b c) refl (pairs_step (is_letter a) (is_letter b) (Letter c))

no_row : (a n c : ℕ) → 0 < n → mark_blocks a n c [] ≡ []
no_row a n c h = cond-false (eqb 0 n) (At (Letter c) ∷ []) [] (ne_eqb 0 n (λ e. omega arith))

pub blocks_hold : (a n c : ℕ) → 0 < n → (ms ms' : List Mark) → Whole ms → ms' ≡ mark_blocks a n c ms → (equations_in ms' ≡ on_sides (side_blocks a n c) (equations_in ms)) × Whole ms'
blocks_hold a n c some = rewritten (side_blocks a n c) (mark_blocks a n c) (no_row a n c some) (λ s. blocks_step (is_letter a) (Letter a) n (Letter c) s 0)

-- one more equation
flat-++ : (ss ts : List Side) → flat ss ++ flat ts ≡ flat (ss ++ ts)
flat-++ [] ts = refl
flat-++ (s ∷ ss) ts = append_assoc (map At s) (End ∷ flat ss) (flat ts) ∙ ap (λ r. map At s ++ (End ∷ r)) (flat-++ ss ts)

sides-++ : (E F : List Equation) → sides E ++ sides F ≡ sides (E ++ F)
sides-++ [] F = refl
sides-++ (e ∷ E) F = ap (λ r. e.0 ∷ (e.1 ∷ r)) (sides-++ E F)

pub one_more_holds : (l r : Side) (ms ms' : List Mark) → Whole ms → ms' ≡ ms ++ (map At l ++ (End ∷ (map At r ++ (End ∷ [])))) → (equations_in ms' ≡ equations_in ms ++ ((l, r) ∷ [])) × Whole ms'
unfolding marks_of
one_more_holds l r ms ms' h e =
    let E = equations_in ms in
    let F : List Equation = (l, r) ∷ [] in
    holds (E ++ F) ms' (e ∙ ap (λ t. t ++ flat (sides F)) (sym h) ∙ flat-++ (sides E) (sides F) ∙ ap flat (sides-++ E F))

pub none_hold : equations_in [] ≡ []
unfolding equations_in
none_hold = refl

pub none_whole : Whole []
unfolding equations_in marks_of
none_whole = refl

-- how many places there are

length_marks : (E : List Equation) → length (flat (sides E)) ≡ places E + 2 * length E
length_marks [] = refl
length_marks (e ∷ E) =
    let last = End ∷ flat (sides E) in
    omega (arith, length-append (map At e.0) (End ∷ (map At e.1 ++ last)), length-map e.0 At, length-append (map At e.1) last, length-map e.1 At, length_marks E)

pub places_length : (ms : List Mark) → Whole ms → length ms ≡ places (equations_in ms) + 2 * length (equations_in ms)
unfolding marks_of
places_length ms h = omega (arith, ap length h, length_marks (equations_in ms))

count_more : (x : ℕ) (m : Mark) (ms : List Mark) → count_of x (m ∷ ms) ≡ cond (lifted (is_variable x) m) 1 0 + count_of x ms
count_more x = sum_by-cons (λ m. cond (lifted (is_variable x) m) 1 0)

-- what a row in each place of x adds and takes
pub swap_length : (x : ℕ) (v : Side) (ms : List Mark) → length (mark_swap x v ms) + count_of x ms ≡ length ms + count_of x ms * length v
swap_length x v [] = omega arith
swap_length x v (m ∷ ms) = rw (count_more x m ms) (at (lifted (is_variable x) m) (swap_length x v ms))
  where
    at : (b : Bool) → length (mark_swap x v ms) + count_of x ms ≡ length ms + count_of x ms * length v → length (cond b (map At v) (m ∷ []) ++ mark_swap x v ms) + (cond b 1 0 + count_of x ms) ≡ suc (length ms) + (cond b 1 0 + count_of x ms) * length v
    at true ih = omega (arith, length-append (map At v) (mark_swap x v ms), length-map v At, add-mul 1 (count_of x ms) (length v))
    at false ih = omega arith

-- how many places x has

count_at : (p : Place → Bool) (s : Side) → count_by (lifted p) (map At s) ≡ count_by p s
count_at p [] = refl
count_at p (x ∷ s) = omega (arith, sum_by-cons (λ m. cond (lifted p m) 1 0) (At x) (map At s), sum_by-cons (λ q. cond (p q) 1 0) x s, count_at p s)

count_flat : (x : ℕ) (ss : List Side) → count_of x (flat ss) ≡ count_by (is_variable x) (flat_map (λ s. s) ss)
count_flat x [] = refl
count_flat x (s ∷ ss) =
    omega (
      arith,
      sum_by-append (λ m. cond (lifted (is_variable x) m) 1 0) (map At s) (End ∷ flat ss),
      count_more x End (flat ss),
      count_at (is_variable x) s,
      count_flat x ss,
      sum_by-append (λ q. cond (is_variable x q) 1 0) s (flat_map (λ t. t) ss),
    )

pub count_all : (x : ℕ) (ms : List Mark) → Whole ms → count_of x ms ≡ count_by (is_variable x) (all_places (equations_in ms))
unfolding marks_of
count_all x ms h = ap (count_of x) (sym h) ∙ count_flat x (sides (equations_in ms))

-- whether a variable stands in a side

some-+ : (m n : ℕ) → ltb 0 (m + n) ≡ (ltb 0 m || ltb 0 n)
some-+ zero n = ap (ltb 0) (omega arith)
some-+ (suc m) n = lt-ltb 0 (suc m + n) (omega arith) ∙ sym (ap (λ b. b || ltb 0 n) (lt-ltb 0 (suc m) (omega arith)))

one_if : (b : Bool) → ltb 0 (cond b 1 0) ≡ b
one_if true = refl
one_if false = refl

count_side : (x : ℕ) (s : Side) (ms : List Mark) → (any (is_variable x) s || ltb 0 (count_of x ms)) ≡ ltb 0 (count_of x (map At s ++ (End ∷ ms)))
count_side x [] ms = let none : count_of x ms ≡ count_of x (End ∷ ms) = omega (arith, count_more x End ms) in ap (ltb 0) none
count_side x (p ∷ s) ms =
    or_assoc (is_variable x p) (any (is_variable x) s) (ltb 0 (count_of x ms)) ∙ ap (λ b. is_variable x p || b) (count_side x s ms) ∙
    ap (λ b. b || ltb 0 (count_of x (map At s ++ (End ∷ ms)))) (sym (one_if (is_variable x p))) ∙ sym (some-+ (cond (is_variable x p) 1 0) (count_of x (map At s ++ (End ∷ ms)))) ∙ ap (ltb 0) (sym (count_more x (At p) (map At s ++ (End ∷ ms))))

count_sides : (x : ℕ) (ss : List Side) → any (any (is_variable x)) ss ≡ ltb 0 (count_of x (flat ss))
count_sides x [] = refl
count_sides x (s ∷ ss) = ap (λ b. any (is_variable x) s || b) (count_sides x ss) ∙ count_side x s (flat ss)

pub live_count : (x : ℕ) (ms : List Mark) → Whole ms → stands_in (equations_in ms) x ≡ ltb 0 (count_of x ms)
unfolding marks_of
live_count x ms h = count_sides x (sides (equations_in ms)) ∙ ap (λ t. ltb 0 (count_of x t)) h

-- one more equation, from text

pub places_more : (E : List Equation) (l r : Side) → places (E ++ ((l, r) ∷ [])) ≡ places E + (length l + length r)
places_more [] l r = omega arith
places_more (e ∷ E) l r = omega (arith, places_more E l r)

one_place : (o : Option Place) (s : Side) → is_some o ≡ true → length (at_most_one o ++ s) ≡ suc (length s)
one_place (Some p) s e = refl
one_place None s e = absurd (false≢true e)

pub length_side_of : (bs : List ℕ) → readable bs ≡ true → length (side_of bs) ≡ length bs
length_side_of [] e = refl
length_side_of (b ∷ bs) e =
    let parts = and_parts (is_some (place_of b)) (readable bs) e in
    one_place (place_of b) (side_of bs) parts.0 ∙ ap suc (length_side_of bs parts.1)

-- a variable stands in a place where it is counted
pub count_some : (x : ℕ) (ms : List Mark) → any (lifted (is_variable x)) ms ≡ ltb 0 (count_of x ms)
count_some x [] = refl
count_some x (m ∷ ms) =
    ap (λ b. lifted (is_variable x) m || b) (count_some x ms) ∙ ap (λ b. b || ltb 0 (count_of x ms)) (sym (one_if (lifted (is_variable x) m))) ∙ sym (some-+ (cond (lifted (is_variable x) m) 1 0) (count_of x ms)) ∙ ap (ltb 0) (sym (count_more x m ms))
