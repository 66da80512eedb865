-- Every run keeps the letters known, the rules fitting and the limits. Assumes nothing.
use Rattle.std.proofs.Common.{◌≡◌, ℕ, suc, ◌+◌, ◌-◌, ◌<◌, ◌≤◌, Bool, true, cond, not, ◌&&◌, eqb, leb, List, [], ◌∷◌, ◌++◌, length, replicate, Some, None, sym, refl, ap, subst, ⊎_elim, arith, lit≤, length-append}
use Rattle.std.specs.List.{AllByRecursion}
use Rattle.std.proofs.lemmas.List.{length-replicate}
use Rattle.std.proofs.ByRecursion.{All-append, All-weaker}
use Rattle.std.proofs.lemmas.Bool.{true≢false, ltb-false, leb-true, leb-false, eqb-true, and_parts, and_from, or_cases, cond_both}
use Rattle.model.specs.declared.Rule.{Rule}
use Rattle.model.specs.declared.Rule.TheVariants.{Pair as PairRule, Block as BlockRule}
use Rattle.model.specs.Spelling.{known}
use Rattle.model.specs.Witnesses.{rule_fits, rules_fit}
use Rattle.model.proofs.Spelling.{joined-++}
use Rattle.model.proofs.Fitting.{FitsAfter, from_fits, block_lower, block_counted, rules_few}
use Rattle.systems.specs.declared.Place.{Place}
use Rattle.systems.specs.declared.Place.TheVariants.{Letter, Variable}
use Rattle.systems.specs.declared.Choice.{Choice}
use Rattle.systems.specs.declared.Choice.TheVariants.{Left, Right, Erase, Pair, Block}
use Rattle.systems.specs.declared.Pop.{Pop}
use Rattle.systems.specs.declared.Pop.TheVariants.{AtLeft, AtRight}
use Rattle.systems.specs.Choices.{swapped, swap, taken}
use Rattle.systems.specs.Invariants.{KnownPlace, KnownPop, WellFormed}
use Rattle.systems.specs.Loading.{place_of, readable, at_most_one, side_of, loaded_too, load_refusal, after_load}
use Rattle.systems.specs.Refusals.{choice_refusal}
use Rattle.systems.specs.Rows.{any, replace_pairs, row, replace_blocks}
use Rattle.systems.specs.Runs.{Load, load_all, opened, loaded, opening, choosing}
use Rattle.systems.specs.Sides.{Side, Equation, sides, on_sides, places, is_letter, is_variable, side_pairs, side_blocks}
use Rattle.systems.specs.Standings.{Standing, new, fresh, live}
use Rattle.systems.specs.Theorems.{RunsAreWellFormed}
use Rattle.systems.proofs.Allowing.{unless_refused, not_refused, MayPop, Allowed, allowed}
use Rattle.systems.proofs.Living.{all_sides}
use Rattle.systems.proofs.Rows.{all_joined, all_pairs, all_blocks}

-- how many places there are

length_erased : (x : ℕ) (s : Side) → length (swap x [] s) ≤ length s
length_erased x [] = lit≤ tt
length_erased x (Letter a ∷ s) = let more = length_erased x s in omega arith
length_erased x (Variable y ∷ s) =
    let more = length_erased x s in
    cond_both (eqb x y) [] (Variable y ∷ []) (λ r. length (r ++ swap x [] s) ≤ suc (length s)) (λ _. omega arith) (λ _. omega arith)

length_pairs : {A : Type 0} (p q : A → Bool) (c : A) (xs : List A) → length (replace_pairs p q c xs) ≤ length xs
length_pairs p q c [] = lit≤ tt
length_pairs p q c (x ∷ []) = lit≤ tt
length_pairs p q c (x ∷ (y ∷ rest)) =
    let two = length_pairs p q c rest in
    let one = length_pairs p q c (y ∷ rest) in
    cond_both (p x && q y) (c ∷ replace_pairs p q c rest) (x ∷ replace_pairs p q c (y ∷ rest)) (λ r. length r ≤ suc (suc (length rest))) (λ _. omega arith) (λ _. omega arith)

module _ {A : Type 0} (is_a : A → Bool) (a : A) (n : ℕ) (c : A) (some : 1 ≤ n) where
  length_row : (k : ℕ) → length (row a n c k) ≤ k
  length_row k = cond_both (eqb k n) (c ∷ []) (replicate k a) (λ r. length r ≤ k) (λ e. omega (arith, eqb-true k n e)) (λ _. omega (arith, length-replicate k a))

  length_blocks : (xs : List A) (k : ℕ) → length (replace_blocks is_a a n c k xs) ≤ k + length xs
  length_blocks [] k = omega (arith, length_row k)
  length_blocks (x ∷ xs) k =
      let longer = length_blocks xs (suc k) in
      let apart = length_blocks xs 0 in
      let short = length_row k in
      cond_both (is_a x) (replace_blocks is_a a n c (suc k) xs) (row a n c k ++ (x ∷ replace_blocks is_a a n c 0 xs)) (λ r. length r ≤ k + suc (length xs))
      (λ _. omega arith) (λ _. omega (arith, length-append (row a n c k) (x ∷ replace_blocks is_a a n c 0 xs)))

places_on : (f : Side → Side) → ((s : Side) → length (f s) ≤ length s) → (E : List Equation) → places (on_sides f E) ≤ places E
places_on f less [] = lit≤ tt
places_on f less (e ∷ E) = omega (arith, less e.0, less e.1, places_on f less E)

length_on : (f : Side → Side) (E : List Equation) → length (on_sides f E) ≡ length E
length_on f [] = refl
length_on f (e ∷ E) = ap suc (length_on f E)

-- a variable that stands in known places is one of A to Z

any_all : {A R : Type 0} (p : A → Bool) (Q : A → Type 0) → ((x : A) → p x ≡ true → Q x → R) → (xs : List A) → any p xs ≡ true → AllByRecursion Q xs → R
any_all p Q found [] e h = absurd (true≢false (sym e))
any_all {A} {R} p Q found (x ∷ xs) e h = ⊎_elim (λ (here : p x ≡ true). found x here h.0) (λ (later : any p xs ≡ true). any_all p Q found xs later h.1) (or_cases (p x) (any p xs) e)

live_low : (S : Standing) → WellFormed S → (x : ℕ) → live S x ≡ true → x < 26
live_low S formed x alive =
    any_all (any (is_variable x)) (AllByRecursion (KnownPlace (fresh S))) (λ s e h. any_all (is_variable x) (KnownPlace (fresh S)) at s e h) (sides S.equations) alive formed.known_places
  where
    at : (p : Place) → is_variable x p ≡ true → KnownPlace (fresh S) p → x < 26
    at (Letter a) e h = absurd (true≢false (sym e))
    at (Variable y) e h = subst (λ z. z < 26) (sym (eqb-true x y e)) h

-- one choice

place_more : (k m : ℕ) → k ≤ m → (p : Place) → KnownPlace k p → KnownPlace m p
place_more k m le (Letter a) h = omega arith
place_more k m le (Variable x) h = h

pop_more : (k m : ℕ) → k ≤ m → (p : Pop) → KnownPop k p → KnownPop m p
pop_more k m le (AtLeft x a) h = (h.0, omega (arith, h.1))
pop_more k m le (AtRight x a) h = (h.0, omega (arith, h.1))

swap_known : (k x : ℕ) (v : Side) → AllByRecursion (KnownPlace k) v → (s : Side) → AllByRecursion (KnownPlace k) s → AllByRecursion (KnownPlace k) (swap x v s)
swap_known k x v in_v s h = all_joined (KnownPlace k) (KnownPlace k) (swapped x v) at s h
  where
    at : (p : Place) → KnownPlace k p → AllByRecursion (KnownPlace k) (swapped x v p)
    at (Letter a) h = (h, tt)
    at (Variable y) h = cond_both (eqb x y) v (Variable y ∷ []) (AllByRecursion (KnownPlace k)) (λ _. in_v) (λ _. (h, tt))

-- a pop, where each place of x becomes the row v
pop_formed : (S : Standing) (x a : ℕ) (v : Side) (pop : Pop) → WellFormed S → MayPop S x a (places (on_sides (swap x v) S.equations)) → (x < 26 → AllByRecursion (KnownPlace (fresh S)) v) → (x < 26 → KnownPop (fresh S) pop) → WellFormed (record { equations = on_sides (swap x v) S.equations; rules = S.rules; pops = S.pops ++ (pop ∷ []) })
pop_formed S x a v pop formed may in_v in_pop =
    let one : x < 26 = live_low S formed x may.alive in
    record {
      known_places = all_sides (AllByRecursion (KnownPlace (fresh S))) (AllByRecursion (KnownPlace (fresh S))) (swap x v) (swap_known (fresh S) x v (in_v one)) S.equations formed.known_places;
      known_pops = All-append (KnownPop (fresh S)) S.pops (pop ∷ []) formed.known_pops (in_pop one, tt);
      fitting_rules = formed.fitting_rules;
      few_rules = formed.few_rules;
      few_pops = omega (arith, length-append S.pops (pop ∷ []), may.room);
      few_places = may.small;
      few_equations = omega (arith, length_on (swap x v) S.equations, formed.few_equations);
    }

-- a rule, where f replaces what it stands for
rule_formed : (S : Standing) (made : Rule) (f : Side → Side) → WellFormed S → FitsAfter S.rules made → ((s : Side) → length (f s) ≤ length s) → ((s : Side) → AllByRecursion (KnownPlace (known (made ∷ S.rules))) s → AllByRecursion (KnownPlace (known (made ∷ S.rules))) (f s)) → WellFormed (record { equations = on_sides f S.equations; rules = made ∷ S.rules; pops = S.pops ++ [] })
rule_formed S made f formed fit less keeps =
    let k : ℕ = fresh S in
    let m : ℕ = known (made ∷ S.rules) in
    let more : k ≤ m = omega arith in
    let fits : rules_fit (made ∷ S.rules) ≡ true = and_from (rule_fits S.rules made) (rules_fit S.rules) (from_fits S.rules made fit) formed.fitting_rules in
    record {
      known_places = all_sides (AllByRecursion (KnownPlace k)) (AllByRecursion (KnownPlace m)) f (λ s h. keeps s (All-weaker (KnownPlace k) (KnownPlace m) (place_more k m more) s h)) S.equations formed.known_places;
      known_pops = All-append (KnownPop m) S.pops [] (All-weaker (KnownPop k) (KnownPop m) (pop_more k m more) S.pops formed.known_pops) tt;
      fitting_rules = fits;
      few_rules = rules_few (made ∷ S.rules) fits;
      few_pops = omega (arith, length-append S.pops [], formed.few_pops);
      few_places = omega (arith, places_on f less S.equations, formed.few_places);
      few_equations = omega (arith, length_on f S.equations, formed.few_equations);
    }

pub taken_formed : (S : Standing) (choice : Choice) → Allowed S choice → WellFormed S → WellFormed (taken S choice)
taken_formed S (Left x a) ok formed = pop_formed S x a (Letter a ∷ Variable x ∷ []) (AtLeft x a) formed ok (λ one. (ok.low, (one, tt))) (λ one. (one, ok.low))
taken_formed S (Right x a) ok formed = pop_formed S x a (Variable x ∷ Letter a ∷ []) (AtRight x a) formed ok (λ one. (one, (ok.low, tt))) (λ one. (one, ok.low))
taken_formed S (Erase x) ok formed = record {
  known_places = all_sides (AllByRecursion (KnownPlace (fresh S))) (AllByRecursion (KnownPlace (fresh S))) (swap x []) (swap_known (fresh S) x [] tt) S.equations formed.known_places;
  known_pops = All-append (KnownPop (fresh S)) S.pops [] formed.known_pops tt;
  fitting_rules = formed.fitting_rules;
  few_rules = formed.few_rules;
  few_pops = omega (arith, length-append S.pops [], formed.few_pops);
  few_places = omega (arith, places_on (swap x []) (length_erased x) S.equations, formed.few_places);
  few_equations = omega (arith, length_on (swap x []) S.equations, formed.few_equations);
}
taken_formed S (Pair a b) ok formed =
    let new_known : fresh S < known (PairRule a b ∷ S.rules) = omega arith in
    rule_formed S (PairRule a b) (side_pairs a b (fresh S)) formed ok (length_pairs (is_letter a) (is_letter b) (Letter (fresh S)))
    (all_pairs (is_letter a) (is_letter b) (Letter (fresh S)) (KnownPlace (known (PairRule a b ∷ S.rules))) new_known)
taken_formed S (Block a n) ok formed =
    let m : ℕ = known (BlockRule a n ∷ S.rules) in
    let new_known : fresh S < m = omega arith in
    let old_known : a < m = omega (arith, block_lower (fresh S) a n ok.low) in
    let some : 1 ≤ n = omega (arith, block_counted a n ok.ranged) in
    rule_formed S (BlockRule a n) (side_blocks a n (fresh S)) formed ok (λ s. omega (arith, length_blocks (is_letter a) (Letter a) n (Letter (fresh S)) some s 0))
    (λ s. all_blocks (is_letter a) (Letter a) n (Letter (fresh S)) (KnownPlace m) old_known new_known s 0)

-- one load

byte_known : (k b : ℕ) → 26 ≤ k → AllByRecursion (KnownPlace k) (at_most_one (place_of b))
byte_known k b le =
    cond_both (leb 97 b && leb b 122) (Some (Letter (b - 97))) (cond (leb 65 b && leb b 90) (Some (Variable (b - 65))) None) (λ o. AllByRecursion (KnownPlace k) (at_most_one o))
    (λ e. let p = and_parts (leb 97 b) (leb b 122) e in let top = leb-true b 122 p.1 in (omega arith, tt))
    (λ _. cond_both (leb 65 b && leb b 90) (Some (Variable (b - 65))) None (λ o. AllByRecursion (KnownPlace k) (at_most_one o))
    (λ e. let p = and_parts (leb 65 b) (leb b 90) e in let top = leb-true b 90 p.1 in (omega arith, tt)) (λ _. tt))

side_known : (k : ℕ) → 26 ≤ k → (bytes : List ℕ) → AllByRecursion (KnownPlace k) (side_of bytes)
side_known k le [] = tt
side_known k le (b ∷ bytes) = All-append (KnownPlace k) (at_most_one (place_of b)) (side_of bytes) (byte_known k b le) (side_known k le bytes)

load_formed : (S : Standing) (left right : List ℕ) → load_refusal S left right ≡ None → WellFormed S → WellFormed (loaded_too S left right)
load_formed S left right free formed =
    let le : 26 ≤ fresh S = omega arith in
    let E : List Equation = S.equations in
    let more : List Equation = (side_of left, side_of right) ∷ [] in
    let p = not_refused (not (readable left && readable right)) _ _ free in
    let q = not_refused _ _ _ p.1 in
    let r = not_refused _ _ _ q.1 in
    let few : length E < 32 = leb-false _ _ q.0 in
    let small : places (E ++ more) ≤ 1024 = ltb-false _ _ r.0 in
    record {
      known_places = subst (AllByRecursion (AllByRecursion (KnownPlace (fresh S)))) (sym (joined-++ (λ e. e.0 ∷ e.1 ∷ []) E more)) (All-append (AllByRecursion (KnownPlace (fresh S))) (sides E) (side_of left ∷ (side_of right ∷ [])) formed.known_places (side_known (fresh S) le left, (side_known (fresh S) le right, tt)));
      known_pops = formed.known_pops;
      fitting_rules = formed.fitting_rules;
      few_rules = formed.few_rules;
      few_pops = formed.few_pops;
      few_places = omega (arith, small);
      few_equations = omega (arith, few, length-append E more);
    }

-- all loads

load_all_keeps : (P : Standing → Type 0) → ((S : Standing) (left right : List ℕ) → load_refusal S left right ≡ None → P S → P (loaded_too S left right)) → (loads : List Load) (S : Standing) → P S → P (load_all S loads)
load_all_keeps P step [] S h = h
load_all_keeps P step (load ∷ more) S h = load_all_keeps P step more (after_load S load.0 load.1) (unless_refused P (load_refusal S load.0 load.1) S (loaded_too S load.0 load.1) h (λ free. step S load.0 load.1 free h))

pub opened_formed : (loads : List Load) → WellFormed (opened loads)
opened_formed loads = load_all_keeps WellFormed load_formed loads new (record { known_places = tt; known_pops = tt; fitting_rules = refl; few_rules = lit≤ tt; few_pops = lit≤ tt; few_places = lit≤ tt; few_equations = lit≤ tt })

-- loading makes no rule and pops nothing
abbrev pub bare : List Equation → Standing
bare E = record { equations = E; rules = []; pops = [] }

pub opened_bare : (loads : List Load) → bare (loaded loads) ≡ opened loads
opened_bare loads = load_all_keeps (λ S. bare S.equations ≡ S) (λ S left right _ e. ap (λ T. loaded_too T left right) e) loads new refl

-- all choices

pub runs_are_well_formed : RunsAreWellFormed
runs_are_well_formed loads choices S opening = opened_formed loads
runs_are_well_formed loads choices S (choosing {choices = earlier} {S = T} run choice) =
    let formed : WellFormed T = runs_are_well_formed loads earlier T run in
    unless_refused WellFormed (choice_refusal T choice) T (taken T choice) formed (λ free. taken_formed T choice (allowed T choice free) formed)
