-- When a close accepts. Assumes nothing.
use Rattle.std.proofs.Common.{◌≡◌, ℕ, suc, ◌<◌, ◌≤◌, Bool, true, false, cond, not, ltb, ◌⊎◌, List, [], ◌∷◌, Some, None, Option, sym, refl, ap, ◌∙◌, ap₂, inl, inr, arith}
use Rattle.std.specs.Option.{option_map}
use Rattle.std.specs.List.{AllByRecursion}
use Rattle.std.proofs.lemmas.Bool.{cond-true, cond-false, and_parts, and_cases, and_from, cases_Bool, both_ways, eqb-true, eq-eqb, false≢true, ltb-false, le-ltb, not_from_true, not-false, and_left, and_right}
use Rattle.systems.specs.declared.Place.{Place}
use Rattle.systems.specs.declared.Place.TheVariants.{Letter, Variable}
use Rattle.systems.specs.Sides.{Side, Equation, SameSides}
use Rattle.systems.specs.Standings.{Standing, fresh, live}
use Rattle.systems.proofs.Allowing.{not_refused}
use Rattle.writing.specs.Writer.{first, variables}
use Rattle.writing.proofs.Falls.{in_variables}
use Rattle.writing.proofs.Lists.{first_none}
use Rattle.guarantee.specs.declared.CloseRefusal.TheVariants.{SmallTable, StillLive, SidesDiffer, Fails}
use Rattle.guarantee.specs.Closing.{Meaning, value_of, found_word, same_place, same_side, first_differing, fails, or_else, close_refusal}
use Rattle.guarantee.specs.Guarantee.{NoneLive}

-- a first reason, else a later one: there is none if neither is

none_of : {A : Type 0} (reason later : Option A) → or_else reason later ≡ None → (reason ≡ None) × (later ≡ None)
none_of None later e = (refl, e)
none_of (Some why) later e = let z : ◌≡◌ {A = ℕ} 0 1 = cc in absurd (omega arith)

mapped_none : {A B : Type 0} (f : A → B) (o : Option A) → option_map f o ≡ None → o ≡ None
mapped_none f None e = refl
mapped_none f (Some x) e = let z : ◌≡◌ {A = ℕ} 0 1 = cc in absurd (omega arith)

first_of_none : (p : ℕ → Bool) → ((x : ℕ) → p x ≡ false) → (xs : List ℕ) → first p xs ≡ None
first_of_none p none [] = refl
first_of_none p none (x ∷ xs) = cond-false (p x) (Some x) (first p xs) (none x) ∙ first_of_none p none xs

-- the same side

place_same : (p q : Place) → same_place p q ≡ true → p ≡ q
place_same (Letter a) (Letter b) e = ap Letter (eqb-true a b e)
place_same (Letter a) (Variable y) e = absurd (false≢true e)
place_same (Variable x) (Letter b) e = absurd (false≢true e)
place_same (Variable x) (Variable y) e = ap Variable (eqb-true x y e)

pub side_same : (s t : Side) → same_side s t ≡ true → s ≡ t
side_same [] [] e = refl
side_same [] (q ∷ t) e = absurd (false≢true e)
side_same (p ∷ s) [] e = absurd (false≢true e)
side_same (p ∷ s) (q ∷ t) e = let parts = and_parts (same_place p q) (same_side s t) e in ap₂ (λ u v. u ∷ v) (place_same p q parts.0) (side_same s t parts.1)

place_itself : (p : Place) → same_place p p ≡ true
place_itself (Letter a) = eq-eqb a a refl
place_itself (Variable x) = eq-eqb x x refl

pub side_itself : (s : Side) → same_side s s ≡ true
side_itself [] = refl
side_itself (p ∷ s) = and_from (same_place p p) (same_side s s) (place_itself p) (side_itself s)

none_differs : (i : ℕ) (E : List Equation) → first_differing i E ≡ None → AllByRecursion SameSides E
none_differs i [] e = tt
none_differs i (eq ∷ E) e = go (λ f. none_differs (suc i) E f) (same_side eq.0 eq.1) refl e
  where
    go : (first_differing (suc i) E ≡ None → AllByRecursion SameSides E) → (t : Bool) → same_side eq.0 eq.1 ≡ t → cond t (first_differing (suc i) E) (Some i) ≡ None → AllByRecursion SameSides (eq ∷ E)
    go more true is f = (side_same eq.0 eq.1 is, more f)
    go more false is f = let z : ◌≡◌ {A = ℕ} 0 1 = cc in absurd (omega arith)

pub no_difference : (i : ℕ) (E : List Equation) → AllByRecursion SameSides E → first_differing i E ≡ None
no_difference i [] h = refl
no_difference i (e ∷ E) h = cond-true (same_side e.0 e.1) (first_differing (suc i) E) (Some i) (ap (same_side e.0) (sym h.0) ∙ side_itself e.0) ∙ no_difference (suc i) E h.1

-- what acceptance means
pub record Accepted {V : Type 0} (m : Meaning V) (system : ℕ → Bool) (S : Standing) (room : ℕ) : Type 0 where
  pub fits : fresh S ≤ room
  pub none_live : NoneLive S
  pub same : AllByRecursion SameSides S.equations
  pub passes : (x : ℕ) → system x ≡ true → m.passes x (value_of m (found_word S x)) ≡ true

module _ {V : Type 0} (m : Meaning V) (system : ℕ → Bool) (S : Standing) (room : ℕ) where
  pub accepted : ((x : ℕ) → live S x ≡ true → x < 26) → ((x : ℕ) → system x ≡ true → x < 26) → close_refusal m system S room ≡ None → Accepted m system S room
  accepted low low_system free =
      let p = not_refused (ltb room (fresh S)) SmallTable _ free in
      let q = none_of (option_map StillLive (first (live S) variables)) _ p.1 in
      let r = none_of (option_map SidesDiffer (first_differing 1 S.equations)) _ q.1 in
      record {
        fits = ltb-false room (fresh S) p.0;
        none_live = λ x. dead x (mapped_none StillLive (first (live S) variables) q.0) (cases_Bool (live S x));
        same = none_differs 1 S.equations (mapped_none SidesDiffer (first_differing 1 S.equations) r.0);
        passes = λ x of. pass x of (first_none (fails m system S) variables (mapped_none Fails (first (fails m system S) variables) r.1) x (in_variables x (low_system x of)));
      }
    where
      dead : (x : ℕ) → first (live S) variables ≡ None → (live S x ≡ true) ⊎ (live S x ≡ false) → live S x ≡ false
      dead x none (inl alive) = first_none (live S) variables none x (in_variables x (low x alive))
      dead x none (inr gone) = gone

      pass : (x : ℕ) → system x ≡ true → fails m system S x ≡ false → m.passes x (value_of m (found_word S x)) ≡ true
      pass x of ok = split (and_cases (system x) (not (m.passes x (value_of m (found_word S x)))) ok)
        where
          split : (system x ≡ false) ⊎ (not (m.passes x (value_of m (found_word S x))) ≡ false) → m.passes x (value_of m (found_word S x)) ≡ true
          split (inl other) = absurd (both_ways (system x) other of)
          split (inr e) = not-false (m.passes x (value_of m (found_word S x))) e

  pub accepts : Accepted m system S room → close_refusal m system S room ≡ None
  accepts h =
      cond-false (ltb room (fresh S)) (Some SmallTable) _ (le-ltb room (fresh S) h.fits) ∙
      ap₂ or_else (ap (option_map StillLive) (first_of_none (live S) h.none_live variables))
      (ap₂ or_else (ap (option_map SidesDiffer) (no_difference 1 S.equations h.same)) (ap (option_map Fails) (first_of_none (fails m system S) passing variables)))
    where
      passing : (x : ℕ) → fails m system S x ≡ false
      passing x = split (cases_Bool (system x))
        where
          split : (system x ≡ true) ⊎ (system x ≡ false) → fails m system S x ≡ false
          split (inl of) = and_right (system x) (not (m.passes x (value_of m (found_word S x)))) (not_from_true (m.passes x (value_of m (found_word S x))) (h.passes x of))
          split (inr other) = and_left (system x) (not (m.passes x (value_of m (found_word S x)))) other
