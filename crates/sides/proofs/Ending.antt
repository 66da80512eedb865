-- The least variable is the first that is live; the sides at the front of marks; equal marks. Assumes nothing.
use Rattle.std.proofs.Common.{◌≡◌, ℕ, ◌+◌, ◌<◌, ◌≤◌, min, Bool, false, ◌||◌, eqb, List, [], ◌∷◌, ◌++◌, map, length, get_or, drop, Some, None, Option, sym, refl, ap, ◌∙◌, ap₂, ⊎_elim, arith}
use Rattle.std.proofs.Math.Bool.{or_assoc, or-false}
use Rattle.std.proofs.lemmas.List.{drop-drop, drop_at, drop_more, length-append, length-map, take_at}
use Rattle.std.proofs.lemmas.Bool.{cases_lt, or_from, or_left, or_right, eq-eqb, ne_eqb}
use Rattle.std.specs.List.{after_first, before_first, filter_map, fold, position_or_len, reduce}
use Rattle.systems.specs.declared.Place.TheVariants.{Letter, Variable}
use Rattle.systems.specs.Rows.{any}
use Rattle.systems.specs.Sides.{Side, Equation, is_variable, stands_in}
use Rattle.sides.specs.declared.mark.Mark.{Mark}
use Rattle.sides.specs.declared.mark.Mark.TheVariants.{End, At}
use Rattle.sides.specs.Marks.{lifted, equations_in, marks_of, Whole}
use Rattle.sides.specs.Seeking.{First, any_variable_at, is_end}
use Rattle.sides.proofs.Flat.{live_count, count_some}

-- the same tests, the same first
pub first_same : (o : Option ℕ) (f g : ℕ → Bool) → ((y : ℕ) → f y ≡ g y) → First o f → First o g
first_same None f g e h = λ y. sym (e y) ∙ h y
first_same (Some x) f g e h = (sym (e x) ∙ h.0, λ y lt. sym (e y) ∙ h.1 y lt)

first_min : (z x : ℕ) (f : ℕ → Bool) → First (Some z) f → First (Some (min z x)) (λ y. f y || eqb y x)
first_min z x f h =
    ⊎_elim
    (λ (lt : z < x).
    let is : min z x ≡ z = omega arith in
    rw is (or_left (f z) (eqb z x) h.0, λ y l. or_from (f y) (eqb y x) (h.1 y l) (ne_eqb y x (λ d. omega arith))))
    (λ (le : x ≤ z).
    let is : min z x ≡ x = omega arith in
    rw is (or_right (f x) (eqb x x) (eq-eqb x x refl), λ y l. or_from (f y) (eqb y x) (h.1 y (omega arith)) (ne_eqb y x (λ d. omega arith))))
    (cases_lt z x)

first_at : (x : ℕ) → First (Some x) (λ y. eqb y x)
first_at x = (eq-eqb x x refl, λ y lt. ne_eqb y x (λ d. omega arith))

abbrev stands : ℕ → List Mark → Bool
stands y = any (lifted (is_variable y))

first_further : (ms : List Mark) (z : ℕ) (f : ℕ → Bool) → First (Some z) f → First (Some (fold min z (filter_map any_variable_at ms))) (λ y. f y || stands y ms)
first_further [] z f h = first_same (Some z) f (λ y. f y || false) (λ y. sym (or-false (f y))) h
first_further (End ∷ ms) z f h = first_further ms z f h
first_further (At (Letter a) ∷ ms) z f h = first_further ms z f h
first_further (At (Variable x) ∷ ms) z f h =
    first_same (Some (fold min (min z x) (filter_map any_variable_at ms))) (λ y. (f y || eqb y x) || stands y ms) (λ y. f y || (eqb y x || stands y ms)) (λ y. or_assoc (f y) (eqb y x) (stands y ms))
    (first_further ms (min z x) (λ y. f y || eqb y x) (first_min z x f h))

first_least : (ms : List Mark) → First (reduce min (filter_map any_variable_at ms)) (λ y. stands y ms)
first_least [] = λ y. refl
first_least (End ∷ ms) = first_least ms
first_least (At (Letter a) ∷ ms) = first_least ms
first_least (At (Variable x) ∷ ms) = first_further ms x (λ y. eqb y x) (first_at x)

pub first_live : (ms : List Mark) → Whole ms → First (reduce min (filter_map any_variable_at ms)) (stands_in (equations_in ms))
first_live ms h = first_same (reduce min (filter_map any_variable_at ms)) (λ y. stands y ms) (stands_in (equations_in ms)) (λ y. count_some y ms ∙ sym (live_count y ms h)) (first_least ms)

-- sides at the front of marks

end_at : (s : Side) (ms : List Mark) → position_or_len is_end (map At s ++ (End ∷ ms)) ≡ length s
end_at [] ms = refl
end_at (p ∷ s) ms = omega (arith, end_at s ms)

pub same_map : (s t : Side) → map At s ≡ map At t → s ≡ t
same_map [] [] e = refl
same_map [] (q ∷ t) e = cc
same_map (p ∷ s) [] e = cc
same_map (p ∷ s) (q ∷ t) e =
    let one : p ≡ q = cc in
    let more : map At s ≡ map At t = cc in
    ap₂ (λ x r. x ∷ r) one (same_map s t more)

module _ (ms : List Mark) (s : Side) (more : List Mark) (is : ms ≡ map At s ++ (End ∷ more)) where
  here : position_or_len is_end ms ≡ length (map At s)
  here = ap (position_or_len is_end) is ∙ end_at s more ∙ sym (length-map s At)

  pub front : before_first is_end ms ≡ map At s
  front = rw (here, is) (take_at (map At s) (End ∷ more) (length (map At s)) refl)

  pub behind : after_first is_end ms ≡ more
  behind = rw (here, is) (sym (drop-drop 1 (length (map At s)) (map At s ++ (End ∷ more))) ∙ ap (drop 1) (drop_at (map At s) (End ∷ more) (length (map At s)) refl))

  pub ends : position_or_len is_end ms < length ms
  ends = omega (arith, here, ap length is, length-append (map At s) (End ∷ more))

abbrev pub at_equation : List Equation → ℕ → Equation
at_equation E k = get_or E k ([], [])

pub open_one : (E : List Equation) (k : ℕ) (ms : List Mark) → k < length E → ms ≡ marks_of (drop k E) → ms ≡ map At (at_equation E k).0 ++ (End ∷ (map At (at_equation E k).1 ++ (End ∷ marks_of (drop (k + 1) E))))
unfolding marks_of
open_one E k ms lt e = e ∙ ap marks_of (drop_more E k ([], []) lt)
