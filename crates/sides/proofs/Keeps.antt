-- What a pass keeps, and how many places stand after it. Assumes nothing.
use Rattle.std.proofs.Common.{◌≡◌, ℕ, ◌+◌, ◌*◌, ◌≤◌, true, List, [], ◌∷◌, ◌++◌, length, sym, refl, ap, ◌∙◌, ap₂, arith}
use Rattle.std.proofs.lemmas.List.{length-map}
use Rattle.systems.specs.Choices.{swap}
use Rattle.systems.specs.Loading.{readable, side_of}
use Rattle.systems.specs.Sides.{Side, Equation, on_sides, places}
use Rattle.sides.specs.declared.mark.Mark.{Mark}
use Rattle.sides.specs.Marks.{equations_in, Whole, Kept, count_of, mark_swap}
use Rattle.sides.proofs.Flat.{places_length, swap_length, swap_holds, places_more, length_side_of, none_hold, none_whole}

module _ (r : Side → Side) (ms ms' : List Mark) (n : ℕ) (e : (equations_in ms' ≡ on_sides r (equations_in ms)) × Whole ms') (counted : n ≡ length (equations_in ms)) where
  pub still_counted : n ≡ length (equations_in ms')
  still_counted = counted ∙ sym (ap length e.0 ∙ length-map (equations_in ms) (λ q. (r q.0, r q.1)))

  pub still_long : length ms' ≡ places (on_sides r (equations_in ms)) + 2 * n
  still_long = omega (arith, places_length ms' e.1, ap places e.0, still_counted)

-- where a row stands in each place of x
pub swap_places : (x : ℕ) (v : Side) (ms : List Mark) → Whole ms → places (on_sides (swap x v) (equations_in ms)) + count_of x ms ≡ places (equations_in ms) + count_of x ms * length v
swap_places x v ms h =
    let then = mark_swap x v ms in
    omega (arith, still_long (swap x v) ms then (length (equations_in ms)) (swap_holds x v ms then h refl) refl, places_length ms h, swap_length x v ms)

-- with one more equation
pub places_loaded : (E : List Equation) (l r : List ℕ) → readable l ≡ true → readable r ≡ true → places (E ++ ((side_of l, side_of r) ∷ [])) ≡ places E + (length l + length r)
places_loaded E l r el er = places_more E (side_of l) (side_of r) ∙ ap₂ (λ m n. places E + (m + n)) (length_side_of l el) (length_side_of r er)

-- no more than 2,048 places ever stand
pub few_places : (ms : List Mark) (n : ℕ) → Kept ms n → places (equations_in ms) ≤ 2048
few_places ms n k = omega (arith, places_length ms k.whole, k.counted, k.short)

-- a pass that lets no more places stand keeps the rest
pub kept : (r : Side → Side) (ms ms' : List Mark) (n : ℕ) → Kept ms n → (equations_in ms' ≡ on_sides r (equations_in ms)) × Whole ms' → length ms' ≤ 2048 + 2 * n → Kept ms' n
kept r ms ms' n k e short = record { whole = e.1; counted = still_counted r ms ms' n e k.counted; few = k.few; short = short }

pub none_kept : Kept [] 0
none_kept = record { whole = none_whole; counted = sym (ap length none_hold); few = omega arith; short = omega arith }
