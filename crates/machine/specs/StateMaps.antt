-- Where a word leads from each of 8 states, and the laws of reading one word after another. Assumes nothing.
-- The proofs stand here, since an impl of the trait and what its contracts read may cite nothing of the crate's own proofs/.
use Rattle.std.specs.Prelude.{◌≡◌, ℕ, ◌+◌, ◌*◌, ◌<◌, min, List, map, length, slice_index}
use Rattle.std.proofs.Common.{ap, sym, ◌∙◌, arith}
use mathlib.Core.HLevel.{is_prop→PathP, ×_prop, Π_prop}
use Rattle.std.proofs.Math.Bridge.{le_prop}
use Rattle.std.proofs.Math.Nat.{ℕ_set}
use Rattle.std.specs.List.{range_with_len}
use Rattle.std.proofs.lemmas.List.FromFn.{length-map-range_with_len, get_or-map-range_with_len}
use Rattle.std.proofs.lemmas.List.{ext_get_or}
use Rattle.systems.specs.Values.{Associative, Neutral}
use Rattle.machine.specs.declared.value.StateMap.{StateMap}

-- the state after the letter a in the state s, in a table of 8 times 26
abbrev pub next_state : List ℕ → ℕ → ℕ → ℕ
next_state next s a = slice_index next (26 * s + a)

-- what a function gives at each of the 8 states, none over 7
abbrev pub states : (ℕ → ℕ) → List ℕ
states f = map (λ s. min (f s) 7) (range_with_len 0 8)

states_min : (f : ℕ → ℕ) (s : ℕ) → s < 8 → slice_index (states f) s ≡ min (f s) 7
states_min f s h = get_or-map-range_with_len (λ s. min (f s) 7) 0 8 s s 0 h (omega arith)

pub states_at : (f : ℕ → ℕ) (s : ℕ) → s < 8 → f s < 8 → slice_index (states f) s ≡ f s
states_at f s h low = let e = states_min f s h in omega arith

pub states_low : (f : ℕ → ℕ) (s : ℕ) → s < 8 → slice_index (states f) s < 8
states_low f s h = let e = states_min f s h in omega arith

-- the map by a function
abbrev pub by : (ℕ → ℕ) → StateMap
by f = record { to = states f; ok = (length-map-range_with_len (λ s. min (f s) 7) 0 8, states_low f) }

abbrev pub stay : StateMap
stay = by (λ s. s)

-- the first map and then the second
abbrev pub then : StateMap → StateMap → StateMap
then a b = by (λ s. slice_index b.to (slice_index a.to s))

pub then_at : (a b : StateMap) (s : ℕ) → s < 8 → slice_index (then a b).to s ≡ slice_index b.to (slice_index a.to s)
then_at a b s h = states_at (λ s. slice_index b.to (slice_index a.to s)) s h (b.ok.1 (slice_index a.to s) (a.ok.1 s h))

pub stay_at : (s : ℕ) → s < 8 → slice_index stay.to s ≡ s
stay_at s h = states_at (λ s. s) s h h

-- the list decides
pub list-≡ : (x y : StateMap) → x.to ≡ y.to → x ≡ y
list-≡ x y e = λ i. record { to = e i; ok = is_prop→PathP (λ j. (length (e j) ≡ 8) × ((s : ℕ) → s < 8 → slice_index (e j) s < 8)) (λ j. ×_prop (ℕ_set _ _) (Π_prop (λ s. Π_prop (λ h. le_prop)))) x.ok y.ok i }

-- and so do the states that it leads to
pub map-≡ : (x y : StateMap) → ((s : ℕ) → s < 8 → slice_index x.to s ≡ slice_index y.to s) → x ≡ y
map-≡ x y h = list-≡ x y (ext_get_or 0 x.to y.to (x.ok.0 ∙ sym y.ok.0) (λ s k. let n = x.ok.0 in h s (omega arith)))

pub then_associative : Associative then
then_associative = record {
  associates = λ x y z. map-≡ (then (then x y) z) (then x (then y z)) (λ s h.
      then_at (then x y) z s h ∙ ap (λ k. slice_index z.to k) (then_at x y s h)
      ∙ sym (then_at x (then y z) s h ∙ then_at y z (slice_index x.to s) (x.ok.1 s h)));
}

pub then_neutral : Neutral stay then
then_neutral = record {
  left = λ x. map-≡ (then stay x) x (λ s h. then_at stay x s h ∙ ap (λ k. slice_index x.to k) (stay_at s h));
  right = λ x. map-≡ (then x stay) x (λ s h. then_at x stay s h ∙ stay_at (slice_index x.to s) (x.ok.1 s h));
}
