-- An occurrence in a filled-in side, by the places that its two letters come from. Assumes nothing.
use Rattle.std.specs.Prelude.{◌≡◌, ℕ, suc, ◌≢◌, List, [], ◌∷◌, ◌++◌, map}
use Rattle.systems.specs.declared.Place.{Place}
use Rattle.systems.specs.declared.Place.TheVariants.{Letter, Variable}
use Rattle.systems.specs.Sides.{Side, Words, filled}

-- a letter, the number of the place that it comes from, and what stands at that place
abbrev pub Traced : Type 0
Traced = ℕ × ℕ × Place

-- the letters of the filled-in side, where the side begins with the place number k
abbrev pub traced : Words → ℕ → Side → List Traced
traced τ k [] = []
traced τ k (place ∷ rest) = map (λ l. (l, k, place)) (filled τ place) ++ traced τ (suc k) rest

abbrev pub IsLetter : Place → Type 0
IsLetter (Letter a) = Unit {0}
IsLetter (Variable x) = ⊥

-- an occurrence of ab that comes neither from one place nor from two letters in neighbouring places
pub record CrossingOccurrence (a b : ℕ) (τ : Words) (side : Side) : Type 0 where
  pub before : List Traced
  pub behind : List Traced
  pub i : ℕ
  pub j : ℕ
  pub p : Place
  pub q : Place
  pub occurs : traced τ 0 side ≡ before ++ ((a, i, p) ∷ (b, j, q) ∷ behind)
  pub apart : i ≢ j
  pub not_neighbours : j ≡ suc i → IsLetter p → IsLetter q → ⊥
