-- When a choice fits the words that are followed beside what stands, and what it leaves of them. Assumes nothing.
use Rattle.std.specs.Prelude.{◌≡◌, ℕ, ◌<◌, ◌≤◌, true, ◌≢◌, ◌⊎◌, List, [], ◌∷◌, ◌++◌}
use Rattle.std.specs.List.{AllByRecursion}
use Rattle.systems.specs.declared.Place.TheVariants.{Variable}
use Rattle.systems.specs.declared.Choice.{Choice}
use Rattle.systems.specs.declared.Choice.TheVariants.{Left, Right, Erase, Pair, Block}
use Rattle.systems.specs.Sides.{Side, sides, Words, fill, word_pairs, word_blocks}
use Rattle.systems.specs.Standings.{Standing, fresh, live}

-- the last element is a, the first is a
abbrev pub EndsWith : {A : Type 0} → A → List A → Type 0
EndsWith {A} a w = (u : List A) × (w ≡ u ++ (a ∷ []))

abbrev pub BeginsWith : {A : Type 0} → A → List A → Type 0
BeginsWith {A} a w = (u : List A) × (w ≡ a ∷ u)

-- an occurrence of ab crosses: the side is cut beside a variable, and once the words are filled in a stands before the cut and b behind it
pub record Crosses (a b : ℕ) (τ : Words) (side : Side) : Type 0 where
  pub before : Side
  pub behind : Side
  pub cut : side ≡ before ++ behind
  pub beside : ((x : ℕ) × EndsWith (Variable x) before) ⊎ ((x : ℕ) × BeginsWith (Variable x) behind)
  pub ends : EndsWith a (fill τ before)
  pub begins : BeginsWith b (fill τ behind)

-- no occurrence of ab crosses in any side
abbrev pub NoneCrosses : ℕ → ℕ → Words → Standing → Type 0
NoneCrosses a b τ S = AllByRecursion (λ side. Crosses a b τ side → ⊥) (sides S.equations)

-- the words τ and τ' differ at x at most
abbrev pub SameBut : ℕ → Words → Words → Type 0
SameBut x τ τ' = (y : ℕ) → y ≢ x → τ' y ≡ τ y

-- the choice fits the words τ, and leaves the words τ'
abbrev pub Fits : Standing → Words → Choice → Words → Type 0
Fits S τ (Left x a) τ' = (live S x ≡ true) × (τ x ≡ a ∷ τ' x) × SameBut x τ τ'
Fits S τ (Right x a) τ' = (live S x ≡ true) × (τ x ≡ τ' x ++ (a ∷ [])) × SameBut x τ τ'
Fits S τ (Erase x) τ' = (live S x ≡ true) × (τ x ≡ []) × ((y : ℕ) → τ' y ≡ τ y)
Fits S τ (Pair a b) τ' = (a < fresh S) × (b < fresh S) × (a ≢ b) × NoneCrosses a b τ S × ((y : ℕ) → τ' y ≡ word_pairs a b (fresh S) (τ y))
Fits S τ (Block a n) τ' = (a < fresh S) × (2 ≤ n) × (n ≤ 1000000) × NoneCrosses a a τ S × ((y : ℕ) → τ' y ≡ word_blocks a n (fresh S) (τ y))
