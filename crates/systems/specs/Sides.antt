-- Sides and equations; what a side is with a word for each variable; words that solve equations. Assumes nothing.
use Rattle.std.specs.Prelude.{◌≡◌, ℕ, ◌+◌, ◌<◌, Bool, false, List, [], ◌∷◌, map, length, ◌==◌, nat_eq}
use Rattle.std.specs.List.{flat_map, AllByRecursion}
use Rattle.model.specs.Spelling.{Word}
use Rattle.systems.specs.declared.Place.{Place}
use Rattle.systems.specs.declared.Place.TheVariants.{Letter, Variable}
use Rattle.systems.specs.Rows.{any, replace_pairs, replace_blocks}

-- a row of places
abbrev pub Side : Type 0
Side = List Place

-- two sides
abbrev pub Equation : Type 0
Equation = Side × Side

-- all sides, in order
abbrev pub sides : List Equation → List Side
sides = flat_map (λ e. e.0 ∷ e.1 ∷ [])

-- the same done to every side
abbrev pub on_sides : (Side → Side) → List Equation → List Equation
on_sides f = map (λ e. (f e.0, f e.1))

-- how many places all sides have together
abbrev pub places : List Equation → ℕ
places [] = 0
places (e ∷ more) = (length e.0 + length e.1) + places more

-- the letter a stands here
abbrev pub is_letter : ℕ → Place → Bool
is_letter a (Letter b) = b == a
is_letter a (Variable x) = false

-- the variable x stands here
abbrev pub is_variable : ℕ → Place → Bool
is_variable x (Letter a) = false
is_variable x (Variable y) = x == y

-- the variable x stands in a side
abbrev pub stands_in : List Equation → ℕ → Bool
stands_in equations x = any (any (is_variable x)) (sides equations)

-- a word for each variable
abbrev pub Words : Type 0
Words = ℕ → Word

-- what a place is filled with
abbrev pub filled : Words → Place → Word
filled τ (Letter a) = a ∷ []
filled τ (Variable x) = τ x

-- the side with each variable's place replaced by its word
abbrev pub fill : Words → Side → Word
fill τ = flat_map (filled τ)

-- the two filled-in sides of every equation are the same word
abbrev pub Solves : Words → List Equation → Type 0
Solves τ = AllByRecursion (λ e. fill τ e.0 ≡ fill τ e.1)

-- the letters of the word are below k
abbrev pub Below : ℕ → Word → Type 0
Below k = AllByRecursion (λ a. a < k)

-- words over a to z, perhaps empty, perhaps with letters that the equations lack, that solve them
pub record Solution (σ : Words) (equations : List Equation) : Type 0 where
  pub solves : Solves σ equations
  pub a_to_z : (x : ℕ) → Below 26 (σ x)

-- the two sides are the same places
abbrev pub SameSides : Equation → Type 0
SameSides e = e.0 ≡ e.1

-- each a with b in the next place becomes c, in a word and in a side
abbrev pub word_pairs : ℕ → ℕ → ℕ → Word → Word
word_pairs a b c = replace_pairs (λ l. nat_eq l a) (λ l. nat_eq l b) c

abbrev pub side_pairs : ℕ → ℕ → ℕ → Side → Side
side_pairs a b c = replace_pairs (is_letter a) (is_letter b) (Letter c)

-- each maximal row of exactly n times a becomes c, in a word and in a side
abbrev pub word_blocks : ℕ → ℕ → ℕ → Word → Word
word_blocks a n c = replace_blocks (λ l. nat_eq l a) a n c 0

abbrev pub side_blocks : ℕ → ℕ → ℕ → Side → Side
side_blocks a n c = replace_blocks (is_letter a) (Letter a) n (Letter c) 0
