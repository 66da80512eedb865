-- The sides that bytes stand for, and which refusal an equation meets, if any. Assumes nothing.
use Rattle.std.specs.Prelude.{ℕ, ◌-◌, Bool, true, cond, not, ◌&&◌, List, [], ◌∷◌, ◌++◌, length, is_some, Some, None, Option, nat_le, nat_lt}
use Rattle.std.specs.List.{flat_map}
use Rattle.systems.specs.declared.Place.{Place}
use Rattle.systems.specs.declared.Place.TheVariants.{Letter, Variable}
use Rattle.systems.specs.declared.LoadRefusal.{LoadRefusal}
use Rattle.systems.specs.declared.LoadRefusal.TheVariants.{NoLetter, TooManyEquations, TooManyPlaces}
use Rattle.systems.specs.Sides.{Side, places}
use Rattle.systems.specs.Standings.{Standing}

-- a to z are letters, A to Z are variables
abbrev pub place_of : ℕ → Option Place
place_of b = cond (nat_le 97 b && nat_le b 122) (Some (Letter (b - 97))) (cond (nat_le 65 b && nat_le b 90) (Some (Variable (b - 65))) None)

-- every byte is one of these
abbrev pub readable : List ℕ → Bool
readable [] = true
readable (b ∷ bytes) = is_some (place_of b) && readable bytes

-- as a row
abbrev pub at_most_one : Option Place → Side
at_most_one (Some place) = place ∷ []
at_most_one None = []

-- the places that the bytes stand for
abbrev pub side_of : List ℕ → Side
side_of = flat_map (λ b. at_most_one (place_of b))

-- what stands with one more equation
abbrev pub loaded_too : Standing → List ℕ → List ℕ → Standing
loaded_too S left right = record { equations = S.equations ++ ((side_of left, side_of right) ∷ []); rules = S.rules; pops = S.pops }

-- the first reason, in this order, why the equation may not be loaded
abbrev pub load_refusal : Standing → List ℕ → List ℕ → Option LoadRefusal
load_refusal S left right =
    cond (not (readable left && readable right)) (Some NoLetter)
    (cond (nat_le 32 (length S.equations)) (Some TooManyEquations)
    (cond (nat_lt 1024 (places (loaded_too S left right).equations)) (Some TooManyPlaces)
    None))

-- what stands after the call, which changes nothing where it is refused
abbrev pub after_load : Standing → List ℕ → List ℕ → Standing
after_load S left right = cond (is_some (load_refusal S left right)) S (loaded_too S left right)
