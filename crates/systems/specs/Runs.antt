-- Whole runs: loads in turn from the new system, the opening, choices in turn; what is refused changes nothing. Assumes nothing.
use Rattle.std.specs.Prelude.{◌≡◌, ℕ, true, List, [], ◌∷◌, ◌++◌, Some, None}
use Rattle.systems.specs.declared.Choice.{Choice}
use Rattle.systems.specs.declared.ChoiceRefusal.{ChoiceRefusal}
use Rattle.systems.specs.Fitting.{Fits}
use Rattle.systems.specs.Loading.{after_load}
use Rattle.systems.specs.Refusals.{choice_refusal, after_choice}
use Rattle.systems.specs.Sides.{Equation, stands_in, Words}
use Rattle.systems.specs.Standings.{Standing, new}

-- the bytes of the two sides of one call
abbrev pub Load : Type 0
Load = List ℕ × List ℕ

-- these loads in turn
abbrev pub load_all : Standing → List Load → Standing
load_all S [] = S
load_all S (load ∷ more) = load_all (after_load S load.0 load.1) more

-- what stands once a new system was given these loads in turn; opening keeps it
abbrev pub opened : List Load → Standing
opened = load_all new

-- the equations of the loads that were taken
abbrev pub loaded : List Load → List Equation
loaded loads = (opened loads).equations

-- the variable x stands in a loaded equation
abbrev pub OfSystem : List Load → ℕ → Type 0
OfSystem loads x = stands_in (loaded loads) x ≡ true

-- S stands after these loads, the opening and these choices
pub data Reaches (loads : List Load) : List Choice → Standing → Type 0 where
  opening : Reaches loads [] (opened loads)
  choosing : {choices : List Choice} {S : Standing} → Reaches loads choices S → (choice : Choice) → Reaches loads (choices ++ (choice ∷ [])) (after_choice S choice)

-- S stands after them, and the words σ are followed beside it to τ: the taken choices fit in turn, the refused ones are passed over
pub data Follows (loads : List Load) (σ : Words) : List Choice → Standing → Words → Type 0 where
  beginning : Follows loads σ [] (opened loads) σ
  fitting : {choices : List Choice} {S : Standing} {τ : Words} → Follows loads σ choices S τ → (choice : Choice) (τ' : Words) → choice_refusal S choice ≡ None → Fits S τ choice τ' → Follows loads σ (choices ++ (choice ∷ [])) (after_choice S choice) τ'
  passing : {choices : List Choice} {S : Standing} {τ : Words} → Follows loads σ choices S τ → (choice : Choice) (why : ChoiceRefusal) → choice_refusal S choice ≡ Some why → Follows loads σ (choices ++ (choice ∷ [])) (after_choice S choice) τ
