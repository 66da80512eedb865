-- Where each load is taken, what is loaded are the sides of all equations, in turn. Assumes nothing.
use Rattle.std.proofs.Common.{◌≡◌, ℕ, List, [], ◌∷◌, ◌++◌, map, is_some, None, sym, refl, ap, ◌∙◌, subst, append_assoc, append-nil}
use Rattle.std.specs.List.{AllByRecursion}
use Rattle.std.proofs.lemmas.Bool.{cond-false}
use Rattle.systems.specs.Loading.{side_of, loaded_too, load_refusal, after_load}
use Rattle.systems.specs.Runs.{Load, load_all, loaded}
use Rattle.systems.specs.Sides.{Equation, Words, fill, Solves}
use Rattle.systems.specs.Standings.{Standing, new}
use Rattle.answers.specs.Taken.{EachLoaded}

-- the equation that a load stands for
abbrev equation_of : Load → Equation
equation_of e = (side_of e.0, side_of e.1)

load_taken : (S : Standing) (left right : List ℕ) → load_refusal S left right ≡ None → after_load S left right ≡ loaded_too S left right
load_taken S left right free = cond-false (is_some (load_refusal S left right)) S (loaded_too S left right) (ap is_some free)

all_loaded : (S : Standing) (loads : List Load) → ((before behind : List Load) (load : Load) → loads ≡ before ++ (load ∷ behind) → load_refusal (load_all S before) load.0 load.1 ≡ None) → (load_all S loads).equations ≡ S.equations ++ map equation_of loads
all_loaded S [] each = sym (append-nil S.equations)
all_loaded S (e ∷ loads) each =
    all_loaded (after_load S e.0 e.1) loads (λ before behind load is. each (e ∷ before) behind load (ap (λ l. e ∷ l) is)) ∙
    ap (λ T. T.equations ++ map equation_of loads) (load_taken S e.0 e.1 (each [] loads e refl)) ∙
    append_assoc S.equations (equation_of e ∷ []) (map equation_of loads)

loaded_are : (loads : List Load) → EachLoaded loads → loaded loads ≡ map equation_of loads
loaded_are loads each = all_loaded new loads each

mapped : (τ : Words) (loads : List Load) → Solves τ (map equation_of loads) → AllByRecursion (λ e. fill τ (side_of e.0) ≡ fill τ (side_of e.1)) loads
mapped τ [] h = tt
mapped τ (e ∷ loads) h = (h.0, mapped τ loads h.1)

-- words that solve what is loaded solve each equation
pub each_solved : (τ : Words) (loads : List Load) → EachLoaded loads → Solves τ (loaded loads) → AllByRecursion (λ e. fill τ (side_of e.0) ≡ fill τ (side_of e.1)) loads
each_solved τ loads each h = mapped τ loads (subst (Solves τ) (loaded_are loads each) h)
