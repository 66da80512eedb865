-- The runs that lead to what stands, one call further. Assumes nothing.
use Rattle.std.proofs.Common.{◌≡◌, ℕ, ◌<◌, Bool, false, List, [], ◌∷◌, ◌++◌, get_or, sym, ap, ◌∙◌, subst}
use mathlib.Core.Logic.{∥∥₁_map}
use Rattle.systems.specs.declared.Choice.{Choice}
use Rattle.systems.specs.Loading.{after_load}
use Rattle.systems.specs.Refusals.{after_choice}
use Rattle.systems.specs.Runs.{Load, Reaches, opening, choosing}
use Rattle.systems.specs.Sides.{stands_in}
use Rattle.systems.specs.Standings.{Standing}
use Rattle.systems.proofs.Determined.{calls_decide_what_stands}
use Rattle.checker.specs.Running.{AfterLoads, AfterRun, SomeLoads, SomeRun}

-- one load more
pub load_more : (loads : List Load) (left right : List ℕ) (S S' : Standing) → AfterLoads loads S → S' ≡ after_load S left right → AfterLoads (loads ++ ((left, right) ∷ [])) S'
load_more loads left right S S' run is = is ∙ ap (λ T. after_load T left right) run ∙ sym (calls_decide_what_stands.one_load_more loads left right)

pub some_load_more : (left right : List ℕ) (S S' : Standing) → SomeLoads S → S' ≡ after_load S left right → SomeLoads S'
some_load_more left right S S' some is = ∥∥₁_map some (λ h. (h.0 ++ ((left, right) ∷ []), load_more h.0 left right S S' h.1 is))

-- the opening
pub opening_run : (loads : List Load) (S : Standing) (system : List Bool) → AfterLoads loads S → ((x : ℕ) → x < 26 → get_or system x false ≡ stands_in S.equations x) → AfterRun loads [] S system
opening_run loads S system run marks = record {
  reaches = subst (Reaches loads []) (sym run) opening;
  variables_of_system = λ x low. marks x low ∙ ap (λ T. stands_in T.equations x) run;
}

pub some_opening : (S : Standing) (system : List Bool) → SomeLoads S → ((x : ℕ) → x < 26 → get_or system x false ≡ stands_in S.equations x) → SomeRun S system
some_opening S system some marks = ∥∥₁_map some (λ h. (h.0, [], opening_run h.0 S system h.1 marks))

-- one choice more
pub choice_more : (loads : List Load) (choices : List Choice) (choice : Choice) (S S' : Standing) (system : List Bool) → AfterRun loads choices S system → S' ≡ after_choice S choice → AfterRun loads (choices ++ (choice ∷ [])) S' system
choice_more loads choices choice S S' system run is = record {
  reaches = subst (Reaches loads (choices ++ (choice ∷ []))) (sym is) (choosing run.reaches choice);
  variables_of_system = run.variables_of_system;
}

pub some_choice_more : (choice : Choice) (S S' : Standing) (system : List Bool) → SomeRun S system → S' ≡ after_choice S choice → SomeRun S' system
some_choice_more choice S S' system some is = ∥∥₁_map some (λ h. (h.0, h.1 ++ (choice ∷ []), choice_more h.0 h.1 choice S S' system h.2 is))
