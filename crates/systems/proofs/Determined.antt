-- What stands is decided by the calls. Assumes nothing.
use Rattle.std.proofs.Common.{◌≡◌, ℕ, List, [], ◌∷◌, ◌++◌, sym, refl, ap, ◌∙◌, subst, append_assoc, append-nil}
use Rattle.systems.specs.declared.Choice.{Choice}
use Rattle.systems.specs.Loading.{after_load}
use Rattle.systems.specs.Refusals.{after_choice}
use Rattle.systems.specs.Runs.{Load, load_all, opened, Reaches, opening, choosing}
use Rattle.systems.specs.Standings.{Standing, new}
use Rattle.systems.specs.Theorems.{CallsDecideWhatStands}

choose_all : Standing → List Choice → Standing
choose_all S [] = S
choose_all S (choice ∷ more) = choose_all (after_choice S choice) more

choose_one_more : (S : Standing) (choices : List Choice) (choice : Choice) → choose_all S (choices ++ (choice ∷ [])) ≡ after_choice (choose_all S choices) choice
unfolding choose_all
choose_one_more S [] choice = refl
choose_one_more S (first ∷ more) choice = choose_one_more (after_choice S first) more choice

goes_on : (loads : List Load) (earlier : List Choice) (S : Standing) → Reaches loads earlier S → (more : List Choice) → Reaches loads (earlier ++ more) (choose_all S more)
unfolding choose_all
goes_on loads earlier S run [] = subst (λ l. Reaches loads l S) (sym (append-nil earlier)) run
goes_on loads earlier S run (choice ∷ more) =
    subst (λ l. Reaches loads l (choose_all (after_choice S choice) more)) (append_assoc earlier (choice ∷ []) more)
    (goes_on loads (earlier ++ (choice ∷ [])) (after_choice S choice) (choosing run choice) more)

reached_is : (loads : List Load) (choices : List Choice) (S : Standing) → Reaches loads choices S → S ≡ choose_all (opened loads) choices
unfolding choose_all
reached_is loads choices S opening = refl
reached_is loads choices S (choosing {choices = earlier} {S = T} run choice) = ap (λ U. after_choice U choice) (reached_is loads earlier T run) ∙ sym (choose_one_more (opened loads) earlier choice)

load_one_more : (S : Standing) (loads : List Load) (left right : List ℕ) → load_all S (loads ++ ((left, right) ∷ [])) ≡ after_load (load_all S loads) left right
load_one_more S [] left right = refl
load_one_more S (first ∷ more) left right = load_one_more (after_load S first.0 first.1) more left right

pub calls_decide_what_stands : CallsDecideWhatStands
calls_decide_what_stands = record {
  some = λ loads choices. (choose_all (opened loads) choices, goes_on loads [] (opened loads) opening choices);
  same = λ loads choices S T run again. reached_is loads choices S run ∙ sym (reached_is loads choices T again);
  one_load_more = load_one_more new;
}
