-- What is left to show where an erasure or a rule is taken. Assumes nothing.
use Rattle.std.proofs.Common.{◌≡◌, ℕ, ◌<◌, ◌≤◌, ltb, true, cond, is_some, Some, None, Ok, Err, Result, MatchResult, sym, refl, ap, ◌∙◌}
use Rattle.std.proofs.lemmas.Bool.{cond-true, cond-false, lt-ltb, le-ltb}
use Rattle.std.specs.Result.{result_err}
use Rattle.systems.specs.declared.Choice.{Choice}
use Rattle.systems.specs.declared.Choice.TheVariants.{Erase}
use Rattle.systems.specs.declared.ChoiceRefusal.{ChoiceRefusal}
use Rattle.systems.specs.declared.ChoiceRefusal.TheVariants.{TooManyPlaces}
use Rattle.systems.specs.declared.Pop.{Pop}
use Rattle.systems.specs.Choices.{swap, taken}
use Rattle.systems.specs.Refusals.{choice_refusal, after_choice, pop_refusal}
use Rattle.systems.specs.Sides.{Side, on_sides, places}
use Rattle.stand.specs.Popping.{RefusesBeforePlaces, popping, with_pop}
use Rattle.systems.specs.Standings.{Standing, live}

-- a choice that is not refused, and the three parts of what stands then
pub takes : (S S' : Standing) (choice : Choice) → choice_refusal S choice ≡ None → S'.equations ≡ (taken S choice).equations → S'.rules ≡ (taken S choice).rules → S'.pops ≡ (taken S choice).pops → S' ≡ after_choice S choice
takes S S' choice none e r p =
    let is : S' ≡ taken S choice = λ i. record { equations = e i; rules = r i; pops = p i } in
    is ∙ sym (ap (λ o. cond (is_some o) S (taken S choice)) none)

-- an erasure of a live variable
pub not_refused : (S : Standing) (x : ℕ) → live S x ≡ true → choice_refusal S (Erase x) ≡ None
not_refused S x e = rw e refl

-- a choice that is refused
pub refused : (S : Standing) (choice : Choice) (why : ChoiceRefusal) → choice_refusal S choice ≡ Some why → S ≡ after_choice S choice
refused S choice why e = sym (ap (λ o. cond (is_some o) S (taken S choice)) e)

-- the pop puts this row for x, and takes the letter a
pub record Puts (S : Standing) (pop : Pop) (x a : ℕ) (row : Side) : Type 0 where
  pub refusal : choice_refusal S (popping pop) ≡ pop_refusal S x a (places (on_sides (swap x row) S.equations))
  pub stands : taken S (popping pop) ≡ with_pop S x row pop

-- where only the places are left to judge, they decide
module _ {S : Standing} {pop : Pop} {x a : ℕ} {row : Side} (p : Puts S pop x a row) (h : RefusesBeforePlaces S x a None) where
  abbrev then : ℕ
  then = places (on_sides (swap x row) S.equations)

  pub over : 2048 < then → choice_refusal S (popping pop) ≡ Some TooManyPlaces
  over more = p.refusal ∙ h.0 then ∙ cond-true (ltb 2048 then) (Some TooManyPlaces) None (lt-ltb 2048 then more)

  pub under : then ≤ 2048 → choice_refusal S (popping pop) ≡ None
  under few = p.refusal ∙ h.0 then ∙ cond-false (ltb 2048 then) (Some TooManyPlaces) None (le-ltb 2048 then few)

-- a call that is never refused
pub only_ok : {P : Type 0} {Q : ChoiceRefusal → Type 0} (r : Result (Unit {0}) ChoiceRefusal) → MatchResult r (λ _. P) Q → ((e : ChoiceRefusal) → Q e → ⊥) → (result_err r ≡ None) × P
only_ok (Ok u) h never = (refl, h)
only_ok (Err e) h never = absurd (never e h)
