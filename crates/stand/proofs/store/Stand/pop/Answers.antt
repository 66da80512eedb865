use Rattle.std.proofs.Common.{◌≡◌, ◌<◌, ◌≤◌, [], ◌∷◌, ◌++◌, Some, None, refl, sym, ap, ◌∙◌, arith, rules}
use Rattle.systems.specs.declared.ChoiceRefusal.TheVariants.{TooManyPlaces}
use Rattle.letters.specs.Holding.{rules_of}
use Rattle.systems.specs.Choices.{swap}
use Rattle.systems.specs.Refusals.{choice_refusal}
use Rattle.systems.specs.Sides.{on_sides, places}
use Rattle.systems.specs.Standings.{Standing}
use Rattle.stand.specs.Popping.{popping}
use Rattle.stand.proofs.Taking.{Puts, over, refused, under, takes}
use Rattle.stand.proofs.store.Stand.pop.Goals as goal
use Rattle.stand.proofs.store.Stand.pop.Goals.{Joined-pop, in-AtLeft, in-AtRight}

puts : (c : Joined-pop) → Puts c.args.self.now c.args.pop c.match-pop.x.0 c.match-pop.x.1 c.match-pop.x.2
puts c = elim c.match-pop.branch [
  | in-AtLeft w ↦ rw (w.x-is, w.in-AtLeft.is) (record { refusal = refl; stands = refl })
  | in-AtRight w ↦ rw (w.x-is, w.in-AtRight.is) (record { refusal = refl; stands = refl })
]

pub returns-in_err-may_pop-clause-refusal : goal.returns-in_err-may_pop-clause-refusal
returns-in_err-may_pop-clause-refusal c =
    let p = puts (goal.at.returns-in_err-may_pop-clause-refusal c).Joined-pop in
    let why : choice_refusal c.args.self.now (popping c.args.pop) ≡ Some c.in_err-may_pop.field-0.0 = p.refusal ∙ c.in_err-may_pop.ensures _ in
    search rules

pub returns-in_err-replace_variable : goal.returns-in_err-replace_variable
returns-in_err-replace_variable c =
    let S : Standing = c.args.self.now in
    let choice = popping c.args.pop in
    let p = puts (goal.at.returns-in_err-replace_variable c).Joined-pop in
    let more : 2048 < places (on_sides (swap c.match-pop.x.0 c.match-pop.x.2) S.equations) = omega (arith, c.in_err-replace_variable.ensures.0, ap (λ T. places (on_sides (swap c.match-pop.x.0 c.match-pop.x.2) T.equations)) c.self.view_is) in
    let why : choice_refusal S choice ≡ Some TooManyPlaces = over p c.in_ok-may_pop.ensures more in
    let same : c.replace_variable.new.self ≡ c.self.inside.sides = c.in_err-replace_variable.ensures.2 in
    record {
      refusal = search rules;
      stands = (λ i. record { equations = same i; rules = rules_of c.self.inside.letters; pops = c.self.inside.pops }) ∙ c.self.view_is ∙ refused S choice TooManyPlaces why;
    }

pub returns : goal.returns
returns c =
    let S : Standing = c.args.self.now in
    let choice = popping c.args.pop in
    let p = puts (goal.at.returns c).Joined-pop in
    let r = swap c.match-pop.x.0 c.match-pop.x.2 in
    let few : places (on_sides r S.equations) ≤ 2048 = omega (arith, c.in_ok-replace_variable.ensures.0, ap (λ T. places (on_sides r T.equations)) c.self.view_is) in
    let none : choice_refusal S choice ≡ None = under p c.in_ok-may_pop.ensures few in
    let noted : c.push.new.self ≡ c.self.inside.pops ++ (c.args.pop ∷ []) = search rules in
    record {
      refusal = sym none;
      stands = takes S _ choice none
          (c.in_ok-replace_variable.ensures.1 ∙ ap (λ T. on_sides r T.equations) c.self.view_is ∙ sym (ap (λ T. T.equations) p.stands))
          (ap (λ T. T.rules) c.self.view_is ∙ sym (ap (λ T. T.rules) p.stands))
          (noted ∙ ap (λ T. T.pops ++ (c.args.pop ∷ [])) c.self.view_is ∙ sym (ap (λ T. T.pops) p.stands));
    }
