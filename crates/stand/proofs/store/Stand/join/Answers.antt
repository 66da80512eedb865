use Rattle.std.proofs.Common.{◌≡◌, None, sym, ap, ◌∙◌, append-nil}
use Rattle.std.specs.Option.{option_map}
use Rattle.model.specs.Witnesses.{rule_refusal}
use Rattle.systems.specs.declared.Choice.TheVariants.{Pair}
use Rattle.systems.specs.Refusals.{after_choice, choice_refusal, of_rule}
use Rattle.systems.specs.Sides.{on_sides, side_pairs}
use Rattle.systems.specs.Standings.{Standing}
use Rattle.stand.specs.Popping.{joining, with_rule}
use Rattle.stand.proofs.Taking.{takes}
use Rattle.stand.proofs.store.Stand.join.Goals as goal

pub returns-in-Pair-clause-stands : goal.returns-in-Pair-clause-stands
returns-in-Pair-clause-stands c =
    let S : Standing = c.args.self.now in
    let a = c.in-Pair.a in
    let b = c.in-Pair.b in
    let none : choice_refusal S (Pair a b) ≡ None = ap (λ rule. option_map of_rule (rule_refusal S.rules rule)) (sym c.in-Pair.is) ∙ sym c.in_ok-new.ensures.refusal in
    let made = c.self.view_is ∙ c.in_ok-new.ensures.stands ∙ ap (with_rule S) c.in-Pair.is in
    takes S _ (Pair a b) none
    (c.replace_pairs.ensures ∙ λ i. on_sides (side_pairs a b (c.in_ok-new.ensures.letter i)) (made i).equations)
    (ap (λ T. T.rules) made) (ap (λ T. T.pops) made ∙ sym (append-nil S.pops))
    ∙ ap (λ rule. after_choice S (joining rule)) (sym c.in-Pair.is)
