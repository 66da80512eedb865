use Rattle.std.proofs.Common.{◌∙◌, rules, tests}
use Rattle.std.proofs.lemmas.Iterator.{YieldsList-from_slice}
use Rattle.std.proofs.lemmas.Iterator.Consumers.{YieldsList-from_enumerate}
use Rattle.std.proofs.lemmas.Iterator.Search.{all_from_yields_List}
use Rattle.measure.proofs.Filling.{in_its_turn, turns_by_place}
use Rattle.measure.proofs.values.all_in_turn.Goals as goal

pub returns : goal.returns
returns c =
    let rules_now = c.args.rules.now in
    all_from_yields_List in_its_turn _ _ _ c.all.ensures.ran (YieldsList-from_enumerate (YieldsList-from_slice rules_now (cc)) (cc)) (λ x b q k. search (rules, tests)) ∙ turns_by_place rules_now
