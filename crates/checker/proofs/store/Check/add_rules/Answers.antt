use Rattle.std.proofs.Common.{[], reverse, ap, ◌∙◌}
use Rattle.std.proofs.lemmas.List.{take_all}
use Rattle.model.specs.declared.Rule.TheVariants.{Pair}
use Rattle.model.specs.Witnesses.{rules_fit}
use Rattle.witness.specs.Holding.{contents_of}
use Rattle.checker.proofs.Adding.{ok_taken, rule_free, rule_turn}
use Rattle.checker.proofs.store.Check.add_rules.Goals as goal

pub loop-rule-init : goal.loop-rule-init
loop-rule-init c = c.requires

pub unwrap-requires : goal.unwrap-requires
unwrap-requires c =
    let kept = c.rules-rule-items in
    ok_taken c.add_rule.result _ _ _ (rule_free kept.result.now c.loop-rule.rule-index (Pair 0 0) (contents_of c.loop-rule.witness) c.loop-rule-test.true (ap rules_fit kept.ensures.value ∙ kept.ensures.fit) c.loop-rule.invariant) c.add_rule.ensures.outcome

pub loop-rule-preserved : goal.loop-rule-preserved
loop-rule-preserved c =
    let kept = c.rules-rule-items in
    rule_turn kept.result.now c.loop-rule.rule-index (Pair 0 0) (contents_of c.loop-rule.witness) (contents_of c.add_rule.new.self) c.add_rule.result c.loop-rule-test.true (ap rules_fit kept.ensures.value ∙ kept.ensures.fit) c.loop-rule.invariant c.add_rule.ensures.outcome

pub returns : goal.returns
returns c =
    let kept = c.rules-rule-items in
    c.loop-rule.invariant ∙ ap (λ rs. record { rules = reverse rs; entries = [] }) (take_all c.loop-rule.rule-index kept.result.now c.loop-rule-test.false) ∙ ap (λ rs. record { rules = rs; entries = [] }) kept.ensures.value
