use Rattle.std.proofs.Common.{◌≡◌, ◌+◌, length, drop, sym, ap, ◌∙◌, arith, length-set}
use Rattle.std.proofs.lemmas.List.{drop-set-lt}
use Rattle.measure.proofs.Filling.{taken_parts, fill_more, same_later}
use Rattle.measure.proofs.values.fill_values.Goals as goal

pub loop-i-preserved : goal.loop-i-preserved
loop-i-preserved g c =
    let m = g.K.Measure in
    let k = c.args.kind.now in
    let rules = c.args.rules.now in
    let t = c.loop-i.table in
    let i = c.loop-i.i in
    let v = c.of_rule.result in
    let turn = (taken_parts rules (length c.args.table.now) c.in_ok-check_fill.ensures).1 in
    let room = c.loop-i.invariant.0 in (
      simp length-set room,
      fill_more (m.single k) (m.associative k) (m.neutral k) rules i _ t v c.loop-i-test.true room turn c.of_rule.ensures c.loop-i.invariant.1,
      drop-set-lt (26 + (i + 1)) t (26 + i) v (omega arith) ∙ same_later (26 + i) (26 + (i + 1)) t c.fill_letters.new.table (omega arith) c.loop-i.invariant.2,
    )

pub returns-clause-rest : goal.returns-clause-rest
returns-clause-rest g c =
    let n = length c.args.rules.now in
    let t = c.loop-i.table in
    let start = c.fill_letters.new.table in
    let end : c.loop-i.i ≡ n = omega arith in
    ap (λ j. drop (26 + j) t) (sym end) ∙ c.loop-i.invariant.2 ∙ ap (λ j. drop (26 + j) start) end ∙ same_later 26 (26 + n) start c.args.table.now (omega arith) c.fill_letters.ensures.rest
