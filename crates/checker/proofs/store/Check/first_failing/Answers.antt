use Rattle.std.proofs.Common.{ℕ, Bool, Some, sym, ap, ◌∙◌, arith, below_more}
use Rattle.guarantee.specs.Closing.{fails}
use Rattle.measure.proofs.Symbols.{number_is_place}
use Rattle.checker.specs.Ending.{meaning}
use Rattle.checker.specs.Holding.{standing, system_of}
use Rattle.writing.proofs.First.{first_found, none_found}
use Rattle.checker.proofs.store.Check.first_failing.Goals as goal

pub loop-variable-init : goal.loop-variable-init
loop-variable-init g c = λ y lt. absurd (omega arith)

pub returns-then-fails : goal.returns-then-fails
returns-then-fails g c =
    let k = c.args.kind.now in
    let p : ℕ → Bool = fails (meaning (g.K.Measure.single k) (g.K.Measure.nothing k) (g.K.Measure.joined k) (g.K.Measure.passed k)) (system_of c.args.self.now) (standing c.args.self.now) in
    let i = c.loop-variable.variable-index in
    let place = number_is_place (λ v. v.number) c.all-variable-items.result 26 i c.variable-item.result c.all-variable-items.ensures c.loop-variable-test.true in
    ap Some (c.number.ensures.0 ∙ place) ∙ sym (first_found p i c.loop-variable-test.true (ap p (sym place) ∙ sym c.fails.ensures ∙ c.if-fails.true) c.loop-variable.invariant)

pub loop-variable-preserved : goal.loop-variable-preserved
loop-variable-preserved g c =
    let k = c.args.kind.now in
    let p : ℕ → Bool = fails (meaning (g.K.Measure.single k) (g.K.Measure.nothing k) (g.K.Measure.joined k) (g.K.Measure.passed k)) (system_of c.args.self.now) (standing c.args.self.now) in
    let i = c.loop-variable.variable-index in
    let place = number_is_place (λ v. v.number) c.all-variable-items.result 26 i c.variable-item.result c.all-variable-items.ensures c.loop-variable-test.true in
    below_more _ i c.loop-variable.invariant (ap p (sym place) ∙ sym c.fails.ensures ∙ c.if-fails.false)

pub returns : goal.returns
returns g c = sym (none_found _ (λ y lt. c.loop-variable.invariant y (omega arith)))
