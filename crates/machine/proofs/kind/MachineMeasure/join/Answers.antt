use Rattle.std.proofs.Common.{◌≡◌, get_or, sym, ◌∙◌, arith, rules}
use Rattle.machine.specs.StateMaps.{map-≡, then, then_at}
use Rattle.machine.proofs.kind.MachineMeasure.join.Goals as goal

pub invariant_of-result : goal.invariant_of-result
invariant_of-result c =
    let a = c.args.a in
    let b = c.args.b in
    record {
      ok = (
        c.from_fn.ensures.items.long,
        λ s h.
            let called = c.from_fn.ensures.items.at s 0 h in
            let made : get_or c.from_fn.result s 0 ≡ get_or b.to (get_or a.to s 0) 0 = search rules in
            omega (arith, b.ok.1 (get_or a.to s 0) (a.ok.1 s h)),
      );
    }

pub returns : goal.returns
returns c =
    let a = c.args.a in
    let b = c.args.b in
    map-≡ _ (then a b) (λ s h.
    let called = c.from_fn.ensures.items.at s 0 h in
    let made : get_or c.from_fn.result s 0 ≡ get_or b.to (get_or a.to s 0) 0 = search rules in
    made ∙ sym (then_at a b s h))
