use Rattle.std.proofs.Common.{◌≡◌, ◌+◌, ◌*◌, ◌<◌, get_or, sym, ◌∙◌, arith, rules}
use Rattle.machine.specs.StateMaps.{by, map-≡, next_state, states_at}
use Rattle.machine.proofs.kind.MachineMeasure.letter.Goals as goal

pub returns : goal.returns
returns c =
    let next = c.args.self.now.next in
    let a = c.args.letter.number in
    map-≡ _ (by (λ s. next_state next s a)) (λ s h.
    let low : next_state next s a < 8 = c.args.self.now.ok (26 * s + a) (omega (arith, c.args.letter.ok)) in
    let called = c.from_fn.ensures.items.at s 0 h in
    let made : get_or c.from_fn.result s 0 ≡ next_state next s a = search rules in
    made ∙ sym (states_at (λ s. next_state next s a) s h low))
