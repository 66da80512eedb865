use Rattle.std.proofs.Common.{ℕ, true, refl, arith, rules, tests}
use Rattle.std.proofs.lemmas.Iterator.{YieldsList-from_slice, YieldsList-from_zip, cases_from_any}
use Rattle.measure.proofs.Zipping.{place_of_pair}
use Rattle.length.specs.Limits.{InOrder, IsOutOfOrder}
use Rattle.length.proofs.kind.Length.new.Goals as goal

pub returns-then-any : goal.returns-then-any
returns-then-any c =
    let least = c.args.least in
    let most = c.args.most in
    let found = cases_from_any c.any.new.self _ true (λ (p : ℕ × ℕ). IsOutOfOrder p.0 p.1) (λ p. InOrder p.0 p.1) c.if-any.ensures.ran (YieldsList-from_zip (YieldsList-from_slice least (cc)) (YieldsList-from_slice most (cc))) (λ x q k. search (rules, tests)) (λ x q k. search (rules, tests)) in
    (refl, place_of_pair (λ p. IsOutOfOrder p.0 p.1) least most 26 (omega arith) (omega arith) found)
