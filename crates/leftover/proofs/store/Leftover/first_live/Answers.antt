use Rattle.std.proofs.Common.{◌≡◌, true, None, get_or, is_some, length, sym, rules, arith}
use Rattle.std.proofs.lemmas.List.{get_or_default}
use Rattle.writing.proofs.First.{first_found, none_found}
use Rattle.leftover.proofs.store.Leftover.first_live.Goals as goal

pub returns-then-is_some : goal.returns-then-is_some
returns-then-is_some c =
    let all : length c.args.self.now.words ≡ 26 = search rules in
    let same = get_or_default c.args.self.now.words c.loop-x.x None c.index-self-from.result (omega (arith, all, c.loop-x-test.true)) in
    let here : is_some (get_or c.args.self.now.words c.loop-x.x None) ≡ true = search (rules, same) in
    sym (first_found (λ x. is_some (get_or c.args.self.now.words x None)) c.loop-x.x c.loop-x-test.true here c.loop-x.invariant)

pub returns : goal.returns
returns c = sym (none_found (λ x. is_some (get_or c.args.self.now.words x None)) (λ y low. c.loop-x.invariant y (omega arith)))
