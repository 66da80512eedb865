use Rattle.std.proofs.Common.{rules, None, refl}
use Rattle.leftover.proofs.store.Leftover.new.Goals as goal

pub returns : goal.returns
returns c =
    let made = c.in_ok-try_from_fn.ensures.ok in
    record {
      words = λ x low. let at = made.at x None low in search rules;
      filled = c.in_ok-new-3.ensures;
      next = refl;
    }
