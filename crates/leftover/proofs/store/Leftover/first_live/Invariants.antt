use Rattle.std.proofs.Common.{◌≡◌, ℕ, ◌<◌, false, None, get_or, is_some}
use Rattle.leftover.proofs.store.Leftover.first_live.Given as goal

abbrev pub invariant-loop-x : goal.invariant-loop-x
invariant-loop-x l = (y : ℕ) → y < l.x → is_some (get_or l.self.words y None) ≡ false
