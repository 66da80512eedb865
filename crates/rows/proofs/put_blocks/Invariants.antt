use Rattle.std.proofs.Common.{◌≡◌, ◌+◌, ◌≤◌, ◌++◌, length}
use Rattle.std.specs.Int.NonZero.{non_zero_u32_get}
use Rattle.systems.specs.Rows.{replace_blocks}
use Rattle.rows.proofs.put_blocks.Given as goal

abbrev pub invariant-loop-ahead : goal.invariant-loop-ahead
invariant-loop-ahead g l =
    (l.out ++ replace_blocks (λ m. g.T.PartialEq.eq m l.a) l.a (non_zero_u32_get l.n) l.new l.count l.ahead ≡ replace_blocks (λ m. g.T.PartialEq.eq m l.a) l.a (non_zero_u32_get l.n) l.new 0 l.items)
    × (length l.out + l.count + length l.ahead ≤ length l.items)

abbrev pub decreases-loop-ahead : goal.decreases-loop-ahead
decreases-loop-ahead g l = length l.ahead
