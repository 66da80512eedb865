use Rattle.std.proofs.Common.{◌≡◌, ◌+◌, ◌≤◌, ◌++◌, length}
use Rattle.systems.specs.Rows.{replace_pairs}
use Rattle.rows.proofs.put_pairs.Given as goal

abbrev pub invariant-loop-rest : goal.invariant-loop-rest
invariant-loop-rest g l =
    (l.out ++ replace_pairs (λ m. g.T.PartialEq.eq m l.a) (λ m. g.T.PartialEq.eq m l.b) l.new l.rest ≡ replace_pairs (λ m. g.T.PartialEq.eq m l.a) (λ m. g.T.PartialEq.eq m l.b) l.new l.items)
    × (length l.out + length l.rest ≤ length l.items)

abbrev pub decreases-loop-rest : goal.decreases-loop-rest
decreases-loop-rest g l = length l.rest
