use Rattle.std.proofs.Common.{◌≡◌, ◌++◌, replicate}
use Rattle.rows.proofs.put_block.Given as goal

abbrev pub invariant-loop : goal.invariant-loop
invariant-loop g l = l.out ≡ l.initial.out ++ replicate l.counter l.a
