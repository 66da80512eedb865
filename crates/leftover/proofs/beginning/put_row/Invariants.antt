use Rattle.std.proofs.Common.{◌≡◌, ◌-◌, map, take}
use Rattle.systems.specs.declared.Place.TheVariants.{Letter}
use Rattle.leftover.proofs.beginning.put_row.Given as goal

abbrev pub invariant-loop-byte : goal.invariant-loop-byte
invariant-loop-byte l = l.row ≡ map Letter (map (λ b. b - 97) (take l.byte-index l.bytes))
