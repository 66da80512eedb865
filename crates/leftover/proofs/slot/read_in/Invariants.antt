use Rattle.std.proofs.Common.{◌≡◌, ◌-◌, map, take}
use Rattle.leftover.proofs.slot.read_in.Given as goal

abbrev pub invariant-loop-byte : goal.invariant-loop-byte
invariant-loop-byte l = l.word ≡ map (λ b. b - 97) (take l.byte-index l.bytes)
