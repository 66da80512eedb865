use Rattle.std.proofs.Common.{◌≡◌, ◌++◌, reverse, length, take}
use Rattle.std.specs.List.{flat_map}
use Rattle.systems.specs.Standings.{left_of, right_of}
use Rattle.checker.proofs.popped.put_word.Given as goal

abbrev pub invariant-loop-pop : goal.invariant-loop-pop
invariant-loop-pop l = l.letters.items ≡ flat_map (left_of l.x) (take l.pop-index l.pops)

abbrev pub invariant-loop-pop-2 : goal.invariant-loop-pop-2
invariant-loop-pop-2 l = l.letters.items ≡ flat_map (left_of l.x) l.pops ++ flat_map (right_of l.x) (take (length l.yielded) (reverse l.pops))
