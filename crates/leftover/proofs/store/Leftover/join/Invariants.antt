use Rattle.std.proofs.Common.{◌≡◌, ◌++◌, drop, map, take}
use Rattle.std.specs.Option.{option_map}
use Rattle.leftover.specs.Leaving.{joined_word}
use Rattle.leftover.proofs.store.Leftover.join.Given as goal

abbrev pub invariant-loop-x : goal.invariant-loop-x
invariant-loop-x l =
    (l.self.words ≡ map (option_map (joined_word l.rule l.initial.self.fresh)) (take l.x l.initial.self.words) ++ drop l.x l.initial.self.words)
    × (l.self.filled ≡ l.initial.self.filled)
    × (l.self.fresh ≡ l.initial.self.fresh)
