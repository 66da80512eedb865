use Rattle.std.proofs.Common.{◌≡◌, ℕ, ◌<◌, get_or, drop}
use Rattle.measure.proofs.values.fill_letters.Given as goal

abbrev pub invariant-loop-letter : goal.invariant-loop-letter
invariant-loop-letter g l =
    ((a : ℕ) → a < l.letter-index → get_or l.table a (g.K.Measure.nothing l.kind) ≡ g.K.Measure.single l.kind a)
    × (drop 26 l.table ≡ drop 26 l.initial.table)
