use Rattle.std.proofs.Common.{◌≡◌, ◌+◌, ◌≤◌, reverse, length, take, drop}
use Rattle.measure.specs.Tables.{Filled}
use Rattle.measure.proofs.values.fill_values.Given as goal

abbrev pub invariant-loop-i : goal.invariant-loop-i
invariant-loop-i g l =
    let m = g.K.Measure in
    let k = l.kind in
    (26 + length l.rules ≤ length l.table)
    × Filled (m.single k) (m.nothing k) (m.joined k) (reverse (take l.i l.rules)) l.table
    × (drop (26 + l.i) l.table ≡ drop (26 + l.i) l.initial.table)
