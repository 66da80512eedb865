use Rattle.std.proofs.Common.{◌≡◌, ℕ, ◌≤◌, get_or, length, take}
use Rattle.std.specs.List.{fold}
use Rattle.measure.proofs.values.word_value.Given as goal

abbrev pub invariant-loop-letter : goal.invariant-loop-letter
invariant-loop-letter g l =
    let m = g.K.Measure in
    let k = l.kind in
    (l.letter-index ≤ length l.word)
    × (l.value ≡ fold (λ done (a : ℕ). m.joined k done (get_or l.table a (m.nothing k))) (m.nothing k) (take l.letter-index l.word))
