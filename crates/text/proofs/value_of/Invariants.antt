use Rattle.std.proofs.Common.{◌≡◌, ℕ, ◌^◌, ◌<◌, ◌≤◌, get_or, drop}
use Rattle.text.specs.Digits.{value_on}
use Rattle.text.proofs.value_of.Given as goal

abbrev pub invariant-loop-d : goal.invariant-loop-d
invariant-loop-d l =
    (value_on l.n (drop l.d-index l.digits) ≡ value_on 0 l.digits)
    × (l.n < 10 ^ l.d-index)
    × ((k : ℕ) → k < l.d-index → (48 ≤ get_or l.digits k 0) × (get_or l.digits k 0 ≤ 57))
