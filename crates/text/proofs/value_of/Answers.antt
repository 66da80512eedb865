use Rattle.std.proofs.Common.{ℕ, ◌^◌, ◌<◌, ◌≤◌, arith, lit<, rules}
use native.Mathlib.Nat.{pow-le-pow_right}
use Rattle.text.proofs.value_of.Goals as goal

small : (n i : ℕ) → n < 10 ^ i → i ≤ 15 → n < 1000000000000000
small n i lt le = omega (arith, pow-le-pow_right {n = 10} (lit< tt) {i = i} {j = 15} le)

pub overflow_mul-n : goal.overflow_mul-n
overflow_mul-n c = let few : c.loop-d.n < 1000000000000000 = small _ _ c.loop-d.invariant.1 (omega arith) in search rules

pub overflow_add-n : goal.overflow_add-n
overflow_add-n c = let few : c.loop-d.n < 1000000000000000 = small _ _ c.loop-d.invariant.1 (omega arith) in search rules
