-- Numbers up to 1,000,000, and their laws. Assumes nothing.
-- The proofs stand here, since an impl of the trait and what its contracts read may cite nothing of the crate's own proofs/.
use Rattle.std.specs.Prelude.{◌≡◌, ℕ, ◌+◌, ◌≤◌, min}
use mathlib.Core.HLevel.{is_prop→PathP}
use Rattle.std.proofs.Math.Bridge.{le_prop}
use Rattle.std.proofs.Common.{arith}
use Rattle.std.proofs.Math.Nat.{min-le_right}
use Rattle.systems.specs.Values.{Associative, Neutral}
use Rattle.length.specs.declared.value.Capped.{Capped}

-- the count decides
pub capped-≡ : (a b : Capped) → a.count ≡ b.count → a ≡ b
capped-≡ a b e = λ i. record { count = e i; ok = is_prop→PathP (λ j. e j ≤ 1000000) (λ j. le_prop) a.ok b.ok i }

abbrev pub capped : ℕ → Capped
capped n = record { count = min n 1000000; ok = min-le_right n 1000000 }

-- so many letters and then so many
abbrev pub longer : Capped → Capped → Capped
longer a b = capped (a.count + b.count)

pub longer_associative : Associative longer
longer_associative = record { associates = λ x y z. capped-≡ _ _ (omega arith) }

pub longer_neutral : Neutral (capped 0) longer
longer_neutral = record {
  left = λ x. let h : x.count ≤ 1000000 = x.ok in capped-≡ _ _ (omega arith);
  right = λ x. let h : x.count ≤ 1000000 = x.ok in capped-≡ _ _ (omega arith);
}
