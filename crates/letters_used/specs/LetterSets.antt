-- Sets of letters as bits, and the laws of their union. Assumes nothing.
-- The proofs stand here, since an impl of the trait and what its contracts read may cite nothing of the crate's own proofs/.
use Rattle.std.specs.Prelude.{◌≡◌, ℕ, ◌^◌, ◌<◌, min, Bool, ◌&&◌, ◌==◌, bit_and, bit_or}
use Rattle.std.proofs.Common.{arith}
use mathlib.Core.HLevel.{is_prop→PathP}
use Rattle.std.proofs.Math.Bridge.{le_prop}
use Rattle.std.specs.Int.Bits.{or_zero_l, or_zero_r}
use Rattle.std.proofs.lemmas.Nat.{or_lt}
use Rattle.std.proofs.lemmas.Nat.Bits.{bit_at_or, same_from_bits}
use Rattle.std.proofs.Math.Pow.{pow-lt}
use Rattle.systems.specs.Values.{Associative, Neutral}
use Rattle.letters_used.specs.declared.value.LetterSet.{LetterSet}

-- the bits decide
pub set-≡ : (a b : LetterSet) → a.bits ≡ b.bits → a ≡ b
set-≡ a b e = λ i. record { bits = e i; ok = is_prop→PathP (λ j. e j < 2 ^ 26) (λ j. le_prop) a.ok b.ok i }

abbrev pub none : LetterSet
none = record { bits = 0; ok = omega arith }

-- the set of one letter
abbrev pub only : ℕ → LetterSet
only a = record { bits = 2 ^ min a 25; ok = (let p : min a 25 < 26 = omega arith in pow-lt p) }

abbrev pub union : LetterSet → LetterSet → LetterSet
union a b = record { bits = bit_or a.bits b.bits; ok = or_lt 26 a.bits b.bits a.ok b.ok }

-- nothing of the small set is outside of the big one
abbrev pub covers : ℕ → ℕ → Bool
covers big small = bit_and big small == small

-- x covers what is required, and what is allowed covers x
abbrev pub between : ℕ → ℕ → ℕ → Bool
between required allowed x = covers x required && covers allowed x

or_associates : (a b c : ℕ) → bit_or (bit_or a b) c ≡ bit_or a (bit_or b c)
or_associates a b c =
    same_from_bits (bit_or (bit_or a b) c) (bit_or a (bit_or b c)) (λ i.
    let left = bit_at_or (bit_or a b) c i in
    let right = bit_at_or a (bit_or b c) i in
    let first = bit_at_or a b i in
    let last = bit_at_or b c i in
    omega arith)

pub union_associative : Associative union
union_associative = record { associates = λ x y z. set-≡ _ _ (or_associates x.bits y.bits z.bits) }

pub union_neutral : Neutral none union
union_neutral = record { left = λ x. set-≡ _ _ (or_zero_l x.bits); right = λ x. set-≡ _ _ (or_zero_r x.bits) }
