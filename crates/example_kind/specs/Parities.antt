-- Even and odd, and their laws. Assumes nothing.
use Rattle.std.specs.Prelude.{◌≡◌, Bool, true, false, refl}
use Rattle.systems.specs.Values.{Associative, Neutral}
use Rattle.example_kind.specs.declared.parity.Parity.{Parity}
use Rattle.example_kind.specs.declared.parity.Parity.TheVariants.{Even, Odd}

-- so many and then so many more
abbrev pub both_parities : Parity → Parity → Parity
both_parities Even y = y
both_parities Odd Even = Odd
both_parities Odd Odd = Even

abbrev pub is_even : Parity → Bool
is_even Even = true
is_even Odd = false

associates : (x y z : Parity) → both_parities (both_parities x y) z ≡ both_parities x (both_parities y z)
associates Even y z = refl
associates Odd Even z = refl
associates Odd Odd Even = refl
associates Odd Odd Odd = refl

pub both_associative : Associative both_parities
both_associative = record { associates = associates }

right : (x : Parity) → both_parities x Even ≡ x
right Even = refl
right Odd = refl

pub both_neutral : Neutral Even both_parities
both_neutral = record { left = λ x. refl; right = right }
