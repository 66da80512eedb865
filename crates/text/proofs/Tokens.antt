-- A field that is a decimal is a number's token. Assumes nothing.
use Rattle.std.proofs.Common.{◌≡◌, ℕ, ◌^◌, ◌<◌, get_or, decimal, refl, ap, arith}
use Rattle.std.specs.Int.{IsInRange}
use Rattle.text.specs.declared.part.Part.{Part}
use Rattle.text.specs.declared.part.Token.{Token}
use Rattle.text.specs.declared.part.Token.TheVariants.{Word, Number, LetterName}
use Rattle.text.specs.Tokens.{Holds}
use Rattle.text.proofs.Numbers.{digit_first}

pub other_token : (t : Token) (field : Part) → Holds t field → ((part : _) → t ≡ Number part → ⊥) → (n : ℕ) → n < 10 ^ 16 → field.bytes.now ≡ decimal n → ⊥
other_token (Number part) field h none n lt e = none part refl
other_token (Word part) field h none n lt e = h.3 (digit_first field.bytes.now n lt e)
other_token (LetterName part) field h none n lt e =
    let d = digit_first field.bytes.now n lt e in
    let mark : 35 ≡ get_or field.bytes.now 0 0 = ap (λ l. get_or l 0 0) h.0 in
    omega arith
