-- Digits that are the decimal of the number that they write. Assumes nothing.
use Rattle.std.proofs.Common.{◌≡◌, ℕ, ◌^◌, ◌<◌, ◌≤◌, length, get_or, Some, None, decimal, Option, sym, ap, ◌∙◌, subst, ⊎_elim, arith, lit<, rules, MatchOption}
use Rattle.std.specs.Int.{IsInRange}
use Rattle.std.proofs.lemmas.Bool.{cases_lt}
use Rattle.std.proofs.lemmas.Str.Parse.{IsNumeralModel, numerals_by_fold, tells_by_index, digits_value_short}
use Rattle.std.proofs.lemmas.Fmt.{decimal_digit, decimal_nonempty, decimal-digits_value, digits_decimal, length-decimal-le, first_decimal}
use Rattle.text.specs.Digits.{Shaped, value_on}
use Rattle.text.specs.Reading.{Below, Reads}
use Rattle.text.specs.Pieces.{Bytes}

own : IsNumeralModel (λ ds. (i : ℕ) → i < length ds → IsInRange 48 57 (get_or ds i 0)) (value_on 0)
own = numerals_by_fold _ tells_by_index value_on (search rules)

one_digit : (n : ℕ) → n < 10 → length (decimal n) ≤ 1
one_digit n h = omega (arith, ap length (decimal_digit n h))

lead_decimal : (n : ℕ) → n < 10 ^ 16 → get_or (decimal n) 0 0 ≡ 48 → length (decimal n) ≤ 1
lead_decimal n h e =
    ⊎_elim
    (λ (small : n < 1). one_digit n (omega arith))
    (λ (large : 1 ≤ n). absurd (let f : 48 < get_or (decimal n) 0 0 = first_decimal n (omega arith) (omega arith) in omega arith))
    (cases_lt n 1)

shaped_decimal : (n : ℕ) → n < 10 ^ 16 → Shaped (decimal n)
shaped_decimal n h =
    let fits : n < 2 ^ 64 = omega arith in
    record { short = length-decimal-le 16 n (lit< tt) h fits; lead = lead_decimal n h; digit = digits_decimal own n fits }

-- a decimal begins with a digit
pub digit_first : (bs : Bytes) (n : ℕ) → n < 10 ^ 16 → bs ≡ decimal n → IsInRange 48 57 (get_or bs 0 0)
digit_first bs n h e =
    let fits : n < 2 ^ 64 = omega arith in
    subst (λ ds. IsInRange 48 57 (get_or ds 0 0)) (sym e) (digits_decimal own n fits 0 (decimal_nonempty n fits))

pub exact_number : (ds : Bytes) (r : Option ℕ) → 0 < length ds → MatchOption r (Shaped ds → ⊥) (λ n. Shaped ds × (n ≡ value_on 0 ds)) → Reads (Below (10 ^ 16)) decimal ds r
exact_number ds None some h = λ n lt e. h (subst Shaped (sym e) (shaped_decimal n lt))
exact_number ds (Some n) some h =
    let s = h.0 in
    let short : value_on 0 ds < 10 ^ 16 = digits_value_short own ds 16 s.digit s.short in
    let lead : get_or ds 0 0 ≡ 48 → length ds ≡ 1 = λ z. (let one : length ds ≤ 1 = s.lead z in omega arith) in
    let is : decimal (value_on 0 ds) ≡ ds = decimal-digits_value own ds s.digit some lead (omega arith) in
    (omega (arith, h.1), sym is ∙ ap decimal (sym h.1))
