-- What the names of letters and numbers lack, and that each shows what it names. Assumes nothing.
use Rattle.std.proofs.Common.{◌≡◌, ℕ, ◌+◌, ◌%◌, ◌^◌, ◌<◌, ◌≤◌, true, ltb, [], ◌∷◌, get_or, decimal, sym, refl, ap, ◌∙◌, ⊎_elim, arith}
use Rattle.std.proofs.lemmas.Bool.{cond_both, cond-true, cond-false, cases_lt, lt-ltb, le-ltb}
use Rattle.std.proofs.lemmas.Fmt.{decimal_by_steps, decimal_injective}
use Rattle.text.specs.Names.{letter_name}
use Rattle.text.specs.Pieces.{Bytes, free}
use Rattle.text.proofs.Cuts.{free_cons, free_append}

pub free_decimal : (b n : ℕ) → b < 48 → n < 2 ^ 64 → free b (decimal n) ≡ true
free_decimal b n low =
    decimal_by_steps (λ m ds. free b ds ≡ true)
    (λ m h. free_cons b (48 + m) [] (λ e. omega arith) refl)
    (λ m ds h ih. free_append b ds ((48 + m % 10) ∷ []) ih (free_cons b (48 + m % 10) [] (λ e. omega arith) refl))
    n

pub free_letter : (b a : ℕ) → b < 48 → (35 ≡ b → ⊥) → a < 2 ^ 64 → free b (letter_name a) ≡ true
free_letter b a low ne few =
    cond_both (ltb a 26) ((97 + a) ∷ []) (35 ∷ decimal a) (λ l. free b l ≡ true)
    (λ _. free_cons b (97 + a) [] (λ e. omega arith) refl)
    (λ _. free_cons b 35 (decimal a) ne (free_decimal b a low few))

pub letter_basic : (a : ℕ) → a < 26 → letter_name a ≡ (97 + a) ∷ []
letter_basic a h = cond-true (ltb a 26) ((97 + a) ∷ []) (35 ∷ decimal a) (lt-ltb a 26 h)

pub letter_made : (a : ℕ) → 26 ≤ a → letter_name a ≡ 35 ∷ decimal a
letter_made a h = cond-false (ltb a 26) ((97 + a) ∷ []) (35 ∷ decimal a) (le-ltb a 26 h)

-- a name that begins with # is that of a made letter
pub name_made : (ds : Bytes) (a : ℕ) → 35 ∷ ds ≡ letter_name a → (26 ≤ a) × (ds ≡ decimal a)
name_made ds a e =
    ⊎_elim
    (λ (low : a < 26). absurd (let heads : 35 ≡ 97 + a = ap (λ l. get_or l 0 0) (e ∙ letter_basic a low) in omega arith))
    (λ (high : 26 ≤ a). let both : 35 ∷ ds ≡ 35 ∷ decimal a = e ∙ letter_made a high in (high, cc))
    (cases_lt a 26)

-- one that does not is one of a to z
name_basic : (bs : Bytes) (a : ℕ) → bs ≡ letter_name a → (get_or bs 0 0 ≡ 35 → ⊥) → (a < 26) × (get_or bs 0 0 ≡ 97 + a)
name_basic bs a e other =
    ⊎_elim
    (λ (low : a < 26). (low, ap (λ l. get_or l 0 0) (e ∙ letter_basic a low)))
    (λ (high : 26 ≤ a). absurd (other (ap (λ l. get_or l 0 0) (e ∙ letter_made a high))))
    (cases_lt a 26)

pub same_letter : (a b : ℕ) → a < 2 ^ 64 → b < 2 ^ 64 → letter_name a ≡ letter_name b → a ≡ b
same_letter a b fa fb e =
    ⊎_elim
    (λ (low : a < 26).
    let other : get_or (letter_name a) 0 0 ≡ 35 → ⊥ = λ z. (let heads : 35 ≡ 97 + a = sym z ∙ ap (λ l. get_or l 0 0) (letter_basic a low) in omega arith) in
    let is : 97 + a ≡ 97 + b = ap (λ l. get_or l 0 0) (sym (letter_basic a low)) ∙ (name_basic (letter_name a) b e other).1 in
    omega arith)
    (λ (high : 26 ≤ a). decimal_injective a b fa fb (name_made (decimal a) b (sym (letter_made a high) ∙ e)).1)
    (cases_lt a 26)
