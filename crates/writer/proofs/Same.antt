-- Records of choices, told apart by a test; so what is so of them where some loads led is so. Assumes nothing.
use Rattle.std.proofs.Common.{◌≡◌, ℕ, zero, suc, Bool, true, false, ◌&&◌, eqb, List, [], ◌∷◌, length, take, drop, sym, refl, ap, ◌∙◌, ap₂, arith}
use mathlib.Core.Bool.{Bool-set}
use mathlib.Core.Logic.{∥∥₁_elim}
use Rattle.std.proofs.lemmas.Bool.{and_from, and_parts, eq-eqb, eqb-true, false≢true}
use Rattle.model.specs.Buffers.{Put}
use Rattle.systems.specs.declared.Choice.{Choice}
use Rattle.systems.specs.declared.Choice.TheVariants.{Left, Right, Erase, Pair, Block}
use Rattle.writing.specs.declared.ChoiceRecord.{ChoiceRecord}
use Rattle.writing.specs.Records.{choices_of, record_of, records_of}

-- a choice as its kind and two numbers, and back
abbrev kind : Choice → ℕ
kind (Left x a) = 0
kind (Right x a) = 1
kind (Erase x) = 2
kind (Pair a b) = 3
kind (Block a n) = 4

abbrev one : Choice → ℕ
one (Left x a) = x
one (Right x a) = x
one (Erase x) = x
one (Pair a b) = a
one (Block a n) = a

abbrev two : Choice → ℕ
two (Left x a) = a
two (Right x a) = a
two (Erase x) = 0
two (Pair a b) = b
two (Block a n) = n

abbrev choice_of : ℕ → ℕ → ℕ → Choice
choice_of zero x a = Left x a
choice_of (suc zero) x a = Right x a
choice_of (suc (suc zero)) x a = Erase x
choice_of (suc (suc (suc zero))) x a = Pair x a
choice_of (suc (suc (suc (suc k)))) x a = Block x a

back : (c : Choice) → choice_of (kind c) (one c) (two c) ≡ c
back (Left x a) = refl
back (Right x a) = refl
back (Erase x) = refl
back (Pair a b) = refl
back (Block a n) = refl

abbrev same_choice : Choice → Choice → Bool
same_choice c d = eqb (kind c) (kind d) && (eqb (one c) (one d) && eqb (two c) (two d))

abbrev same_list : List ChoiceRecord → List ChoiceRecord → Bool
same_list [] [] = true
same_list [] (d ∷ ds) = false
same_list (c ∷ cs) [] = false
same_list (c ∷ cs) (d ∷ ds) = same_choice c.choice d.choice && same_list cs ds

itself : (c : Choice) → same_choice c c ≡ true
itself c = and_from (eqb (kind c) (kind c)) _ (eq-eqb (kind c) (kind c) refl) (and_from (eqb (one c) (one c)) _ (eq-eqb (one c) (one c) refl) (eq-eqb (two c) (two c) refl))

list_itself : (cs : List ChoiceRecord) → same_list cs cs ≡ true
list_itself [] = refl
list_itself (c ∷ cs) = and_from (same_choice c.choice c.choice) (same_list cs cs) (itself c.choice) (list_itself cs)

means : (c d : Choice) → same_choice c d ≡ true → c ≡ d
means c d e =
    let p = and_parts (eqb (kind c) (kind d)) _ e in
    let q = and_parts (eqb (one c) (one d)) _ p.1 in
    sym (back c) ∙ ap (λ k. choice_of k (one c) (two c)) (eqb-true (kind c) (kind d) p.0) ∙ ap₂ (choice_of (kind d)) (eqb-true (one c) (one d) q.0) (eqb-true (two c) (two d) q.1) ∙ back d

list_means : (cs ds : List ChoiceRecord) → same_list cs ds ≡ true → cs ≡ ds
list_means [] [] e = refl
list_means [] (d ∷ ds) e = absurd (false≢true e)
list_means (c ∷ cs) [] e = absurd (false≢true e)
list_means (c ∷ cs) (d ∷ ds) e = let p = and_parts (same_choice c.choice d.choice) (same_list cs ds) e in ap₂ (λ x xs. x ∷ xs) (ap record_of (means c.choice d.choice p.0)) (list_means cs ds p.1)

-- the choices of records
pub choices_back : (cs : List Choice) → choices_of (records_of cs) ≡ cs
choices_back [] = refl
choices_back (c ∷ cs) = ap (λ ds. c ∷ ds) (choices_back cs)

module _ {P : Type 0} (some : ∥ P ∥₁) where
  known : (cs ds : List ChoiceRecord) → (P → cs ≡ ds) → cs ≡ ds
  known cs ds is = list_means cs ds (∥∥₁_elim some (Bool-set _ _) (λ p. ap (same_list cs) (sym (is p)) ∙ list_itself cs))

  -- what is put at the front of a list is known
  pub put_known : (old xs new : List ChoiceRecord) (n : ℕ) → (P → Put old 0 xs new n) → (n ≡ length xs) × (take n new ≡ xs) × (drop n new ≡ drop n old)
  put_known old xs new n put = (
    eqb-true n (length xs) (∥∥₁_elim some (Bool-set _ _) (λ p. eq-eqb n (length xs) (omega (arith, (put p).behind)))),
    known (take n new) xs (λ p. (put p).front),
    known (drop n new) (drop n old) (λ p. (put p).rest),
  )
