-- What the two laws give of rows of joins. Assumes nothing.
use Rattle.std.proofs.Common.{◌≡◌, ℕ, zero, suc, ◌+◌, ◌/◌, ◌%◌, ◌<◌, [], ◌∷◌, sym, refl, ap, ◌∙◌, arith}
use Rattle.std.specs.List.{fold}
use Rattle.model.specs.Spelling.{Word}
use Rattle.systems.specs.Values.{Associative, Neutral, word_value, times}

module _ {V : Type 0} {empty : V} {join : V → V → V} (assoc : Associative join) (neutral : Neutral empty join) where
  -- a word whose letters are joined one after another
  pub value_fold : (letter : ℕ → V) (v : V) (w : Word) → fold (λ done a. join done (letter a)) v w ≡ join v (word_value letter empty join w)
  value_fold letter v [] = sym (neutral.right v)
  value_fold letter v (a ∷ w) = value_fold letter (join v (letter a)) w ∙ assoc.associates v (letter a) (word_value letter empty join w)

  -- twice as many joins of a value are as many of its square
  times_square : (n : ℕ) (v : V) → times empty join (n + n) v ≡ times empty join n (join v v)
  times_square zero v = refl
  times_square (suc n) v =
      let e : suc n + suc n ≡ suc (suc (n + n)) = omega arith in
      ap (λ k. times empty join k v) e ∙ ap (λ x. join v (join v x)) (times_square n v) ∙ sym (assoc.associates v v (times empty join n (join v v)))

  -- repeated squaring: a turn at an even and at an odd count
  pub power_even : (done v same square all : V) (n : ℕ) → same ≡ done → square ≡ join v v → n % 2 < 1 → join done (times empty join n v) ≡ all → join same (times empty join (n / 2) square) ≡ all
  power_even done v same square all n kept sq even e =
      let twice : n ≡ n / 2 + n / 2 = omega arith in
      ap (λ x. join x (times empty join (n / 2) square)) kept ∙ ap (λ x. join done (times empty join (n / 2) x)) sq ∙ ap (join done) (sym (ap (λ k. times empty join k v) twice ∙ times_square (n / 2) v)) ∙ e

  pub power_odd : (done v more square all : V) (n : ℕ) → more ≡ join done v → square ≡ join v v → n % 2 ≡ 1 → join done (times empty join n v) ≡ all → join more (times empty join (n / 2) square) ≡ all
  power_odd done v more square all n one sq odd e =
      let twice : n ≡ suc (n / 2 + n / 2) = omega arith in
      ap (λ x. join x (times empty join (n / 2) square)) one ∙ ap (λ x. join (join done v) (times empty join (n / 2) x)) sq ∙ assoc.associates done v _
      ∙ ap (join done) (sym (ap (λ k. times empty join k v) twice ∙ ap (join v) (times_square (n / 2) v))) ∙ e
