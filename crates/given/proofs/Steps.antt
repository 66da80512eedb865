-- One word more is filled in, or there are too many letters. Assumes nothing.
use Rattle.std.proofs.Common.{◌≡◌, ℕ, ◌+◌, ◌-◌, ◌<◌, ◌≤◌, true, false, cond, ◌&&◌, ltb, ◌⊎◌, List, [], map, length, Some, None, Option, get_or, sym, ap, ◌∙◌, inl, inr, arith, get_or-set_same, get_or-set_other}
use Rattle.std.proofs.Math.ListN.{set}
use Rattle.std.proofs.lemmas.Bool.{cond-true, cond-false, and_from, and_right, cases_Bool, cases_eq, lt-ltb, le-ltb}
use Rattle.std.proofs.lemmas.List.{length-map}
use Rattle.model.specs.Spelling.{Word}
use Rattle.systems.specs.declared.Place.TheVariants.{Letter}
use Rattle.systems.specs.Choices.{swap}
use Rattle.systems.specs.Sides.{Equation, Words, on_sides, places, stands_in}
use Rattle.sides.specs.Holding.{only}
use Rattle.writing.specs.declared.Span.{Span}
use Rattle.writing.specs.Counts.{side_letters}
use Rattle.writing.specs.Refusals.{span_of, bytes_at, given}
use Rattle.writing.specs.Writer.{beside}
use Rattle.writing.proofs.Given.{below_other, few_filled, filled_below, one_filled, one_word, passed_test}

module _ (E : List Equation) (buffer : List ℕ) (spans : List Span) where
  abbrev τ : Words
  τ = given (only E) buffer spans

  -- the words of the variables below k
  abbrev pub WordsBelow : ℕ → List (Option Word) → Type 0
  WordsBelow k words = (y : ℕ) → y < 26 → get_or words y None ≡ cond (stands_in E y && ltb y k) (Some (τ y)) None

  pub none_read : (words : List (Option Word)) → ((y : ℕ) → y < 26 → get_or words y None ≡ None) → WordsBelow 0 words
  none_read words none y lt = none y lt ∙ sym (cond-false (stands_in E y && ltb y 0) (Some (τ y)) None (and_right (stands_in E y) (ltb y 0) (le-ltb y 0 (omega arith))))

  pub all_read : (k : ℕ) (words : List (Option Word)) → 26 ≤ k → WordsBelow k words → (y : ℕ) → y < 26 → get_or words y None ≡ cond (stands_in E y) (Some (τ y)) None
  all_read k words le h y lt = h y lt ∙ ap (λ b. cond b (Some (τ y)) None) (split (cases_Bool (stands_in E y)))
    where
      split : (stands_in E y ≡ true) ⊎ (stands_in E y ≡ false) → (stands_in E y && ltb y k) ≡ stands_in E y
      split (inl e) = and_from (stands_in E y) (ltb y k) e (lt-ltb y k (omega arith)) ∙ sym e
      split (inr e) = ap (λ b. b && ltb y k) e ∙ sym e

  -- x stands in no side
  module _ (x : ℕ) (gone : stands_in E x ≡ false) where
    pub words_passed : (words : List (Option Word)) → WordsBelow x words → WordsBelow (x + 1) words
    words_passed words h y lt = h y lt ∙ ap (λ b. cond b (Some (τ y)) None) (passed_test τ E x gone y)

  -- x stands in a side, and its bytes are read
  module _ (x : ℕ) (alive : stands_in E x ≡ true) (bytes : List ℕ) (there : bytes ≡ bytes_at buffer (span_of spans x)) where
    abbrev word : Word
    word = map (λ b. b - 97) bytes

    word_is : word ≡ τ x
    word_is = ap (map (λ b. b - 97)) there ∙ sym (cond-true (stands_in E x) (map (λ b. b - 97) (bytes_at buffer (span_of spans x))) [] alive)

    pub words_read : (words : List (Option Word)) → length words ≡ 26 → x < 26 → WordsBelow x words → WordsBelow (x + 1) (set words x (Some word))
    words_read words long small h y lt = split (cases_eq y x)
      where
        split : (y ≡ x) ⊎ (y ≡ x → ⊥) → get_or (set words x (Some word)) y None ≡ cond (stands_in E y && ltb y (x + 1)) (Some (τ y)) None
        split (inl e) =
            let room : x < length words = omega arith in
            ap (λ z. get_or (set words x (Some word)) z None) e ∙ get_or-set_same words x (Some word) None room ∙ ap Some (word_is ∙ ap τ (sym e)) ∙
            sym (cond-true (stands_in E y && ltb y (x + 1)) (Some (τ y)) None (and_from (stands_in E y) (ltb y (x + 1)) (ap (stands_in E) e ∙ alive) (lt-ltb y (x + 1) (omega arith))))
        split (inr other) = get_or-set_other words x y (Some word) None other ∙ h y lt ∙ ap (λ b. cond (stands_in E y && b) (Some (τ y)) None) (below_other y x other)

    -- the sides before x is filled in
    module _ (F : List Equation) (before : F ≡ on_sides (filled_below τ E x) E) where
      next : on_sides (swap x (map Letter word)) F ≡ on_sides (filled_below τ E (x + 1)) E
      next = ap (λ w. on_sides (swap x (map Letter w)) F) word_is ∙ ap (on_sides (swap x (map Letter (τ x)))) before ∙ one_filled τ E x alive

      pub side_filled : (G : List Equation) → G ≡ on_sides (swap x (map Letter word)) F → G ≡ on_sides (filled_below τ E (x + 1)) E
      side_filled G is = is ∙ next

      pub over : places E ≤ 1024 → (512 < length bytes) ⊎ (2048 < places (on_sides (swap x (map Letter word)) F)) → 512 < side_letters (beside (only E) τ)
      over few (inl long) = omega (arith, one_word τ E x alive, ap length word_is, length-map bytes (λ b. b - 97))
      over few (inr many) = omega (arith, ap places next, few_filled τ E (x + 1) E)
