-- What a caller gives to the writer is refused or taken rightly. Assumes nothing.
use Rattle.std.proofs.Common.{◌≡◌, ℕ, ◌+◌, ◌-◌, ◌≤◌, Bool, true, false, cond, not, ◌&&◌, eqb, ltb, leb, ◌⊎◌, List, [], ◌∷◌, map, length, Some, None, Option, sym, refl, ap, ◌∙◌, subst, ap₂, inl, inr, arith}
use Rattle.std.specs.List.{AllByRecursion}
use Rattle.std.specs.Option.{option_map, option_or}
use Rattle.std.proofs.lemmas.Bool.{cond-true, cond-false, and_parts, and_cases, and_from, cases_Bool, both_ways, eqb-true, eq-eqb, false≢true, ltb-false, leb-true, le-ltb, le-leb, not_from_true, not-false, and_left, and_right}
use Rattle.model.specs.Spelling.{Word}
use Rattle.systems.specs.Runs.{Load, opened, loaded}
use Rattle.systems.specs.Sides.{Side, Equation, sides, Words, fill, Solves, Below, Solution}
use Rattle.systems.specs.Standings.{Standing, live}
use Rattle.systems.proofs.Allowing.{not_refused}
use Rattle.systems.proofs.Forming.{opened_formed}
use Rattle.systems.proofs.Living.{fill_same}
use Rattle.writing.specs.declared.Span.{Span}
use Rattle.writing.specs.declared.WriteRefusal.{WriteRefusal}
use Rattle.writing.specs.declared.WriteRefusal.TheVariants.{ShortList, NoWord, TooManyLetters, NoSolution}
use Rattle.writing.specs.Counts.{side_letters}
use Rattle.writing.specs.Refusals.{span_of, bytes_at, a_to_z, is_word, given, same_word, solved, write_refusal}
use Rattle.writing.specs.Theorems.{start, StandInBuffer, RefusedRightly, WriterRefusesRightly}
use Rattle.writing.specs.Writer.{first, letters, variables}
use Rattle.writing.proofs.Falls.{in_variables}
use Rattle.writing.proofs.First.{none_found}
use Rattle.writing.proofs.Limited.{live_low, passed}
use Rattle.writing.proofs.Lists.{first_none}

-- bytes and letters

bytes_small : (w : Word) → Below 26 w → a_to_z (map (λ l. 97 + l) w) ≡ true
bytes_small [] h = refl
bytes_small (l ∷ w) h =
    and_from (leb 97 (97 + l) && leb (97 + l) 122) (a_to_z (map (λ l. 97 + l) w))
    (and_from (leb 97 (97 + l)) (leb (97 + l) 122) (le-leb 97 (97 + l) (omega arith)) (le-leb (97 + l) 122 (omega (arith, h.0))))
    (bytes_small w h.1)

letters_back : (w : Word) → map (λ b. b - 97) (map (λ l. 97 + l) w) ≡ w
letters_back [] = refl
letters_back (l ∷ w) = let same : (97 + l) - 97 ≡ l = omega arith in ap₂ (λ u v. u ∷ v) same (letters_back w)

letters_below : (bytes : List ℕ) → a_to_z bytes ≡ true → Below 26 (map (λ b. b - 97) bytes)
letters_below [] e = tt
letters_below (b ∷ bytes) e =
    let parts = and_parts (leb 97 b && leb b 122) (a_to_z bytes) e in
    let range = and_parts (leb 97 b) (leb b 122) parts.0 in
    (omega (arith, leb-true 97 b range.0, leb-true b 122 range.1), letters_below bytes parts.1)

-- the same words

same_itself : (w : Word) → same_word w w ≡ true
same_itself [] = refl
same_itself (a ∷ w) = and_from (eqb a a) (same_word w w) (eq-eqb a a refl) (same_itself w)

same_means : (u v : Word) → same_word u v ≡ true → u ≡ v
same_means [] [] e = refl
same_means [] (b ∷ v) e = absurd (false≢true e)
same_means (a ∷ u) [] e = absurd (false≢true e)
same_means (a ∷ u) (b ∷ v) e = let parts = and_parts (eqb a b) (same_word u v) e in ap₂ (λ l w. l ∷ w) (eqb-true a b parts.0) (same_means u v parts.1)

pub is_solved : (τ : Words) (E : List Equation) → Solves τ E → solved τ E ≡ true
is_solved τ [] h = refl
is_solved τ (e ∷ E) h = and_from (same_word (fill τ e.0) (fill τ e.1)) (solved τ E) (ap (same_word (fill τ e.0)) (sym h.0) ∙ same_itself (fill τ e.0)) (is_solved τ E h.1)

pub solved_means : (τ : Words) (E : List Equation) → solved τ E ≡ true → Solves τ E
solved_means τ [] e = tt
solved_means τ (eq ∷ E) e = let parts = and_parts (same_word (fill τ eq.0) (fill τ eq.1)) (solved τ E) e in (same_means (fill τ eq.0) (fill τ eq.1) parts.0, solved_means τ E parts.1)

-- words that fill the sides alike solve alike, and fill in as many letters
pub solves_alike : (τ τ' : Words) (E : List Equation) → AllByRecursion (λ s. fill τ s ≡ fill τ' s) (sides E) → Solves τ E → Solves τ' E
solves_alike τ τ' [] same h = tt
solves_alike τ τ' (e ∷ E) same h = (sym same.0 ∙ h.0 ∙ same.1.0, solves_alike τ τ' E same.1.1 h.1)

letters_alike : (τ τ' : Words) (ss : List Side) → AllByRecursion (λ s. fill τ s ≡ fill τ' s) ss → letters (map (fill τ) ss) ≡ letters (map (fill τ') ss)
letters_alike τ τ' [] same = refl
letters_alike τ τ' (s ∷ ss) same = ap₂ (λ m n. m + n) (ap length same.0) (letters_alike τ τ' ss same.1)

-- no word is the reason, and no later reason
or_none : (o : Option ℕ) (r : Option WriteRefusal) → option_or (option_map NoWord o) r ≡ None → (o ≡ None) × (r ≡ None)
or_none None r e = (refl, e)
or_none (Some x) r e = absurd (let z : ◌≡◌ {A = ℕ} 0 1 = cc in omega arith)

module _ (loads : List Load) (buffer : List ℕ) (spans : List Span) (room : ℕ) where
  abbrev S : Standing
  S = opened loads

  abbrev σ₀ : Words
  σ₀ = given S buffer spans

  abbrev bad : ℕ → Bool
  bad x = live S x && not (is_word buffer (span_of spans x))

  -- the reasons that come after the words
  abbrev later : Option WriteRefusal
  later = cond (ltb 512 (side_letters (start loads σ₀))) (Some TooManyLetters) (cond (not (solved σ₀ (loaded loads))) (Some NoSolution) None)

  given_is : (x : ℕ) → live S x ≡ true → σ₀ x ≡ map (λ b. b - 97) (bytes_at buffer (span_of spans x))
  given_is x of = cond-true (live S x) (map (λ b. b - 97) (bytes_at buffer (span_of spans x))) [] of

  given_same : (σ : Words) → StandInBuffer loads σ buffer spans → (x : ℕ) → live S x ≡ true → σ₀ x ≡ σ x
  given_same σ stand x of = given_is x of ∙ ap (map (λ b. b - 97)) (stand.bytes x of) ∙ letters_back (σ x)

  not_bad : (σ : Words) → Solution σ (loaded loads) → StandInBuffer loads σ buffer spans → (x : ℕ) → bad x ≡ false
  not_bad σ solution stand x = split (cases_Bool (live S x))
    where
      split : (live S x ≡ true) ⊎ (live S x ≡ false) → bad x ≡ false
      split (inl of) =
          and_right (live S x) (not (is_word buffer (span_of spans x))) (not_from_true (is_word buffer (span_of spans x))
          (and_from (leb ((span_of spans x).start + (span_of spans x).length) (length buffer)) (a_to_z (bytes_at buffer (span_of spans x)))
          (le-leb ((span_of spans x).start + (span_of spans x).length) (length buffer) (stand.inside x of))
          (ap a_to_z (stand.bytes x of) ∙ bytes_small (σ x) (solution.a_to_z x))))
      split (inr other) = and_left (live S x) (not (is_word buffer (span_of spans x))) other

  taken_rightly : (σ : Words) → Solution σ (loaded loads) → StandInBuffer loads σ buffer spans → side_letters (start loads σ) ≤ 512 → 1050 ≤ room → write_refusal S buffer spans room ≡ None
  taken_rightly σ solution stand few enough =
      let alike : AllByRecursion (λ s. fill σ s ≡ fill σ₀ s) (sides (loaded loads)) = fill_same σ σ₀ (loaded loads) (λ x of. sym (given_same σ stand x of)) in
      let same : side_letters (start loads σ) ≡ side_letters (start loads σ₀) = letters_alike σ σ₀ (sides (loaded loads)) alike in
      passed (ltb room 1050) _ _ (le-ltb room 1050 enough)
      (ap (λ o. option_or (option_map NoWord o) later) (none_found bad (λ x _. not_bad σ solution stand x)) ∙
      (passed (ltb 512 (side_letters (start loads σ₀))) _ _ (le-ltb 512 (side_letters (start loads σ₀)) (omega arith))
      (passed (not (solved σ₀ (loaded loads))) _ _ (not_from_true (solved σ₀ (loaded loads)) (is_solved σ₀ (loaded loads) (solves_alike σ σ₀ (loaded loads) alike solution.solves))) refl)))

  record Meant : Type 0 where
    pub enough : 1050 ≤ room
    pub words : first bad variables ≡ None
    pub few : side_letters (start loads σ₀) ≤ 512
    pub solves : solved σ₀ (loaded loads) ≡ true

  meant : write_refusal S buffer spans room ≡ None → Meant
  meant none =
      let p = not_refused (ltb room 1050) ShortList _ none in
      let q = or_none (first bad variables) _ p.1 in
      let r = not_refused (ltb 512 (side_letters (start loads σ₀))) TooManyLetters _ q.1 in
      let s = not_refused (not (solved σ₀ (loaded loads))) NoSolution None r.1 in
      record { enough = ltb-false room 1050 p.0; words = q.0; few = ltb-false 512 (side_letters (start loads σ₀)) r.0; solves = not-false (solved σ₀ (loaded loads)) s.0 }

  given_small : first bad variables ≡ None → (x : ℕ) → (live S x ≡ true) ⊎ (live S x ≡ false) → Below 26 (σ₀ x)
  given_small good x (inl of) = subst (Below 26) (sym (given_is x of)) (letters_below (bytes_at buffer (span_of spans x)) (split (and_cases (live S x) (not (is_word buffer (span_of spans x))) (first_none bad variables good x (in_variables x (live_low S (opened_formed loads) x of))))))
    where
      split : (live S x ≡ false) ⊎ (not (is_word buffer (span_of spans x)) ≡ false) → a_to_z (bytes_at buffer (span_of spans x)) ≡ true
      split (inl other) = absurd (both_ways (live S x) other of)
      split (inr e) = (and_parts (leb ((span_of spans x).start + (span_of spans x).length) (length buffer)) (a_to_z (bytes_at buffer (span_of spans x))) (not-false (is_word buffer (span_of spans x)) e)).1
  given_small good x (inr other) = subst (Below 26) (sym (cond-false (live S x) (map (λ b. b - 97) (bytes_at buffer (span_of spans x))) [] other)) tt

  refused_rightly : RefusedRightly loads buffer spans room
  refused_rightly = record {
    no_solution_refused = taken_rightly;
    that_is_given = given_same;
    room_enough = λ none. (meant none).enough;
    a_solution = λ none. record { solves = solved_means σ₀ (loaded loads) (meant none).solves; a_to_z = λ x. given_small (meant none).words x (cases_Bool (live S x)) };
    few_letters = λ none. (meant none).few;
  }

pub writer_refuses_rightly : WriterRefusesRightly
writer_refuses_rightly loads buffer spans room = refused_rightly loads buffer spans room
