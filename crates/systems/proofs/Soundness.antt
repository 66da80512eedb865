-- Each side of what stands means what the loaded side means, with the whole words. Assumes nothing.
use Rattle.std.proofs.Common.{◌≡◌, ℕ, true, false, cond, eqb, List, [], ◌∷◌, ◌++◌, map, sym, refl, ap, ◌∙◌, subst, ap₂, append-nil, arith}
use mathlib.Core.Path.{fun_ext}
use Rattle.std.specs.List.{flat_map, AllByRecursion}
use Rattle.std.proofs.ByRecursion.{All-weaker}
use Rattle.std.proofs.lemmas.Bool.{both_ways, eqb-true, eq-eqb, cond-true, cond-false, cond_both}
use Rattle.model.specs.declared.Rule.TheVariants.{Pair as PairRule, Block as BlockRule}
use Rattle.model.specs.Spelling.{Word, spell, spell_word}
use Rattle.model.proofs.Spelling.{spell_older}
use Rattle.model.proofs.Fitting.{block_lower}
use Rattle.systems.specs.declared.Place.{Place}
use Rattle.systems.specs.declared.Place.TheVariants.{Letter, Variable}
use Rattle.systems.specs.declared.Choice.{Choice}
use Rattle.systems.specs.declared.Choice.TheVariants.{Left, Right, Erase, Pair, Block}
use Rattle.systems.specs.Choices.{effect, taken}
use Rattle.systems.specs.Invariants.{KnownPlace, WellFormed}
use Rattle.systems.specs.Refusals.{choice_refusal}
use Rattle.systems.specs.Runs.{Load, loaded, OfSystem, Reaches, opening, choosing}
use Rattle.systems.specs.Sides.{Side, Equation, sides, Words, filled, fill, Solves, SameSides}
use Rattle.systems.specs.Standings.{Standing, fresh, live, around, whole}
use Rattle.systems.specs.Theorems.{NothingLeft, Sound, SoundAtEnd}
use Rattle.systems.proofs.Allowing.{unless_refused, Allowed, allowed}
use Rattle.systems.proofs.Forming.{bare, opened_bare, runs_are_well_formed}
use Rattle.systems.proofs.Living.{map_sides, fill_same, erased_gone, gone_taken}
use Rattle.systems.proofs.Meaning.{meaning, swap_means, pair_means, block_means}
use Rattle.systems.proofs.Rows.{joined_same, all_each, joined_joined}
use Rattle.systems.proofs.Whole.{assembled, left_assembled, right_assembled, whole_assembled, rules_assembled, popped_a_to_z}

abbrev mean : Standing → Words → Side → Word
mean S ψ = flat_map (meaning (spell S.rules) ψ)

abbrev DeadEmpty : Standing → Words → Type 0
DeadEmpty S ψ = (x : ℕ) → live S x ≡ false → ψ x ≡ []

abbrev Means : List Equation → Standing → Type 0
Means E S = (ψ : Words) → DeadEmpty S ψ → map (mean S ψ) (sides S.equations) ≡ map (fill (assembled S ψ)) (sides E)

carry : (E : List Equation) (S : Standing) (choice : Choice) (ψ ψ' : Words) → Means E S → DeadEmpty S ψ → AllByRecursion (λ s. mean (taken S choice) ψ' (effect choice (fresh S) s) ≡ mean S ψ s) (sides S.equations) → ((y : ℕ) → assembled (taken S choice) ψ' y ≡ assembled S ψ y) → map (mean (taken S choice) ψ') (sides (taken S choice).equations) ≡ map (fill (assembled (taken S choice) ψ')) (sides E)
carry E S choice ψ ψ' means dead same words =
    map_sides (mean (taken S choice) ψ') (mean S ψ) (effect choice (fresh S)) S.equations same ∙ means ψ dead ∙
    ap (λ (w : Words). map (fill w) (sides E)) (sym (fun_ext words))

module _ (S : Standing) (x : ℕ) (is_live : live S x ≡ true) (other : Word → Word) (ψ' : Words) where
  abbrev changed : Words
  changed y = cond (eqb x y) (other (ψ' y)) (ψ' y)

  changed_here : changed x ≡ other (ψ' x)
  changed_here = cond-true (eqb x x) (other (ψ' x)) (ψ' x) (eq-eqb x x refl)

  changed_there : (y : ℕ) → eqb x y ≡ false → changed y ≡ ψ' y
  changed_there y e = cond-false (eqb x y) (other (ψ' y)) (ψ' y) e

  changed_dead : (choice : Choice) → DeadEmpty (taken S choice) ψ' → DeadEmpty S changed
  changed_dead choice dead y gone =
      cond_both (eqb x y) (other (ψ' y)) (ψ' y) (λ w. w ≡ [])
      (λ e. absurd (both_ways (live S y) gone (subst (λ z. live S z ≡ true) (eqb-true x y e) is_live)))
      (λ _. dead y (gone_taken S choice y gone))

means_taken : (E : List Equation) (S : Standing) (choice : Choice) → Allowed S choice → WellFormed S → Means E S → Means E (taken S choice)
means_taken E S (Left x a) ok formed means ψ' dead =
    let first : Word → Word = λ w. spell S.rules a ++ w in
    let ψ : Words = changed S x ok.alive first ψ' in
    let here : ψ x ≡ spell S.rules a ++ ψ' x = changed_here S x ok.alive first ψ' in
    carry E S (Left x a) ψ ψ' means (changed_dead S x ok.alive first ψ' (Left x a) dead)
    (all_each (λ s. mean (taken S (Left x a)) ψ' (effect (Left x a) (fresh S) s) ≡ mean S ψ s)
    (swap_means (meaning (spell S.rules) ψ) (meaning (spell S.rules) ψ') x (Letter a ∷ Variable x ∷ []) (λ _. refl) (λ y e. sym (changed_there S x ok.alive first ψ' y e))
    (ap (λ r. spell S.rules a ++ r) (append-nil (ψ' x)) ∙ sym here))
    (sides S.equations))
    (left_assembled S x a ψ ψ' here (changed_there S x ok.alive first ψ'))
means_taken E S (Right x a) ok formed means ψ' dead =
    let last : Word → Word = λ w. w ++ spell S.rules a in
    let ψ : Words = changed S x ok.alive last ψ' in
    let here : ψ x ≡ ψ' x ++ spell S.rules a = changed_here S x ok.alive last ψ' in
    carry E S (Right x a) ψ ψ' means (changed_dead S x ok.alive last ψ' (Right x a) dead)
    (all_each (λ s. mean (taken S (Right x a)) ψ' (effect (Right x a) (fresh S) s) ≡ mean S ψ s)
    (swap_means (meaning (spell S.rules) ψ) (meaning (spell S.rules) ψ') x (Variable x ∷ Letter a ∷ []) (λ _. refl) (λ y e. sym (changed_there S x ok.alive last ψ' y e))
    (ap (λ r. ψ' x ++ r) (append-nil (spell S.rules a)) ∙ sym here))
    (sides S.equations))
    (right_assembled S x a ψ ψ' here (changed_there S x ok.alive last ψ'))
means_taken E S (Erase x) ok formed means ψ' dead =
    carry E S (Erase x) ψ' ψ' means (λ y gone. dead y (gone_taken S (Erase x) y gone))
    (all_each (λ s. mean (taken S (Erase x)) ψ' (effect (Erase x) (fresh S) s) ≡ mean S ψ' s)
    (swap_means (meaning (spell S.rules) ψ') (meaning (spell S.rules) ψ') x [] (λ _. refl) (λ _ _. refl) (sym (dead x (erased_gone S x))))
    (sides S.equations))
    (rules_assembled S formed S.rules (λ _ _. refl) ψ')
means_taken E S (Pair a b) ok formed means ψ' dead =
    carry E S (Pair a b) ψ' ψ' means (λ y gone. dead y (gone_taken S (Pair a b) y gone))
    (All-weaker (AllByRecursion (KnownPlace (fresh S))) (λ s. mean (taken S (Pair a b)) ψ' (effect (Pair a b) (fresh S) s) ≡ mean S ψ' s) (pair_means S.rules ψ' a b) (sides S.equations) formed.known_places)
    (rules_assembled S formed (PairRule a b ∷ S.rules) (spell_older (PairRule a b) S.rules) ψ')
means_taken E S (Block a n) ok formed means ψ' dead =
    carry E S (Block a n) ψ' ψ' means (λ y gone. dead y (gone_taken S (Block a n) y gone))
    (All-weaker (AllByRecursion (KnownPlace (fresh S))) (λ s. mean (taken S (Block a n)) ψ' (effect (Block a n) (fresh S) s) ≡ mean S ψ' s) (block_means S.rules ψ' a n (block_lower (fresh S) a n ok.low)) (sides S.equations) formed.known_places)
    (rules_assembled S formed (BlockRule a n ∷ S.rules) (spell_older (BlockRule a n) S.rules) ψ')

map_same : {A B : Type 0} (f g : A → B) (xs : List A) → AllByRecursion (λ x. f x ≡ g x) xs → map f xs ≡ map g xs
map_same f g [] same = refl
map_same f g (x ∷ xs) same = ap₂ (λ u v. u ∷ v) same.0 (map_same f g xs same.1)

means_loaded : (E : List Equation) → Means E (bare E)
means_loaded E ψ dead = map_same (mean (bare E) ψ) (fill (assembled (bare E) ψ)) (sides E) (all_each (λ s. mean (bare E) ψ s ≡ fill (assembled (bare E) ψ) s) (λ s. joined_same (meaning (spell []) ψ) (filled (assembled (bare E) ψ)) s (all_each (λ p. meaning (spell []) ψ p ≡ filled (assembled (bare E) ψ) p) at s)) (sides E))
  where
    at : (p : Place) → meaning (spell []) ψ p ≡ filled (assembled (bare E) ψ) p
    at (Letter a) = refl
    at (Variable x) = sym (append-nil (ψ x))

means_reached : (loads : List Load) (choices : List Choice) (S : Standing) → Reaches loads choices S → Means (loaded loads) S
means_reached loads choices S opening = subst (Means (loaded loads)) (opened_bare loads) (means_loaded (loaded loads))
means_reached loads choices S (choosing {choices = earlier} {S = T} run choice) =
    let means : Means (loaded loads) T = means_reached loads earlier T run in
    unless_refused (Means (loaded loads)) (choice_refusal T choice) T (taken T choice) means
    (λ free. means_taken (loaded loads) T choice (allowed T choice free) (runs_are_well_formed loads earlier T run) means)

-- back to words over the letters of what stands

spelled_fill : (S : Standing) (τ : Words) (s : Side) → spell_word S.rules (fill τ s) ≡ mean S (λ x. spell_word S.rules (τ x)) s
spelled_fill S τ s = joined_joined (spell S.rules) (filled τ) s ∙ joined_same (λ p. flat_map (spell S.rules) (filled τ p)) (meaning (spell S.rules) (λ x. spell_word S.rules (τ x))) s (all_each (λ p. flat_map (spell S.rules) (filled τ p) ≡ meaning (spell S.rules) (λ x. spell_word S.rules (τ x)) p) at s)
  where
    at : (p : Place) → flat_map (spell S.rules) (filled τ p) ≡ meaning (spell S.rules) (λ x. spell_word S.rules (τ x)) p
    at (Letter a) = append-nil (spell S.rules a)
    at (Variable x) = refl

dead_sound : (loads : List Load) (choices : List Choice) (S : Standing) → Reaches loads choices S → (τ : Words) → DeadEmpty S τ → map (λ side. spell_word S.rules (fill τ side)) (sides S.equations) ≡ map (fill (whole S τ)) (sides (loaded loads))
dead_sound loads choices S run τ dead =
    let ψ : Words = λ x. spell_word S.rules (τ x) in
    map_same (λ s. spell_word S.rules (fill τ s)) (mean S ψ) (sides S.equations) (all_each (λ s. spell_word S.rules (fill τ s) ≡ mean S ψ s) (spelled_fill S τ) (sides S.equations)) ∙
    means_reached loads choices S run ψ (λ x gone. ap (spell_word S.rules) (dead x gone)) ∙
    ap (λ (w : Words). map (fill w) (sides (loaded loads))) (sym (fun_ext (whole_assembled S τ)))

-- what τ has of a variable counts only where the variable stands
pub sound : Sound
sound loads choices S run τ left =
    let E : List Equation = loaded loads in
    let τ₀ : Words = λ x. cond (live S x) (τ x) [] in
    let alive : (x : ℕ) → live S x ≡ true → τ x ≡ τ₀ x = λ x e. sym (cond-true (live S x) (τ x) [] e) in
    let gone : DeadEmpty S τ₀ = λ x e. cond-false (live S x) (τ x) [] e in
    let same : (x : ℕ) → OfSystem loads x → τ₀ x ≡ τ x = λ x of. cond_both (live S x) (τ x) [] (λ w. w ≡ τ x) (λ _. refl) (λ e. sym (left x of e)) in
    map_same (λ s. spell_word S.rules (fill τ s)) (λ s. spell_word S.rules (fill τ₀ s)) (sides S.equations)
    (All-weaker (λ s. fill τ s ≡ fill τ₀ s) (λ s. spell_word S.rules (fill τ s) ≡ spell_word S.rules (fill τ₀ s)) (λ s e. ap (spell_word S.rules) e) (sides S.equations) (fill_same τ τ₀ S.equations alive)) ∙
    dead_sound loads choices S run τ₀ gone ∙
    map_same (fill (whole S τ₀)) (fill (whole S τ)) (sides E)
    (fill_same (whole S τ₀) (whole S τ) E (λ x of. ap (λ w. spell_word S.rules (around S x w)) (same x of)))

-- what is the same on each side of E is the same on each side of E'
solved_over : (G H : Side → Word) (E E' : List Equation) → map G (sides E) ≡ map H (sides E') → AllByRecursion (λ e. G e.0 ≡ G e.1) E → AllByRecursion (λ e. H e.0 ≡ H e.1) E'
solved_over G H [] [] same h = tt
solved_over G H [] (e' ∷ E') same h = let z : ◌≡◌ {A = ℕ} 0 1 = cc in absurd (omega arith)
solved_over G H (e ∷ E) [] same h = tt
solved_over G H (e ∷ E) (e' ∷ E') same h =
    let left : G e.0 ≡ H e'.0 = cc in
    let right : G e.1 ≡ H e'.1 = cc in
    let more : map G (sides E) ≡ map H (sides E') = cc in
    (sym left ∙ h.0 ∙ right, solved_over G H E E' more h.1)

-- words that solve what stands are carried back: the whole words solve what was loaded
pub carried_back : (loads : List Load) (choices : List Choice) (S : Standing) → Reaches loads choices S → (τ : Words) → NothingLeft loads S τ → Solves τ S.equations → Solves (whole S τ) (loaded loads)
carried_back loads choices S run τ left solves =
    solved_over (λ s. spell_word S.rules (fill τ s)) (fill (whole S τ)) S.equations (loaded loads) (sound loads choices S run τ left)
    (All-weaker (λ e. fill τ e.0 ≡ fill τ e.1) (λ e. spell_word S.rules (fill τ e.0) ≡ spell_word S.rules (fill τ e.1)) (λ e same. ap (spell_word S.rules) same) S.equations solves)

pub sound_at_end : SoundAtEnd
sound_at_end loads choices S run none same = record {
  solves = carried_back loads choices S run (λ _. []) (λ _ _ _. refl) (All-weaker SameSides (λ e. fill (λ _. []) e.0 ≡ fill (λ _. []) e.1) (λ e both. ap (fill (λ _. [])) both) S.equations same);
  a_to_z = popped_a_to_z S (runs_are_well_formed loads choices S run);
}
