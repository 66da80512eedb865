-- The whole words: what was popped, set around what is left. Assumes nothing.
use Rattle.std.proofs.Common.{◌≡◌, ℕ, ◌<◌, Bool, true, false, cond, eqb, List, [], ◌∷◌, ◌++◌, reverse, sym, refl, ap, ◌∙◌, subst, ap₂, append_assoc, append-nil}
use Rattle.std.specs.List.{flat_map}
use Rattle.std.proofs.lemmas.List.{reverse-append}
use Rattle.std.proofs.ByRecursion.{All-append, All-weaker}
use Rattle.std.proofs.lemmas.Bool.{eqb-true, cond_both}
use Rattle.model.specs.declared.Rule.{Rule}
use Rattle.model.specs.Spelling.{Word, known, spell, spell_word}
use Rattle.model.proofs.Spelling.{joined-++}
use Rattle.model.proofs.Fitting.{spell_basic}
use Rattle.systems.specs.declared.Choice.TheVariants.{Left, Right}
use Rattle.systems.specs.declared.Pop.{Pop}
use Rattle.systems.specs.declared.Pop.TheVariants.{AtLeft, AtRight}
use Rattle.systems.specs.Choices.{taken}
use Rattle.systems.specs.Invariants.{KnownPop, WellFormed}
use Rattle.systems.specs.Sides.{Words, Below}
use Rattle.systems.specs.Standings.{Standing, fresh, left_of, right_of, lefts, rights, whole, popped_word}
use Rattle.systems.proofs.Meaning.{SpellsOlder}
use Rattle.systems.proofs.Rows.{all_reverseAux, joined_same, all_joined}

-- the whole word of each variable, where ψ has what is left of it, already spelled

abbrev pub assembled : Standing → Words → Words
assembled S ψ x = spell_word S.rules (lefts S x) ++ (ψ x ++ spell_word S.rules (reverse (rights S x)))

pub left_assembled : (S : Standing) (x a : ℕ) (ψ ψ' : Words) → ψ x ≡ spell S.rules a ++ ψ' x → ((y : ℕ) → eqb x y ≡ false → ψ y ≡ ψ' y) → (y : ℕ) → assembled (taken S (Left x a)) ψ' y ≡ assembled S ψ y
left_assembled S x a ψ ψ' first others y =
    ap₂ (λ l r. spell_word S.rules l ++ (ψ' y ++ spell_word S.rules (reverse r))) (joined-++ (left_of y) S.pops (AtLeft x a ∷ [])) (joined-++ (right_of y) S.pops (AtLeft x a ∷ []) ∙ append-nil (rights S y)) ∙
    go (eqb x y) refl
  where
    rest : Word
    rest = spell_word S.rules (reverse (rights S y))

    go : (t : Bool) → eqb x y ≡ t → spell_word S.rules (lefts S y ++ (cond t (a ∷ []) [] ++ [])) ++ (ψ' y ++ rest) ≡ spell_word S.rules (lefts S y) ++ (ψ y ++ rest)
    go true e =
        let here : ψ y ≡ spell S.rules a ++ ψ' y = subst (λ z. ψ z ≡ spell S.rules a ++ ψ' z) (eqb-true x y e) first in
        let before : Word = spell_word S.rules (lefts S y) in
        ap (λ r. r ++ (ψ' y ++ rest)) (joined-++ (spell S.rules) (lefts S y) (a ∷ [])) ∙
        append_assoc before (spell S.rules a ++ []) (ψ' y ++ rest) ∙
        ap (λ r. before ++ (r ++ (ψ' y ++ rest))) (append-nil (spell S.rules a)) ∙
        ap (λ r. before ++ r) (sym (append_assoc (spell S.rules a) (ψ' y) rest) ∙ ap (λ w. w ++ rest) (sym here))
    go false e = ap (λ l. spell_word S.rules l ++ (ψ' y ++ rest)) (append-nil (lefts S y)) ∙ ap (λ w. spell_word S.rules (lefts S y) ++ (w ++ rest)) (sym (others y e))

pub right_assembled : (S : Standing) (x a : ℕ) (ψ ψ' : Words) → ψ x ≡ ψ' x ++ spell S.rules a → ((y : ℕ) → eqb x y ≡ false → ψ y ≡ ψ' y) → (y : ℕ) → assembled (taken S (Right x a)) ψ' y ≡ assembled S ψ y
right_assembled S x a ψ ψ' last others y =
    ap₂ (λ l r. spell_word S.rules l ++ (ψ' y ++ spell_word S.rules (reverse r))) (joined-++ (left_of y) S.pops (AtRight x a ∷ []) ∙ append-nil (lefts S y)) (joined-++ (right_of y) S.pops (AtRight x a ∷ [])) ∙
    ap (λ r. spell_word S.rules (lefts S y) ++ r) (go (eqb x y) refl)
  where
    rest : Word
    rest = spell_word S.rules (reverse (rights S y))

    go : (t : Bool) → eqb x y ≡ t → ψ' y ++ spell_word S.rules (reverse (rights S y ++ (cond t (a ∷ []) [] ++ []))) ≡ ψ y ++ rest
    go true e =
        let here : ψ y ≡ ψ' y ++ spell S.rules a = subst (λ z. ψ z ≡ ψ' z ++ spell S.rules a) (eqb-true x y e) last in
        ap (λ r. ψ' y ++ spell_word S.rules r) (reverse-append (rights S y) (a ∷ [])) ∙
        sym (append_assoc (ψ' y) (spell S.rules a) rest) ∙ ap (λ w. w ++ rest) (sym here)
    go false e = ap (λ r. ψ' y ++ spell_word S.rules (reverse r)) (append-nil (rights S y)) ∙ ap (λ w. w ++ rest) (sym (others y e))

-- the whole word that is spelled is what was popped, spelled, around what is left, spelled
pub whole_assembled : (S : Standing) (τ : Words) (x : ℕ) → whole S τ x ≡ assembled S (λ y. spell_word S.rules (τ y)) x
whole_assembled S τ x = joined-++ (spell S.rules) (lefts S x) (τ x ++ reverse (rights S x)) ∙ ap (λ r. spell_word S.rules (lefts S x) ++ r) (joined-++ (spell S.rules) (τ x) (reverse (rights S x)))

-- the popped letters are known, so that no new rule changes what they spell

pub older_word : (older rules : List Rule) → SpellsOlder older rules → (w : Word) → Below (known older) w → spell_word rules w ≡ spell_word older w
older_word older rules same w h = joined_same (spell rules) (spell older) w (All-weaker (λ l. l < known older) (λ l. spell rules l ≡ spell older l) same w h)

pub lefts_below : (S : Standing) → WellFormed S → (x : ℕ) → Below (fresh S) (lefts S x)
lefts_below S formed x = all_joined (KnownPop (fresh S)) (λ l. l < fresh S) (left_of x) at S.pops formed.known_pops
  where
    at : (p : Pop) → KnownPop (fresh S) p → Below (fresh S) (left_of x p)
    at (AtLeft y a) h = cond_both (eqb y x) (a ∷ []) [] (Below (fresh S)) (λ _. (h.1, tt)) (λ _. tt)
    at (AtRight y a) h = tt

pub rights_below : (S : Standing) → WellFormed S → (x : ℕ) → Below (fresh S) (rights S x)
rights_below S formed x = all_joined (KnownPop (fresh S)) (λ l. l < fresh S) (right_of x) at S.pops formed.known_pops
  where
    at : (p : Pop) → KnownPop (fresh S) p → Below (fresh S) (right_of x p)
    at (AtLeft y a) h = tt
    at (AtRight y a) h = cond_both (eqb y x) (a ∷ []) [] (Below (fresh S)) (λ _. (h.1, tt)) (λ _. tt)

pub rules_assembled : (S : Standing) → WellFormed S → (rules : List Rule) → SpellsOlder S.rules rules → (ψ : Words) (y : ℕ) → spell_word rules (flat_map (left_of y) (S.pops ++ [])) ++ (ψ y ++ spell_word rules (reverse (flat_map (right_of y) (S.pops ++ [])))) ≡ assembled S ψ y
rules_assembled S formed rules same ψ y =
    ap (λ pops. spell_word rules (flat_map (left_of y) pops) ++ (ψ y ++ spell_word rules (reverse (flat_map (right_of y) pops)))) (append-nil S.pops) ∙
    ap₂ (λ u v. u ++ (ψ y ++ v))
    (older_word S.rules rules same (lefts S y) (lefts_below S formed y))
    (older_word S.rules rules same (reverse (rights S y)) (all_reverseAux (λ l. l < fresh S) (rights S y) [] (rights_below S formed y) tt))

pub popped_below : (S : Standing) → WellFormed S → (x : ℕ) → Below (fresh S) (popped_word S x)
popped_below S formed x = All-append (λ l. l < fresh S) (lefts S x) (reverse (rights S x)) (lefts_below S formed x) (all_reverseAux (λ l. l < fresh S) (rights S x) [] (rights_below S formed x) tt)

-- what the popped letters spell is over a to z
pub popped_a_to_z : (S : Standing) → WellFormed S → (x : ℕ) → Below 26 (spell_word S.rules (popped_word S x))
popped_a_to_z S formed x = all_joined (λ l. l < fresh S) (λ l. l < 26) (spell S.rules) (λ c. spell_basic S.rules c formed.fitting_rules) (popped_word S x) (popped_below S formed x)
