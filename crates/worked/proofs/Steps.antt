-- Short lists, item by item. Assumes nothing.
use Rattle.std.proofs.Common.{◌≡◌, ℕ, List, [], ◌∷◌, ◌++◌, None, sym, ap, ◌∙◌, subst, append_assoc, append-nil, arith}
use Rattle.systems.specs.declared.Choice.{Choice}
use Rattle.systems.specs.Refusals.{choice_refusal, after_choice}
use Rattle.systems.specs.Runs.{Load, Reaches, choosing}
use Rattle.systems.specs.Standings.{Standing}
use Rattle.systems.proofs.Determined.{calls_decide_what_stands}

no_item : {A : Type 0} (before : List A) (y : A) (behind : List A) → [] ≡ before ++ (y ∷ behind) → ⊥
no_item [] y behind e = let z : ◌≡◌ {A = ℕ} 0 1 = cc in omega arith
no_item (b ∷ before) y behind e = let z : ◌≡◌ {A = ℕ} 0 1 = cc in omega arith

-- the item of a list of one, and what stands before it
pub only : {A : Type 0} (P : List A → A → Type 0) (x : A) → P [] x → (before behind : List A) (y : A) → x ∷ [] ≡ before ++ (y ∷ behind) → P before y
only P x p [] behind y e = let same : x ≡ y = cc in subst (P []) same p
only P x p (b ∷ before) behind y e = absurd (no_item before y behind (cc))

-- each of these choices is taken from what stands
abbrev pub EachTaken : Standing → List Choice → Type 0
EachTaken S [] = Unit {0}
EachTaken S (choice ∷ more) = (choice_refusal S choice ≡ None) × EachTaken (after_choice S choice) more

-- so none is refused once S stands after the choices done
pub none_refused : (loads : List Load) (done : List Choice) (S : Standing) (list : List Choice) → Reaches loads done S → EachTaken S list →
    (before behind : List Choice) (choice : Choice) (T : Standing) → list ≡ before ++ (choice ∷ behind) → Reaches loads (done ++ before) T → choice_refusal T choice ≡ None
none_refused loads done S [] run each before behind choice T e then = absurd (no_item before choice behind e)
none_refused loads done S (c ∷ more) run each [] behind choice T e then =
    let same : c ≡ choice = cc in
    let stands : T ≡ S = calls_decide_what_stands.same loads done T S (subst (λ l. Reaches loads l T) (append-nil done) then) run in
    ap (λ U. choice_refusal U choice) stands ∙ subst (λ d. choice_refusal S d ≡ None) same each.0
none_refused loads done S (c ∷ more) run each (b ∷ before) behind choice T e then =
    let same : b ≡ c = cc in
    let rest : more ≡ before ++ (choice ∷ behind) = cc in
    let there : Reaches loads (done ++ (c ∷ before)) T = subst (λ d. Reaches loads (done ++ (d ∷ before)) T) same then in
    none_refused loads (done ++ (c ∷ [])) (after_choice S c) more (choosing run c) each.1 before behind choice T rest
    (subst (λ l. Reaches loads l T) (sym (append_assoc done (c ∷ []) before)) there)
