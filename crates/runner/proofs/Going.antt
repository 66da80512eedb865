-- One more load, limit or choice that is taken. Assumes nothing.
use Rattle.std.proofs.Common.{◌≡◌, ◌⊎◌, Bool, true, false, List, [], ◌∷◌, ◌++◌, None, map, sym, refl, ap, ◌∙◌, subst, inl, inr, ⊎_elim, arith, ℕ}
use Rattle.std.specs.List.{AllByRecursion}
use Rattle.systems.specs.declared.Choice.{Choice}
use Rattle.systems.specs.Loading.{load_refusal}
use Rattle.systems.specs.Refusals.{choice_refusal}
use Rattle.systems.specs.Runs.{Load, opened, Reaches}
use Rattle.systems.specs.Standings.{Standing}
use Rattle.systems.proofs.Determined.{calls_decide_what_stands}
use Rattle.writing.specs.Theorems.{NoneRefused}
use Rattle.length.specs.Limits.{InOrder}
use Rattle.tables.specs.declared.types.Limit.{Limit}
use Rattle.tables.specs.Rows.{IsEquation, IsLimit, IsChoice}
use Rattle.tables.specs.Written.{ListedOnce, is_listed}
use Rattle.answers.specs.Taken.{EachLoaded, FirstTaken, SecondTaken, ThirdTaken}

pub all_push : {A : Type 0} (P : A → Type 0) (xs : List A) (x : A) → AllByRecursion P xs → P x → AllByRecursion P (xs ++ (x ∷ []))
all_push P [] x h p = (p, tt)
all_push P (y ∷ xs) x h p = (h.0, all_push P xs x h.1 p)

pub no_item : {A : Type 0} (before : List A) (y : A) (behind : List A) → [] ≡ before ++ (y ∷ behind) → ⊥
no_item [] y behind e = let z : ◌≡◌ {A = ℕ} 0 1 = cc in omega arith
no_item (b ∷ before) y behind e = let z : ◌≡◌ {A = ℕ} 0 1 = cc in omega arith

-- an item of a list with one more is the last, or one of the others
pub one_of : {A : Type 0} (xs : List A) (x : A) (before : List A) (y : A) (behind : List A) → xs ++ (x ∷ []) ≡ before ++ (y ∷ behind) → ((xs ≡ before) × (x ≡ y)) ⊎ ((more : List A) × (xs ≡ before ++ (y ∷ more)))
one_of [] x [] y behind e = inl (refl, cc)
one_of [] x (b ∷ before) y behind e = absurd (no_item before y behind (cc))
one_of (w ∷ xs) x [] y behind e = let head : w ≡ y = cc in inr (xs, (cc))
one_of (w ∷ xs) x (b ∷ before) y behind e =
    let head : w ≡ b = cc in
    let rest : xs ++ (x ∷ []) ≡ before ++ (y ∷ behind) = cc in
    ⊎_elim
    (λ (h : (xs ≡ before) × (x ≡ y)). let same : xs ≡ before = h.0 in inl (cc, h.1))
    (λ (h : (more : _) × (xs ≡ before ++ (y ∷ more))). let same : xs ≡ before ++ (y ∷ h.0) = h.1 in inr (h.0, cc))
    (one_of xs x before y behind rest)

-- what holds of each item after those before it
pub each_push : {A : Type 0} (P : List A → A → Type 0) (xs : List A) (x : A) → ((before behind : List A) (y : A) → xs ≡ before ++ (y ∷ behind) → P before y) → P xs x → (before behind : List A) (y : A) → xs ++ (x ∷ []) ≡ before ++ (y ∷ behind) → P before y
each_push P xs x h p before behind y e =
    ⊎_elim
    (λ (last : (xs ≡ before) × (x ≡ y)). subst (λ b. P b y) last.0 (subst (P xs) last.1 p))
    (λ (other : (more : _) × (xs ≡ before ++ (y ∷ more))). h before other.0 y other.1)
    (one_of xs x before y behind e)

pub first_push : (equations : List Load) (e : Load) → FirstTaken equations → IsEquation e → load_refusal (opened equations) e.0 e.1 ≡ None → FirstTaken (equations ++ (e ∷ []))
first_push equations e t row free = record {
  rows = all_push IsEquation equations e t.rows row;
  loaded = each_push (λ before load. load_refusal (opened before) load.0 load.1 ≡ None) equations e t.loaded free;
}

pub second_push : (equations : List Load) (limits : List Limit) (l : Limit) → SecondTaken equations limits → IsLimit l → is_listed limits l.variable ≡ false → InOrder l.least l.most → SecondTaken equations (limits ++ (l ∷ []))
second_push equations limits l t row new order = record {
  first = t.first;
  rows = all_push IsLimit limits l t.rows row;
  once = each_push (λ before m. is_listed before m.variable ≡ false) limits l t.once new;
  in_order = all_push (λ m. InOrder m.least m.most) limits l t.in_order order;
}

pub third_push : (equations : List Load) (limits : List Limit) (choices : List Choice) (choice : Choice) (S : Standing) → ThirdTaken equations limits choices → Reaches equations choices S → IsChoice choice → choice_refusal S choice ≡ None → ThirdTaken equations limits (choices ++ (choice ∷ []))
third_push equations limits choices choice S t reaches row free = record {
  second = t.second;
  rows = all_push IsChoice choices choice t.rows row;
  chosen = λ before behind c T e r.
      each_push (λ b d. (U : Standing) → Reaches equations b U → choice_refusal U d ≡ None) choices choice
      (λ b g d is U run. t.chosen b g d U is run)
      (λ U run. ap (λ V. choice_refusal V choice) (calls_decide_what_stands.same equations choices U S run reaches) ∙ free)
      before behind c e T r;
}
