-- Laws of `joined`, `replace_pairs` and `replace_blocks` over rows of any elements. Assumes nothing.
use Rattle.std.proofs.Common.{◌≡◌, ℕ, zero, suc, Bool, true, false, cond, ◌&&◌, List, [], ◌∷◌, ◌++◌, replicate, sym, refl, ap, ◌∙◌, ap₂, append_assoc, append-nil}
use mathlib.Core.List.{reverse_aux}
use Rattle.std.specs.List.{flat_map, AllByRecursion}
use Rattle.std.proofs.ByRecursion.{All-append}
use Rattle.std.proofs.lemmas.Bool.{eqb-true, and_parts, or_parts, or_from, cond_both}
use Rattle.model.specs.Spelling.{Word, copies}
use Rattle.model.proofs.Spelling.{joined-++}
use Rattle.systems.specs.Rows.{any, replace_pairs, row, replace_blocks}

pub all_reverseAux : {A : Type 0} (Q : A → Type 0) (xs ys : List A) → AllByRecursion Q xs → AllByRecursion Q ys → AllByRecursion Q (reverse_aux xs ys)
all_reverseAux Q [] ys h k = k
all_reverseAux Q (x ∷ xs) ys h k = all_reverseAux Q xs (x ∷ ys) h.1 (h.0, k)

-- a cond that stands under a function
pub cond_under : {A B : Type 0} (f : A → B) (t : Bool) (x y : A) (x' y' : B) → (t ≡ true → f x ≡ x') → (t ≡ false → f y ≡ y') → f (cond t x y) ≡ cond t x' y'
cond_under f true x y x' y' h k = h refl
cond_under f false x y x' y' h k = k refl

module _ {A B : Type 0} where
  pub joined_same : (f g : A → List B) (xs : List A) → AllByRecursion (λ x. f x ≡ g x) xs → flat_map f xs ≡ flat_map g xs
  joined_same f g [] h = refl
  joined_same f g (x ∷ xs) h = ap₂ (λ u v. u ++ v) h.0 (joined_same f g xs h.1)

  pub all_joined : (P : A → Type 0) (Q : B → Type 0) (f : A → List B) → ((x : A) → P x → AllByRecursion Q (f x)) → (xs : List A) → AllByRecursion P xs → AllByRecursion Q (flat_map f xs)
  all_joined P Q f step [] h = tt
  all_joined P Q f step (x ∷ xs) h = All-append Q (f x) (flat_map f xs) (step x h.0) (all_joined P Q f step xs h.1)

module _ {A : Type 0} where
  pub all_each : (P : A → Type 0) → ((x : A) → P x) → (xs : List A) → AllByRecursion P xs
  all_each P each [] = tt
  all_each P each (x ∷ xs) = (each x, all_each P each xs)

  pub any_none : (p : A → Bool) (xs : List A) → any p xs ≡ false → AllByRecursion (λ x. p x ≡ false) xs
  any_none p [] e = tt
  any_none p (x ∷ xs) e = let parts = or_parts (p x) (any p xs) e in (parts.0, any_none p xs parts.1)

  pub none_any : (p : A → Bool) (xs : List A) → AllByRecursion (λ x. p x ≡ false) xs → any p xs ≡ false
  none_any p [] h = refl
  none_any p (x ∷ xs) h = or_from (p x) (any p xs) h.0 (none_any p xs h.1)

pub joined_joined : {A B C : Type 0} (f : B → List C) (g : A → List B) (xs : List A) → flat_map f (flat_map g xs) ≡ flat_map (λ x. flat_map f (g x)) xs
joined_joined f g [] = refl
joined_joined f g (x ∷ xs) = joined-++ f (g x) (flat_map g xs) ∙ ap (λ r. flat_map f (g x) ++ r) (joined_joined f g xs)

-- pairs

module _ {A : Type 0} (p q : A → Bool) (c : A) where
  pub all_pairs : (P : A → Type 0) → P c → (xs : List A) → AllByRecursion P xs → AllByRecursion P (replace_pairs p q c xs)
  all_pairs P at_c [] h = tt
  all_pairs P at_c (x ∷ []) h = h
  all_pairs P at_c (x ∷ (y ∷ rest)) h =
      cond_both (p x && q y) (c ∷ replace_pairs p q c rest) (x ∷ replace_pairs p q c (y ∷ rest)) (AllByRecursion P)
      (λ _. (at_c, all_pairs P at_c rest h.1.1))
      (λ _. (h.0, all_pairs P at_c (y ∷ rest) h.1))

  -- where `new` means what the pair meant, the row means what it meant
  pub joined_pairs : {B : Type 0} (f g : A → List B) → ((x y : A) → p x ≡ true → q y ≡ true → g c ≡ f x ++ f y) → (xs : List A) → AllByRecursion (λ x. g x ≡ f x) xs → flat_map g (replace_pairs p q c xs) ≡ flat_map f xs
  joined_pairs f g new [] h = refl
  joined_pairs f g new (x ∷ []) h = ap (λ r. r ++ []) h.0
  joined_pairs f g new (x ∷ (y ∷ rest)) h =
      cond_both (p x && q y) (c ∷ replace_pairs p q c rest) (x ∷ replace_pairs p q c (y ∷ rest)) (λ r. flat_map g r ≡ f x ++ (f y ++ flat_map f rest))
      (λ e. let parts = and_parts (p x) (q y) e in
      ap₂ (λ u v. u ++ v) (new x y parts.0 parts.1) (joined_pairs f g new rest h.1.1) ∙ append_assoc (f x) (f y) (flat_map f rest))
      (λ _. ap₂ (λ u v. u ++ v) h.0 (joined_pairs f g new (y ∷ rest) h.1))

-- blocks

pub copies_more : (k : ℕ) (w : Word) → w ++ copies k w ≡ copies k w ++ w
copies_more zero w = append-nil w
copies_more (suc k) w = ap (λ r. w ++ r) (copies_more k w) ∙ sym (append_assoc w (copies k w) w)

pub joined_replicate : {A : Type 0} (g : A → Word) (k : ℕ) (a : A) → flat_map g (replicate k a) ≡ copies k (g a)
joined_replicate g zero a = refl
joined_replicate g (suc k) a = ap (λ r. g a ++ r) (joined_replicate g k a)

pub all_replicate : {A : Type 0} (P : A → Type 0) (k : ℕ) (a : A) → P a → AllByRecursion P (replicate k a)
all_replicate P zero a h = tt
all_replicate P (suc k) a h = (h, all_replicate P k a h)

module _ {A : Type 0} (is_a : A → Bool) (a : A) (n : ℕ) (c : A) where
  pub all_row : (P : A → Type 0) → P a → P c → (k : ℕ) → AllByRecursion P (row a n c k)
  all_row P at_a at_c k = cond_both _ (c ∷ []) (replicate k a) (AllByRecursion P) (λ _. (at_c, tt)) (λ _. all_replicate P k a at_a)

  pub all_blocks : (P : A → Type 0) → P a → P c → (xs : List A) (k : ℕ) → AllByRecursion P xs → AllByRecursion P (replace_blocks is_a a n c k xs)
  all_blocks P at_a at_c [] k h = all_row P at_a at_c k
  all_blocks P at_a at_c (x ∷ xs) k h =
      cond_both (is_a x) (replace_blocks is_a a n c (suc k) xs) (row a n c k ++ (x ∷ replace_blocks is_a a n c 0 xs)) (AllByRecursion P)
      (λ _. all_blocks P at_a at_c xs (suc k) h.1)
      (λ _. All-append P (row a n c k) (x ∷ replace_blocks is_a a n c 0 xs) (all_row P at_a at_c k) (h.0, all_blocks P at_a at_c xs 0 h.1))

  module _ (f g : A → Word) (at_a : g a ≡ f a) (at_c : g c ≡ copies n (f a)) (means : (x : A) → is_a x ≡ true → f x ≡ f a) where
    pub joined_row : (k : ℕ) → flat_map g (row a n c k) ≡ copies k (f a)
    joined_row k =
        cond_both _ (c ∷ []) (replicate k a) (λ r. flat_map g r ≡ copies k (f a))
        (λ e. append-nil (g c) ∙ at_c ∙ ap (λ m. copies m (f a)) (sym (eqb-true k n e)))
        (λ _. joined_replicate g k a ∙ ap (copies k) at_a)

    pub joined_blocks : (xs : List A) (k : ℕ) → AllByRecursion (λ x. g x ≡ f x) xs → flat_map g (replace_blocks is_a a n c k xs) ≡ copies k (f a) ++ flat_map f xs
    joined_blocks [] k h = joined_row k ∙ sym (append-nil (copies k (f a)))
    joined_blocks (x ∷ xs) k h =
        cond_both (is_a x) (replace_blocks is_a a n c (suc k) xs) (row a n c k ++ (x ∷ replace_blocks is_a a n c 0 xs)) (λ r. flat_map g r ≡ copies k (f a) ++ (f x ++ flat_map f xs))
        (λ e. joined_blocks xs (suc k) h.1 ∙ ap (λ r. r ++ flat_map f xs) (copies_more k (f a)) ∙ append_assoc (copies k (f a)) (f a) (flat_map f xs) ∙ ap (λ r. copies k (f a) ++ (r ++ flat_map f xs)) (sym (means x e)))
        (λ _. joined-++ g (row a n c k) (x ∷ replace_blocks is_a a n c 0 xs) ∙ ap₂ (λ u v. u ++ v) (joined_row k) (ap₂ (λ u v. u ++ v) h.0 (joined_blocks xs 0 h.1)))
