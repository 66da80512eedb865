-- The first of A to Z that passes a test. Assumes nothing.
use Rattle.std.proofs.Common.{◌≡◌, ℕ, zero, suc, ◌+◌, ◌<◌, ◌≤◌, Bool, true, false, ◌⊎◌, Some, None, refl, ap, ◌∙◌, inl, inr, arith}
use Rattle.std.proofs.lemmas.Bool.{cases_lt, cond-true, cond-false}
use Rattle.writing.specs.Writer.{first, from, variables}

-- the first of n numbers from k on
first_at : (p : ℕ → Bool) (x : ℕ) → p x ≡ true → (n k : ℕ) → k ≤ x → x < k + n → ((y : ℕ) → k ≤ y → y < x → p y ≡ false) → first p (from k n) ≡ Some x
first_at p x yes_x zero k le lt none = absurd (omega arith)
first_at p x yes_x (suc n) k le lt none = split (λ l. first_at p x yes_x n (suc k) l (omega arith) (λ y a b. none y (omega arith) b)) (cases_lt k x)
  where
    split : (suc k ≤ x → first p (from (suc k) n) ≡ Some x) → (k < x) ⊎ (x ≤ k) → first p (from k (suc n)) ≡ Some x
    split more (inl l) = cond-false (p k) (Some k) (first p (from (suc k) n)) (none k (omega arith) l) ∙ more l
    split more (inr g) = let same : k ≡ x = omega arith in cond-true (p k) (Some k) (first p (from (suc k) n)) (ap p same ∙ yes_x) ∙ ap Some same

none_at : (p : ℕ → Bool) (n k : ℕ) → ((y : ℕ) → y < k + n → p y ≡ false) → first p (from k n) ≡ None
none_at p zero k none = refl
none_at p (suc n) k none = cond-false (p k) (Some k) (first p (from (suc k) n)) (none k (omega arith)) ∙ none_at p n (suc k) (λ y lt. none y (omega arith))

-- the first of A to Z
pub first_found : (p : ℕ → Bool) (x : ℕ) → x < 26 → p x ≡ true → ((y : ℕ) → y < x → p y ≡ false) → first p variables ≡ Some x
unfolding variables
first_found p x low here before = first_at p x here 26 0 (omega arith) (omega arith) (λ y a b. before y b)

pub none_found : (p : ℕ → Bool) → ((y : ℕ) → y < 26 → p y ≡ false) → first p variables ≡ None
unfolding variables
none_found p none = none_at p 26 0 (λ y lt. none y (omega arith))
