-- Rows of any elements: each pair in a row replaced, each maximal block in a row replaced. Assumes nothing.
use Rattle.std.specs.Prelude.{ℕ, suc, Bool, false, cond, ◌&&◌, ◌||◌, List, [], ◌∷◌, ◌++◌, replicate, ◌==◌}

-- some element passes the test
abbrev pub any : {A : Type 0} → (A → Bool) → List A → Bool
any p [] = false
any p (x ∷ xs) = p x || any p xs

-- each element that passes `first`, with one that passes `second` in the next place, becomes with it the one element `new`
abbrev pub replace_pairs : {A : Type 0} → (A → Bool) → (A → Bool) → A → List A → List A
replace_pairs first second new [] = []
replace_pairs first second new (x ∷ []) = x ∷ []
replace_pairs first second new (x ∷ (y ∷ rest)) = cond (first x && second y) (new ∷ replace_pairs first second new rest) (x ∷ replace_pairs first second new (y ∷ rest))

-- a row of k times a, or `new` where k is n
abbrev pub row : {A : Type 0} → A → ℕ → A → ℕ → List A
row a n new k = cond (k == n) (new ∷ []) (replicate k a)

-- each maximal row of exactly n times a becomes `new`, where k times a stand right before the list
abbrev pub replace_blocks : {A : Type 0} → (A → Bool) → A → ℕ → A → ℕ → List A → List A
replace_blocks is_a a n new k [] = row a n new k
replace_blocks is_a a n new k (x ∷ xs) = cond (is_a x) (replace_blocks is_a a n new (suc k) xs) (row a n new k ++ (x ∷ replace_blocks is_a a n new 0 xs))
