-- Lists whose elements are numbered from 0. Assumes nothing.
use Rattle.std.proofs.Common.{◌≡◌, ℕ, ◌<◌, List, [], ◌∷◌, map, length, get_or, sym, ap, ◌∙◌, arith}
use Rattle.std.specs.List.{range_with_len}
use Rattle.std.proofs.lemmas.List.{get_or-map, length-map, map-id}
use Rattle.std.proofs.lemmas.List.FromFn.{fill_by_all, get_or-range_with_len, length-range_with_len}

-- the number of an element is its place
pub number_is_place : {X : Type 0} (number : X → ℕ) (xs : List X) (n i : ℕ) (d : X) → map number xs ≡ range_with_len 0 n → i < n → number (get_or xs i d) ≡ i
number_is_place number xs n i d is lt =
    let long : length xs ≡ n = sym (length-map xs number) ∙ ap length is ∙ length-range_with_len 0 n in
    let place = get_or-range_with_len 0 n i (number d) lt in
    sym (get_or-map number xs i d (number d) (omega arith)) ∙ ap (λ l. get_or l i (number d)) is ∙ omega arith

-- a list whose elements have their places for numbers
pub numbers_from_places : {X : Type 0} (number : X → ℕ) (xs : List X) (n : ℕ) → length xs ≡ n → ((i : ℕ) (e : X) → i < n → number (get_or xs i e) ≡ i) → map number xs ≡ range_with_len 0 n
numbers_from_places number [] n long each = ap (range_with_len 0) long
numbers_from_places number (x ∷ xs) n long each =
    fill_by_all (λ k. k) (map number (x ∷ xs)) n 0 (length-map (x ∷ xs) number ∙ long) (λ k lt. get_or-map number (x ∷ xs) k x 0 (omega arith) ∙ each k x lt) ∙ map-id (range_with_len 0 n)
