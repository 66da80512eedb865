-- Rules in sides that have letters only. Assumes nothing.
use Rattle.std.proofs.Common.{◌≡◌, ℕ, zero, suc, ◌&&◌, eqb, List, [], ◌∷◌, ◌++◌, map, replicate, sym, refl, ap, ◌∙◌, ap₂}
use Rattle.std.proofs.lemmas.List.{map-append}
use Rattle.model.specs.Spelling.{Word}
use Rattle.systems.specs.declared.Place.TheVariants.{Letter}
use Rattle.systems.specs.Rows.{row, replace_blocks}
use Rattle.systems.specs.Sides.{Side, Equation, is_letter, on_sides, sides, side_pairs, word_pairs}
use Rattle.systems.proofs.Rows.{cond_under}

pub sides_on : (f : Side → Side) (E : List Equation) → map f (sides E) ≡ sides (on_sides f E)
sides_on f [] = refl
sides_on f (e ∷ E) = ap (λ ss. f e.0 ∷ (f e.1 ∷ ss)) (sides_on f E)

pub pairs_letters : (a b c : ℕ) (w : Word) → side_pairs a b c (map Letter w) ≡ map Letter (word_pairs a b c w)
pairs_letters a b c [] = refl
pairs_letters a b c (l ∷ []) = refl
pairs_letters a b c (l ∷ (m ∷ w)) =
    sym (cond_under (map Letter) (eqb l a && eqb m b) (c ∷ word_pairs a b c w) (l ∷ word_pairs a b c (m ∷ w)) (Letter c ∷ side_pairs a b c (map Letter w)) (Letter l ∷ side_pairs a b c (map Letter (m ∷ w)))
    (λ _. ap (λ s. Letter c ∷ s) (sym (pairs_letters a b c w))) (λ _. ap (λ s. Letter l ∷ s) (sym (pairs_letters a b c (m ∷ w)))))

letters_row : (k a : ℕ) → map Letter (replicate k a) ≡ replicate k (Letter a)
letters_row zero a = refl
letters_row (suc k) a = ap (λ s. Letter a ∷ s) (letters_row k a)

row_letters : (a n c k : ℕ) → map Letter (row a n c k) ≡ row (Letter a) n (Letter c) k
row_letters a n c k = cond_under (map Letter) (eqb k n) (c ∷ []) (replicate k a) (Letter c ∷ []) (replicate k (Letter a)) (λ _. refl) (λ _. letters_row k a)

pub blocks_letters : (a n c : ℕ) (w : Word) (k : ℕ) → replace_blocks (is_letter a) (Letter a) n (Letter c) k (map Letter w) ≡ map Letter (replace_blocks (λ l. eqb l a) a n c k w)
blocks_letters a n c [] k = sym (row_letters a n c k)
blocks_letters a n c (l ∷ w) k =
    let words : ℕ → Word = λ i. replace_blocks (λ l. eqb l a) a n c i w in
    let side : ℕ → Side = λ i. replace_blocks (is_letter a) (Letter a) n (Letter c) i (map Letter w) in
    sym (cond_under (map Letter) (eqb l a) (words (suc k)) (row a n c k ++ (l ∷ words 0)) (side (suc k)) (row (Letter a) n (Letter c) k ++ (Letter l ∷ side 0))
    (λ _. sym (blocks_letters a n c w (suc k)))
    (λ _. map-append Letter (row a n c k) (l ∷ words 0) ∙ ap₂ (λ s t. s ++ (Letter l ∷ t)) (row_letters a n c k) (sym (blocks_letters a n c w 0))))
