-- The last letter of a word, and a loop over all words. Assumes nothing.
use Rattle.std.proofs.Common.{◌≡◌, ℕ, suc, ◌+◌, ◌-◌, ◌<◌, List, [], ◌∷◌, ◌++◌, drop, eqb, get_or, length, map, set, take, refl, ap, ◌∙◌, sym, arith}
use Rattle.std.proofs.lemmas.List.{get_or_default, length-append, length-drop, length-map, length-take}
use Rattle.std.proofs.lemmas.List.Edits.{map_over_more}
use Rattle.model.specs.Spelling.{Word}
use Rattle.writing.specs.Writer.{ends, front}

pub ends_at : (a : ℕ) (w : Word) → 0 < length w → ends a w ≡ eqb (get_or w (length w - 1) 0) a
ends_at a [] some = absurd (omega arith)
ends_at a (l ∷ []) some = refl
ends_at a (l ∷ (m ∷ w)) some =
    let one : length (m ∷ w) - 1 ≡ length w = omega arith in
    let two : length (l ∷ (m ∷ w)) - 1 ≡ suc (length w) = omega arith in
    ends_at a (m ∷ w) (omega arith) ∙ ap (λ i. eqb (get_or (m ∷ w) i 0) a) one ∙ ap (λ i. eqb (get_or (l ∷ (m ∷ w)) i 0) a) (sym two)

pub front_of : (u : Word) (l : ℕ) → front (u ++ l ∷ []) ≡ u
front_of [] l = refl
front_of (k ∷ []) l = refl
front_of (k ∷ (m ∷ u)) l = ap (λ r. k ∷ r) (front_of (m ∷ u) l)

-- a loop that writes f of each element over it
pub map_over_next : {X : Type 0} (f : X → X) (xs ys zs : List X) (i : ℕ) (d : X) → i < length xs → ys ≡ map f (take i xs) ++ drop i xs → zs ≡ set ys i (f (get_or ys i d)) → zs ≡ map f (take (i + 1) xs) ++ drop (i + 1) xs
map_over_next f xs ys zs i d low so_far is = is ∙ map_over_more f xs ys i (get_or ys i d) low so_far (get_or_default ys i d (get_or ys i d) (omega (arith, ap length so_far, length-append (map f (take i xs)) (drop i xs), length-map (take i xs) f, length-take i xs, length-drop i xs)))
