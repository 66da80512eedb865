-- The letters that were popped, pop by pop. Assumes nothing.
use Rattle.std.proofs.Common.{◌≡◌, ℕ, ◌+◌, ◌<◌, ◌≤◌, Bool, true, false, cond, eqb, List, [], ◌∷◌, ◌++◌, reverse, length, get_or, take, drop, sym, refl, ap, ◌∙◌, ap₂, append-nil, arith, length-append, take-append-drop}
use Rattle.std.specs.List.{flat_map}
use Rattle.std.proofs.lemmas.List.{take_more, reverse-append}
use Rattle.model.specs.Spelling.{Word}
use Rattle.model.proofs.Spelling.{joined-++}
use Rattle.systems.specs.declared.Pop.{Pop}
use Rattle.systems.specs.declared.Pop.TheVariants.{AtLeft, AtRight}
use Rattle.systems.specs.Standings.{left_of, right_of}

-- one pop more
module _ (f : Pop → Word) (pops : List Pop) where
  pub front_more : (i : ℕ) (d : Pop) → i < length pops → flat_map f (take (i + 1) pops) ≡ flat_map f (take i pops) ++ f (get_or pops i d)
  front_more i d lt = ap (flat_map f) (take_more pops i d lt) ∙ joined-++ f (take i pops) (get_or pops i d ∷ []) ∙ ap (λ w. flat_map f (take i pops) ++ w) (append-nil (f (get_or pops i d)))

  -- no more than all
  front_le : (i : ℕ) → length (flat_map f (take i pops)) ≤ length (flat_map f pops)
  front_le i = omega (arith, length-append (flat_map f (take i pops)) (flat_map f (drop i pops)), ap length (joined-++ f (take i pops) (drop i pops)), ap (λ ps. length (flat_map f ps)) (take-append-drop i pops))

  pub front_room : (i : ℕ) (d : Pop) → i < length pops → length (flat_map f (take i pops)) + length (f (get_or pops i d)) ≤ length (flat_map f pops)
  front_room i d lt = omega (arith, front_le (i + 1), ap length (front_more i d lt), length-append (flat_map f (take i pops)) (f (get_or pops i d)))

-- one letter at most is its own reverse
one_back : (t : Bool) (a : ℕ) → reverse (cond t (a ∷ []) []) ≡ cond t (a ∷ []) []
one_back true a = refl
one_back false a = refl

right_back : (x : ℕ) (pop : Pop) → reverse (right_of x pop) ≡ right_of x pop
right_back x (AtLeft y a) = refl
right_back x (AtRight y a) = one_back (eqb y x) a

-- the pops gone through from the last on give their letters in reverse
pub rights_back : (x : ℕ) (pops : List Pop) → flat_map (right_of x) (reverse pops) ≡ reverse (flat_map (right_of x) pops)
rights_back x [] = refl
rights_back x (pop ∷ pops) =
    ap (flat_map (right_of x)) (reverse-append (pop ∷ []) pops)
    ∙ joined-++ (right_of x) (reverse pops) (pop ∷ [])
    ∙ ap₂ (λ u v. u ++ v) (rights_back x pops) (append-nil (right_of x pop) ∙ sym (right_back x pop))
    ∙ sym (reverse-append (right_of x pop) (flat_map (right_of x) pops))

-- each pop is at the left or at the right
one_le : (t : Bool) (a : ℕ) → length (cond t (a ∷ []) []) ≤ 1
one_le true a = omega arith
one_le false a = omega arith

pub no_more_letters : (x : ℕ) (pops : List Pop) → length (flat_map (left_of x) pops) + length (flat_map (right_of x) pops) ≤ length pops
no_more_letters x [] = omega arith
no_more_letters x (AtLeft y a ∷ pops) = omega (arith, no_more_letters x pops, one_le (eqb y x) a, length-append (cond (eqb y x) (a ∷ []) []) (flat_map (left_of x) pops))
no_more_letters x (AtRight y a ∷ pops) = omega (arith, no_more_letters x pops, one_le (eqb y x) a, length-append (cond (eqb y x) (a ∷ []) []) (flat_map (right_of x) pops))
