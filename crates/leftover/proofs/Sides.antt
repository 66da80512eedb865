-- Blocks of no letter in sides. Assumes nothing.
use Rattle.std.proofs.Common.{◌≡◌, ℕ, Bool, true, false, cond, eqb, List, [], ◌∷◌, sym, refl, ap}
use Rattle.systems.specs.Sides.{Equation, on_sides, side_blocks}

unchanged : (E : List Equation) → on_sides (λ s. s) E ≡ E
unchanged [] = refl
unchanged (e ∷ E) = ap (λ F. e ∷ F) (unchanged E)

pub blocks_or_none : (a n c : ℕ) (E : List Equation) → cond (eqb n 0) E (on_sides (side_blocks a n c) E) ≡ on_sides (λ s. cond (eqb n 0) s (side_blocks a n c s)) E
blocks_or_none a n c E = go (eqb n 0)
  where
    go : (none : Bool) → cond none E (on_sides (side_blocks a n c) E) ≡ on_sides (λ s. cond none s (side_blocks a n c s)) E
    go true = sym (unchanged E)
    go false = refl
