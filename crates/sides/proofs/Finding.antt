-- What noting the variables one mark after another gives. Assumes nothing.
use Rattle.std.proofs.Common.{◌≡◌, ℕ, ◌<◌, Bool, true, false, ◌||◌, eqb, ◌≢◌, List, length, get_or, set, Some, None, sym, refl, ap, ◌∙◌, ⊎_elim}
use Rattle.std.proofs.Math.Bool.{or_assoc, or-false}
use Rattle.std.proofs.lemmas.List.{get_or-set_same, get_or-set_other}
use Rattle.std.proofs.lemmas.Bool.{cases_Bool, ne_eqb, eqb-true, eqb-false, or_right}
use Rattle.systems.specs.declared.Place.TheVariants.{Letter, Variable}
use Rattle.systems.specs.Sides.{is_variable}
use Rattle.sides.specs.declared.mark.Mark.{Mark}
use Rattle.sides.specs.declared.mark.Mark.TheVariants.{End, At}
use Rattle.sides.specs.Marks.{lifted}
use Rattle.sides.specs.Seeking.{any_variable_at}

-- a variable that is found stands there
pub at_some : (m : Mark) (x : ℕ) → Some x ≡ any_variable_at m → m ≡ At (Variable x)
at_some End x e = cc
at_some (At (Letter a)) x e = cc
at_some (At (Variable y)) x e = cc

-- and no other does
pub at_other : (m : Mark) (x y : ℕ) → Some x ≡ any_variable_at m → y ≢ x → lifted (is_variable y) m ≡ false
at_other End x y e ne = refl
at_other (At (Letter a)) x y e ne = refl
at_other (At (Variable z)) x y e ne = ne_eqb y z (λ d. ne cc)

-- where none is found, none stands
pub at_none : (m : Mark) (y : ℕ) → None ≡ any_variable_at m → lifted (is_variable y) m ≡ false
at_none End y e = refl
at_none (At (Letter a)) y e = refl
at_none (At (Variable x)) y e = cc

-- what is noted at one more mark
pub noted : (found : List Bool) (x y : ℕ) → x < length found → get_or (set found x true) y false ≡ (get_or found y false || eqb y x)
noted found x y lt =
    ⊎_elim
    (λ (is : eqb y x ≡ true).
    let same : y ≡ x = eqb-true y x is in
    ap (λ z. get_or (set found x true) z false) same ∙ get_or-set_same found x true false lt ∙ sym (or_right (get_or found y false) (eqb y x) is))
    (λ (is : eqb y x ≡ false).
    let other : y ≢ x = eqb-false y x is in
    get_or-set_other found x y true false other ∙ sym (or-false (get_or found y false)) ∙ ap (λ b. get_or found y false || b) (sym is))
    (cases_Bool (eqb y x))

-- what was noted and what is left make the whole
pub found_more : (old new here rest left whole : Bool) → new ≡ (old || here) → left ≡ (here || rest) → (old || left) ≡ whole → (new || rest) ≡ whole
found_more old new here rest left whole note step inv = ap (λ b. b || rest) note ∙ or_assoc old here rest ∙ ap (λ b. old || b) (sym step) ∙ inv
