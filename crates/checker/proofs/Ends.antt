-- The first live variable and the first equation whose sides differ, found and as they are defined. Assumes nothing.
use Rattle.std.proofs.Common.{◌≡◌, ℕ, zero, suc, ◌+◌, ◌-◌, ◌<◌, ◌≤◌, Bool, true, false, ltb, ◌⊎◌, List, [], ◌∷◌, length, get_or, take, Some, None, Option, sym, ap, ◌∙◌, ap₂, inl, inr, arith}
use Rattle.std.specs.Option.{option_map}
use Rattle.std.specs.List.{AllByRecursion}
use Rattle.std.proofs.lemmas.Bool.{cases_Bool, cond-true, cond-false, le-ltb, lt-ltb}
use Rattle.systems.specs.Sides.{Equation, SameSides}
use Rattle.systems.specs.Standings.{Standing, fresh, live}
use Rattle.sides.specs.Seeking.{First, FirstUnequal}
use Rattle.writing.specs.Writer.{first, variables}
use Rattle.writing.proofs.First.{first_found, none_found}
use Rattle.guarantee.specs.declared.CloseRefusal.{CloseRefusal}
use Rattle.guarantee.specs.declared.CloseRefusal.TheVariants.{SmallTable, StillLive, SidesDiffer}
use Rattle.guarantee.specs.Closing.{first_differing, or_else, same_side}
use Rattle.guarantee.proofs.Judging.{no_difference, side_itself, side_same}
use Rattle.checker.specs.Ending.{reasons}

-- it is the first of all numbers, where that is one of them
pub first_is : (p : ℕ → Bool) → ((x : ℕ) → p x ≡ true → x < 26) → (o : Option ℕ) → First o p → first p variables ≡ o
first_is p low None none = none_found p (λ y lt. none y)
first_is p low (Some x) h = first_found p x (low x h.0) h.0 h.1

-- the first equation whose sides differ, where the first has the number i
differs : (e : Equation) → (SameSides e → ⊥) → same_side e.0 e.1 ≡ false
differs e other = split (cases_Bool (same_side e.0 e.1))
  where
    split : (same_side e.0 e.1 ≡ true) ⊎ (same_side e.0 e.1 ≡ false) → same_side e.0 e.1 ≡ false
    split (inl same) = absurd (other (side_same e.0 e.1 same))
    split (inr is) = is

differing_at : (E : List Equation) (i k : ℕ) → k < length E → AllByRecursion SameSides (take k E) → (SameSides (get_or E k ([], [])) → ⊥) → first_differing i E ≡ Some (i + k)
differing_at [] i k lt same other = absurd (omega arith)
differing_at (e ∷ E) i zero lt same other = cond-false (same_side e.0 e.1) (first_differing (suc i) E) (Some i) (differs e other) ∙ ap Some (omega arith)
differing_at (e ∷ E) i (suc k) lt same other =
    cond-true (same_side e.0 e.1) (first_differing (suc i) E) (Some i) (ap (same_side e.0) (sym same.0) ∙ side_itself e.0) ∙
    differing_at E (suc i) k (omega arith) same.1 other ∙ ap Some (omega arith)

pub differing_is : (E : List Equation) (o : Option ℕ) → FirstUnequal o E → first_differing 1 E ≡ o
differing_is E None same = no_difference 1 E same
differing_is E (Some k) h = differing_at E 1 (k - 1) (omega (arith, h.0, h.1)) h.2 h.3 ∙ ap Some (omega (arith, h.0))

-- which of the reasons before the measure comes first
module _ (S : Standing) (room : ℕ) where
  pub by_room : room < fresh S → (later : Option CloseRefusal) → reasons S room later ≡ Some SmallTable
  by_room short later = cond-true (ltb room (fresh S)) _ _ (lt-ltb room (fresh S) short)

  module _ (fits : fresh S ≤ room) (o : Option ℕ) (lives : first (live S) variables ≡ o) where
    past_room : (later : Option CloseRefusal) → reasons S room later ≡ or_else (option_map StillLive o) (or_else (option_map SidesDiffer (first_differing 1 S.equations)) later)
    past_room later =
        cond-false (ltb room (fresh S)) _ _ (le-ltb room (fresh S) fits) ∙ ap (λ l. or_else (option_map StillLive l) (or_else (option_map SidesDiffer (first_differing 1 S.equations)) later)) lives

    pub by_live : (x : ℕ) → o ≡ Some x → (later : Option CloseRefusal) → reasons S room later ≡ Some (StillLive x)
    by_live x is later = past_room later ∙ ap (λ l. or_else (option_map StillLive l) (or_else (option_map SidesDiffer (first_differing 1 S.equations)) later)) is

    pub by_sides : (k : Option ℕ) → o ≡ None → first_differing 1 S.equations ≡ k → (later : Option CloseRefusal) → reasons S room later ≡ or_else (option_map SidesDiffer k) later
    by_sides k none differ later = past_room later ∙ ap₂ (λ l d. or_else (option_map StillLive l) (or_else (option_map SidesDiffer d) later)) none differ
