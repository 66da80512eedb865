-- What a run gives of what stands, as tests that come out true. Assumes nothing.
use Rattle.std.proofs.Common.{◌≡◌, ℕ, ◌<◌, ◌≤◌, Bool, true, false, ltb, ◌⊎◌, List, [], ◌∷◌, get_or, sym, ◌∙◌, inl, inr, ⊎_elim, arith}
use mathlib.Core.Logic.{∥∥₁_elim}
use mathlib.Core.Bool.{Bool-set}
use Rattle.std.specs.List.{AllByRecursion}
use Rattle.std.proofs.lemmas.Bool.{and_parts, cases_Bool, cases_lt, cond-true, cond-false, lt-ltb, le-ltb, ltb-true}
use Rattle.model.specs.Spelling.{Word}
use Rattle.model.specs.Witnesses.{all_below, entries_fit, rules_fit}
use Rattle.model.proofs.Entries.{below_parts}
use Rattle.systems.specs.Invariants.{WellFormed}
use Rattle.systems.specs.Runs.{Load, loaded, opened}
use Rattle.systems.specs.Sides.{stands_in}
use Rattle.systems.specs.Standings.{Standing, fresh, live, popped_word}
use Rattle.systems.proofs.Forming.{opened_formed, runs_are_well_formed}
use Rattle.systems.proofs.Whole.{popped_below}
use Rattle.writing.proofs.Limited.{live_low}
use Rattle.guarantee.specs.Closing.{entries}
use Rattle.guarantee.proofs.Witnesses.{below_all, witness_valid}
use Rattle.checker.specs.Holding.{marked}
use Rattle.checker.specs.Running.{SomeRun}

-- what is so of all that is well formed, if it can be tested, is so where some run led
tested : (S : Standing) (flags : List Bool) (t : Bool) → SomeRun S flags → (WellFormed S → t ≡ true) → t ≡ true
tested S flags t some so = ∥∥₁_elim some (Bool-set t true) (λ h. so (runs_are_well_formed h.0 h.1 S h.2.reaches))

-- live variables are A to Z
pub low_where_live : (S : Standing) (flags : List Bool) → SomeRun S flags → (x : ℕ) → live S x ≡ true → x < 26
low_where_live S flags some x alive = ltb-true x 26 (tested S flags (ltb x 26) some (λ formed. lt-ltb x 26 (live_low S formed x alive)))

-- the letters of a popped word are known
below_each : (k : ℕ) (w : Word) → all_below k w ≡ true → AllByRecursion (λ a. a < k) w
below_each k [] h = tt
below_each k (a ∷ w) h = let p = below_parts k a w h in (p.0, below_each k w p.1)

pub each_known : (S : Standing) (flags : List Bool) → SomeRun S flags → (x : ℕ) → AllByRecursion (λ a. a < fresh S) (popped_word S x)
each_known S flags some x = below_each (fresh S) (popped_word S x) (tested S flags (all_below (fresh S) (popped_word S x)) some (λ formed. below_all (fresh S) (popped_word S x) (popped_below S formed x)))

-- the words fit behind one another
pub words_fit : (S : Standing) (flags : List Bool) → SomeRun S flags → (system : ℕ → Bool) → entries_fit S.rules (entries system S 26) ≡ true
words_fit S flags some system =
    tested S flags (entries_fit S.rules (entries system S 26)) some (λ formed. (and_parts (rules_fit S.rules) (entries_fit S.rules (entries system S 26)) (witness_valid system S formed)).1)

-- the variables of the system, as a function
pub same_system : (loads : List Load) (flags : List Bool) → ((x : ℕ) → x < 26 → get_or flags x false ≡ stands_in (loaded loads) x) → marked flags ≡ stands_in (loaded loads)
same_system loads flags is = λ i x. same x i
  where
    past : (x : ℕ) → 26 ≤ x → (stands_in (loaded loads) x ≡ true) ⊎ (stands_in (loaded loads) x ≡ false) → stands_in (loaded loads) x ≡ false
    past x le (inl of) = let low = live_low (opened loads) (opened_formed loads) x of in absurd (omega arith)
    past x le (inr other) = other

    same : (x : ℕ) → marked flags x ≡ stands_in (loaded loads) x
    same x = ⊎_elim (λ low. cond-true (ltb x 26) (get_or flags x false) false (lt-ltb x 26 low) ∙ is x low) (λ le. cond-false (ltb x 26) (get_or flags x false) false (le-ltb x 26 le) ∙ sym (past x le (cases_Bool (stands_in (loaded loads) x)))) (cases_lt x 26)
