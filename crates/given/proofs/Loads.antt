-- What some loads give of a system, and what is left before the first choice. Assumes nothing.
use Rattle.std.proofs.Common.{◌≡◌, ℕ, ◌<◌, ◌≤◌, true, List, length, Some, None, Ok, Err, Result, MatchResult, sym, ap, ◌∙◌, subst, arith, lit≤}
use mathlib.Core.Bool.{Bool-set}
use mathlib.Core.Logic.{∥∥₁_elim}
use Rattle.std.proofs.lemmas.Bool.{eq-eqb, eqb-true, le-leb, leb-true, lt-ltb, ltb-true}
use Rattle.systems.specs.Runs.{opened}
use Rattle.systems.specs.Sides.{Equation, places}
use Rattle.systems.specs.Standings.{Standing, fresh, live, new}
use Rattle.systems.proofs.Forming.{opened_bare, opened_formed}
use Rattle.sides.specs.Holding.{only}
use Rattle.writing.specs.declared.Span.{Span}
use Rattle.writing.specs.declared.WriteRefusal.{WriteRefusal}
use Rattle.writing.specs.Refusals.{given, write_refusal}
use Rattle.writing.specs.Writer.{beside}
use Rattle.writing.proofs.Final.{few_loaded}
use Rattle.writing.proofs.Limited.{live_low}
use Rattle.leftover.specs.declared.store.Leftover.{Leftover}
use Rattle.leftover.specs.Left.{Leaves}
use Rattle.given.specs.Reading.{Begun}
use Rattle.checker.specs.Running.{SomeLoads}

pub some_few : (S : Standing) → SomeLoads S → places S.equations ≤ 1024
some_few S some =
    leb-true (places S.equations) 1024
    (∥∥₁_elim some (Bool-set _ _) (λ h. le-leb (places S.equations) 1024 (subst (λ T. places T.equations ≤ 1024) (sym h.1) (few_loaded h.0 new (lit≤ tt)))))

pub some_low : (S : Standing) → SomeLoads S → (x : ℕ) → live S x ≡ true → x < 26
some_low S some x alive = ltb-true x 26 (∥∥₁_elim some (Bool-set _ _) (λ h. lt-ltb x 26 (live_low (opened h.0) (opened_formed h.0) x (subst (λ T. live T x ≡ true) h.1 alive))))

pub some_bare : (S : Standing) → SomeLoads S → fresh S ≡ 26
some_bare S some =
    eqb-true (fresh S) 26
    (∥∥₁_elim some (Bool-set _ _) (λ h.
    let none : length S.rules ≡ 0 = ap (λ T. length T.rules) h.1 ∙ ap (λ T. length T.rules) (sym (opened_bare h.0)) in
    eq-eqb (fresh S) 26 (omega (arith, none))))

module _ (buffer : List ℕ) (spans : List Span) where
  -- what is read of some equations
  abbrev pub Read : List Equation → Leftover → Type 0
  Read E r = (write_refusal (only E) buffer spans 1050 ≡ None) × Begun E buffer spans r

  leaves_at : (S : Standing) (E : List Equation) (r : Leftover) → SomeLoads S → E ≡ S.equations → Read E r → (write_refusal S buffer spans 1050 ≡ None) × Leaves r (beside S (given S buffer spans))
  leaves_at S E r some is read =
      let here : Read S.equations r = subst (λ F. Read F r) is read in
      (here.0, record { words = here.1.words; all = r.long; filled = here.1.filled; next = here.1.next ∙ sym (some_bare S some) })

  -- so is what is answered of a system
  pub answer_at : {U : Type 0} (S : Standing) (E : List Equation) (r : Leftover) → SomeLoads S → E ≡ S.equations → (o : Result U WriteRefusal) → MatchResult o (λ _. Read E r) (λ e. write_refusal (only E) buffer spans 1050 ≡ Some e) → MatchResult o (λ _. (write_refusal S buffer spans 1050 ≡ None) × Leaves r (beside S (given S buffer spans))) (λ e. write_refusal S buffer spans 1050 ≡ Some e)
  answer_at S E r some is (Ok u) read = leaves_at S E r some is read
  answer_at S E r some is (Err why) h = subst (λ F. write_refusal (only F) buffer spans 1050 ≡ Some why) is h
