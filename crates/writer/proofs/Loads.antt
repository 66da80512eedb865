-- What is put at the front of a list, where some loads led to the system. Assumes nothing.
use Rattle.std.proofs.Common.{◌≡◌, ℕ, ◌≤◌, List, length, drop, take, Some, None, Ok, Err, sym, ap, ◌∙◌, subst, arith}
use mathlib.Core.Bool.{Bool-set}
use mathlib.Core.Logic.{∥∥₁_elim, ∥∥₁_map}
use Rattle.std.proofs.lemmas.Bool.{le-leb, leb-true}
use Rattle.std.proofs.lemmas.List.{length-map}
use Rattle.model.specs.Buffers.{Put}
use Rattle.systems.specs.declared.Choice.{Choice}
use Rattle.systems.specs.Runs.{Load, loaded, opened}
use Rattle.systems.specs.Sides.{Solution, Words}
use Rattle.systems.specs.Standings.{Standing, new}
use Rattle.writing.specs.declared.ChoiceRecord.{ChoiceRecord}
use Rattle.writing.specs.declared.Span.{Span}
use Rattle.writing.specs.declared.WriteRefusal.{WriteRefusal}
use Rattle.writing.specs.Records.{choices_of, record_of, records_of}
use Rattle.writing.specs.Refusals.{given, write_refusal}
use Rattle.writing.specs.Theorems.{StandInBuffer, Written, start}
use Rattle.writing.specs.Writer.{State, Writes, beside}
use Rattle.writing.specs.Counts.{side_letters, weight}
use Rattle.writing.proofs.Alike.{given_written}
use Rattle.writing.proofs.Final.{holds_first, light_first, list_written}
use Rattle.writing.proofs.Limited.{Holds}
use Rattle.writing.proofs.Refusing.{writer_refuses_rightly}
use Rattle.writing.specs.Turns.{list_of, turns_enough}
use Rattle.writing.proofs.Rounds.{rounds_written, turns_are_enough}
use Rattle.leftover.specs.declared.store.Leftover.{Leftover}
use Rattle.leftover.specs.Left.{Leaves}
use Rattle.writer.specs.Following.{Starts}
use Rattle.writer.specs.Solutions.{EverySolutionWritten}
use Rattle.writer.proofs.Same.{choices_back, put_known}
use Rattle.checker.specs.Running.{AfterLoads, SomeLoads}

module _ (buffer : List ℕ) (spans : List Span) where
  abbrev pub words : Standing → Words
  words S = given S buffer spans

  abbrev pub Reached : Standing → Type 0
  Reached S = Holds (words S) (beside S (words S)) × (weight (beside S (words S)) ≤ 1050)

  reached : (loads : List Load) → write_refusal (opened loads) buffer spans 1050 ≡ None → Reached (opened loads)
  reached loads none =
      let right = writer_refuses_rightly loads buffer spans 1050 in
      (holds_first loads (words (opened loads)) (right.a_solution none) (right.few_letters none), light_first loads (words (opened loads)) (right.few_letters none))

  some_reached : (S : Standing) → SomeLoads S → write_refusal S buffer spans 1050 ≡ None → ∥ Reached S ∥₁
  some_reached S some none = ∥∥₁_map some (λ h. subst Reached (sym h.1) (reached h.0 (subst (λ T. write_refusal T buffer spans 1050 ≡ None) h.1 none)))

  -- it is the list of these loads
  is_written : (loads : List Load) (S : Standing) → AfterLoads loads S → write_refusal S buffer spans 1050 ≡ None → Written loads (words S) (list_of turns_enough (beside S (words S)))
  is_written loads S run none =
      let none' : write_refusal (opened loads) buffer spans 1050 ≡ None = subst (λ T. write_refusal T buffer spans 1050 ≡ None) run none in
      let right = writer_refuses_rightly loads buffer spans 1050 in
      subst (λ T. Written loads (words T) (list_of turns_enough (beside T (words T)))) (sym run)
      (list_written loads (words (opened loads)) (right.a_solution none') (right.few_letters none'))

  -- it is not too long
  few_written : (S : Standing) → SomeLoads S → write_refusal S buffer spans 1050 ≡ None → length (list_of turns_enough (beside S (words S))) ≤ 1050
  few_written S some none =
      let list : List Choice = list_of turns_enough (beside S (words S)) in
      leb-true (length list) 1050 (∥∥₁_elim some (Bool-set _ _) (λ h. le-leb (length list) 1050 (is_written h.0 S h.1 none).at_most_1050))

  -- it is the list of the rounds
  writes : (S : Standing) → SomeLoads S → write_refusal S buffer spans 1050 ≡ None → Writes S (words S) (list_of turns_enough (beside S (words S)))
  writes S some none =
      let st : State = beside S (words S) in
      let holds : ∥ Reached S ∥₁ = some_reached S some none in
      let light : weight st ≤ 1050 = leb-true (weight st) 1050 (∥∥₁_elim holds (Bool-set _ _) (λ h. le-leb (weight st) 1050 h.1)) in
      rounds_written (words S) turns_enough st (∥∥₁_map holds (λ h. h.0)) (omega (arith, light, turns_are_enough))

  -- a solution that stands in the buffer has the same list, whatever it has for variables outside the system
  solution_written : (loads : List Load) (S : Standing) → AfterLoads loads S → (σ : Words) → Solution σ (loaded loads) → StandInBuffer loads σ buffer spans → side_letters (start loads σ) ≤ 512 → Written loads σ (list_of turns_enough (beside S (words S)))
  solution_written loads S run σ solution stand few = subst (λ T. Written loads σ (list_of turns_enough (beside T (words T)))) (sym run) (given_written loads buffer spans σ solution stand few)

  -- so where something is refused, there is no such solution
  pub none_refused : (S : Standing) (room : ℕ) (why : WriteRefusal) (list : List ChoiceRecord) → write_refusal S buffer spans 1050 ≡ Some why → EverySolutionWritten S buffer spans room (Err why) list
  none_refused S room why list due loads σ run solution stand few _ =
      let none : write_refusal S buffer spans 1050 ≡ None = subst (λ T. write_refusal T buffer spans 1050 ≡ None) (sym run) ((writer_refuses_rightly loads buffer spans 1050).no_solution_refused σ solution stand few (omega arith)) in
      absurd (let z : ◌≡◌ {A = ℕ} 0 1 = cc in omega arith)

  -- what is put at the front of a list, where the rounds begin with what is left
  pub record Outcome (S : Standing) (old new : List ChoiceRecord) (n : ℕ) : Type 0 where
    pub list : Writes S (words S) (choices_of (take n new))
    pub count : n ≤ 1050
    pub tail : drop n new ≡ drop n old
    pub writable : (loads : List Load) → AfterLoads loads S → Written loads (words S) (choices_of (take n new))
    pub solutions : (room : ℕ) → EverySolutionWritten S buffer spans room (Ok n) new

  module _ (S : Standing) (some : SomeLoads S) (r : Leftover) (begun : (write_refusal S buffer spans 1050 ≡ None) × Leaves r (beside S (words S))) where
    at_reached : Reached S → Starts (words S) r (beside S (words S))
    at_reached h = record { leaves = begun.1; holds = h.0; light = h.1 }

    pub starts : ∥ ((σ : Words) × (st : State) × Starts σ r st) ∥₁
    starts = ∥∥₁_map (some_reached S some begun.0) (λ h. (words S, beside S (words S), at_reached h))

    pub outcome : (old new : List ChoiceRecord) (n : ℕ) → ((σ : Words) (st : State) → Starts σ r st → Put old 0 (records_of (list_of turns_enough st)) new n) → Outcome S old new n
    outcome old new n put =
        let list : List Choice = list_of turns_enough (beside S (words S)) in
        let known = put_known (some_reached S some begun.0) old (records_of list) new n (λ h. put (words S) (beside S (words S)) (at_reached h)) in
        let is : list ≡ choices_of (take n new) = sym (ap choices_of known.1 ∙ choices_back list) in
        record {
          list = subst (Writes S (words S)) is (writes S some begun.0);
          count = omega (arith, known.0, few_written S some begun.0, length-map list record_of);
          tail = known.2;
          writable = λ loads run. subst (Written loads (words S)) is (is_written loads S run begun.0);
          solutions = λ room loads σ run solution stand few _. subst (Written loads σ) is (solution_written loads S run σ solution stand few);
        }
