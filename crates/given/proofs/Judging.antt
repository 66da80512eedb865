-- What is judged of the words and of the filled-in sides is the refusal that is due. Assumes nothing.
use Rattle.std.proofs.Common.{◌≡◌, ℕ, ◌<◌, Bool, true, List, Some, None, Option, Ok, Err, Result, MatchResult, sym, ap, ◌∙◌, subst, arith}
use Rattle.std.specs.List.{AllByRecursion}
use Rattle.std.specs.Result.{result_err}
use Rattle.systems.specs.Sides.{Equation, SameSides, Words, on_sides, places, stands_in}
use Rattle.sides.specs.Holding.{only}
use Rattle.writing.specs.declared.Span.{Span}
use Rattle.writing.specs.declared.WriteRefusal.{WriteRefusal}
use Rattle.writing.specs.declared.WriteRefusal.TheVariants.{ShortList, NoWord, TooManyLetters, NoSolution}
use Rattle.writing.specs.Refusals.{span_of, is_word, given, write_refusal}
use Rattle.writing.proofs.Given.{all_filled, no_refusal, no_solution, no_word, places_filled, same_solve, solve_same, too_many_letters}
use Rattle.given.specs.Reading.{FirstNotGiven, Judged, Marked, WordsGiven}

module _ (E : List Equation) (buffer : List ℕ) (spans : List Span) (system : List Bool) (marked : Marked system E) where
  abbrev τ : Words
  τ = given (only E) buffer spans

  pub not_given : (why : WriteRefusal) → FirstNotGiven system buffer spans why → write_refusal (only E) buffer spans 1050 ≡ Some why
  not_given why (x, is, h) =
      let low : x < 26 = h.0 in
      let here : stands_in E x ≡ true = sym (marked x low) ∙ h.1 in
      no_word (only E) buffer spans x low here h.2 (λ y less e. h.3 y less (marked y (omega arith) ∙ e)) ∙ ap Some (sym is)

  module _ (given_all : WordsGiven system buffer spans) where
    pub words : (x : ℕ) → x < 26 → stands_in E x ≡ true → is_word buffer (span_of spans x) ≡ true
    words x lt alive = given_all x lt (marked x lt ∙ alive)

    pub judged : (F : List Equation) → F ≡ on_sides (all_filled τ) E → (o : Option WriteRefusal) → Judged F o → write_refusal (only E) buffer spans 1050 ≡ o
    judged F is None h = no_refusal (only E) buffer spans words (omega (arith, h.0, ap places is, places_filled τ E)) (same_solve τ E (subst (AllByRecursion SameSides) is h.1))
    judged F is (Some ShortList) h = absurd h
    judged F is (Some (NoWord x)) h = absurd h
    judged F is (Some TooManyLetters) h = too_many_letters (only E) buffer spans words (omega (arith, h, ap places is, places_filled τ E))
    judged F is (Some NoSolution) h = no_solution (only E) buffer spans words (omega (arith, h.0, ap places is, places_filled τ E)) (λ solves. h.1 (subst (AllByRecursion SameSides) (sym is) (solve_same τ E solves)))

    -- the same of what the judging answers
    pub judged_result : {U : Type 0} (P : Type 0) (F : List Equation) → F ≡ on_sides (all_filled τ) E → (r : Result U WriteRefusal) → Judged F (result_err r) → P → MatchResult r (λ _. (write_refusal (only E) buffer spans 1050 ≡ None) × P) (λ e. write_refusal (only E) buffer spans 1050 ≡ Some e)
    judged_result P F is (Ok u) h p = (judged F is None h, p)
    judged_result P F is (Err why) h p = judged F is (Some why) h
