-- What a close says of the lines that led to it. Assumes nothing.
use Rattle.std.proofs.Common.{◌≡◌, ℕ, List, length, Some, None, Ok, Err, Option, Result, MatchResult, cond, is_some, sym, refl, ap, ◌∙◌, subst}
use Rattle.std.specs.Result.{IsErrAnd, result_err}
use Rattle.model.specs.Witnesses.{Contents}
use Rattle.systems.specs.declared.Choice.{Choice}
use Rattle.systems.specs.Runs.{Load, loaded}
use Rattle.systems.specs.Sides.{stands_in}
use Rattle.checker.specs.declared.store.Check.{Check}
use Rattle.checker.specs.Ending.{closed}
use Rattle.checker.specs.Holding.{CameBy, standing, system_of}
use Rattle.checker.proofs.Formed.{same_system}
use Rattle.guarantee.specs.declared.CloseRefusal.{CloseRefusal}
use Rattle.guarantee.specs.Closing.{Closed, close, close_refusal, witness}
use Rattle.length.specs.declared.value.Capped.{Capped}
use Rattle.text.specs.Pieces.{Bytes}
use Rattle.tables.specs.declared.types.Limit.{Limit}
use Rattle.answers.specs.declared.errors.RunError.{RunError}
use Rattle.answers.specs.declared.errors.RunError.TheVariants.{Close}
use Rattle.answers.specs.Answers.{Accepted, AllTaken, Refused, closes}
use Rattle.answers.specs.Limits.{leasts, length_meaning, mosts}
use Rattle.runner.specs.Passing.{ThirdRead}

-- the same close, of the system that was loaded and the limits that were read
close_is : (least most : List ℕ) (rows : List Limit) (equations : List Load) (choices : List Choice) (check : Check) (room : ℕ) → least ≡ leasts rows → most ≡ mosts rows → CameBy equations choices check → room ≡ 538 →
    close_refusal (length_meaning least most) (system_of check) (standing check) room ≡ closes equations rows (standing check)
close_is least most rows es cs check room hl hm came full =
    let same = same_system es check.system came.variables_of_system in
    λ i. close_refusal (length_meaning (hl i) (hm i)) (same i) (standing check) (full i)

all_taken : (all : List Bytes) (rows : List Limit) (equations : List Load) (choices : List Choice) (check : Check) → ThirdRead all equations rows choices → CameBy equations choices check → AllTaken all equations rows choices (standing check)
all_taken all rows es cs check third came = record { are = third.read; taken = third.taken; reaches = came.reaches }

pub close_told : (all : List Bytes) (least most : List ℕ) (rows : List Limit) (equations : List Load) (choices : List Choice) (check : Check) (table left : List Capped) (old new : Contents) (r : Result (Unit {0}) CloseRefusal) (q : Result (Unit {0}) RunError) →
    ThirdRead all equations rows choices → CameBy equations choices check → least ≡ leasts rows → most ≡ mosts rows → length table ≡ 538 →
    closed (result_err r) left new ≡ close (length_meaning least most) (system_of check) (standing check) table old →
    MatchResult r (λ x. q ≡ Ok x) (λ why. IsErrAnd q (λ f. f ≡ Close why)) →
    MatchResult q (λ _. Accepted all new) (Refused all)
close_told all least most rows es cs check table left old new (Ok u) q third came hl hm full answer told =
    let is : None ≡ close_refusal (length_meaning least most) (system_of check) (standing check) (length table) = ap (λ c. c.answer) answer in
    let none : closes es rows (standing check) ≡ None = sym (close_is least most rows es cs check (length table) hl hm came full) ∙ sym is in
    let written : new ≡ cond (is_some (close_refusal (length_meaning least most) (system_of check) (standing check) (length table))) old (witness (system_of check) (standing check)) = ap (λ c. c.written) answer in
    let same = same_system es check.system came.variables_of_system in
    subst (λ p. MatchResult p (λ _. Accepted all new) (Refused all)) (sym told)
    (es, rows, cs, standing check, all_taken all rows es cs check third came, none, written ∙ ap (λ o. cond (is_some o) old (witness (system_of check) (standing check))) (sym is) ∙ ap (λ f. witness f (standing check)) same)
close_told all least most rows es cs check table left old new (Err why) (Ok x) third came hl hm full answer told = absurd told
close_told all least most rows es cs check table left old new (Err why) (Err f) third came hl hm full answer told =
    let is : Some why ≡ close_refusal (length_meaning least most) (system_of check) (standing check) (length table) = ap (λ c. c.answer) answer in
    subst (Refused all) (sym told) (es, rows, cs, standing check, all_taken all rows es cs check third came, sym (close_is least most rows es cs check (length table) hl hm came full) ∙ sym is)
