use Rattle.std.proofs.Common.{Some, sym, ap, ◌∙◌}
use Rattle.std.proofs.lemmas.Result.{err_from_is_err_and}
use Rattle.systems.specs.Sides.{sides}
use Rattle.sides.specs.Holding.{only}
use Rattle.writing.specs.Refusals.{given}
use Rattle.writing.proofs.Given.{sides_filled, too_many_letters}
use Rattle.given.proofs.Judging.{judged_result, not_given, words}
use Rattle.given.specs.Reading.{Begun}
use Rattle.given.proofs.reading.start.Goals as goal

pub returns-in_err-judge_words : goal.returns-in_err-judge_words
returns-in_err-judge_words c =
    let p = err_from_is_err_and c.from_residual.result c.from_residual.ensures.1 in
    rw (p.1, p.2) (not_given c.args.sides.now c.args.given.now.buffer.now c.args.given.now.spans c.variables-system.result c.variables-system.ensures c.in_err-judge_words.field-0.0 c.in_err-judge_words.ensures)

pub returns-in_err-fill_all : goal.returns-in_err-fill_all
returns-in_err-fill_all c =
    let E = c.args.sides.now in
    let buffer = c.args.given.now.buffer.now in
    let spans = c.args.given.now.spans in
    let p = err_from_is_err_and c.from_residual-in_err-fill_all.result c.from_residual-in_err-fill_all.ensures.1 in
    rw (p.1, p.2) (too_many_letters (only E) buffer spans (words E buffer spans c.variables-system.result c.variables-system.ensures c.in_ok-judge_words.ensures) c.in_err-fill_all.ensures.1 ∙ ap Some (sym c.in_err-fill_all.ensures.0))

pub returns : goal.returns
returns c =
    let E = c.args.sides.now in
    let buffer = c.args.given.now.buffer.now in
    let spans = c.args.given.now.spans in
    let made = c.in_ok-fill_all.ensures in
    judged_result E buffer spans c.variables-system.result c.variables-system.ensures c.in_ok-judge_words.ensures (Begun E buffer spans c.fill_all.new.left) c.filled.result.now (c.filled.ensures ∙ made.1) c.judge_filled.result c.judge_filled.ensures
    (record { words = made.0; filled = ap sides made.1 ∙ sides_filled (given (only E) buffer spans) E; next = made.2 })
