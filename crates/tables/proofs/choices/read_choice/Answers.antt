use Rattle.std.proofs.Common.{refl, None, Some}
use Rattle.tables.proofs.RowLines.{at_unreadable, at_count}
use Rattle.tables.proofs.ChoiceLines.{choice_first, choice_judged}
use Rattle.tables.proofs.choices.read_choice.Goals as goal

pub returns-in_err-first : goal.returns-in_err-first
returns-in_err-first c = at_count _ _ _ _ 3 c.from_residual.ensures.1 c.in_err-first.ensures.0 (refl, c.in_err-first.ensures.1)

pub returns-in_err-verb : goal.returns-in_err-verb
returns-in_err-verb c =
    let f = c.in_ok-first.ensures in
    at_unreadable _ _ _ _ _ 0 c.from_residual-in_err-verb.ensures.1 c.in_err-verb.ensures.1 f.first_place
    (choice_first c.args.line.now c.in_ok-first.first.bytes.now c.in_ok-first.second.bytes.now c.in_ok-first.third.bytes.now f.fields (rw c.in_err-verb.ensures.0 at c.verb_of.ensures))

pub returns : goal.returns
returns c =
    let f = c.in_ok-first.ensures in
    choice_judged c.args.line.now c.in_ok-first.first.bytes.now c.in_ok-first.second c.in_ok-first.third c.in_ok-verb.verb c.read_arguments.result f.fields (rw c.in_ok-verb.ensures at c.verb_of.ensures).1 f.second_place f.third_place c.read_arguments.ensures
