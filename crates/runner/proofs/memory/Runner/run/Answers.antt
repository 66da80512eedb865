use Rattle.std.proofs.Common.{◌≡◌, ℕ, Ok, Err, Result, refl, ap}
use Rattle.std.proofs.lemmas.Result.{MatchResult-at_ok}
use Rattle.witness.specs.Holding.{contents_of}
use Rattle.answers.specs.declared.errors.Refused.{Refused}
use Rattle.answers.specs.declared.errors.RunError.{RunError}
use Rattle.runner.proofs.Told.{told_only, listed_told, listed_satisfies}
use Rattle.runner.proofs.memory.Runner.run.Goals as goal

-- a refusal with a text of this length
abbrev refused_with : RunError → ℕ → Result ℕ Refused
refused_with why n = Err (record { why = why; length = n })

pub returns-in-Ok-clause-answers : goal.returns-in-Ok-clause-answers
returns-in-Ok-clause-answers c = λ room.
    let d = contents_of c.answer.new.self.witness in
    let put = MatchResult-at_ok _ _ _ c.unwrap.ensures c.print.ensures in
    let is = listed_told c.args.out.now c.print.new.out c.unwrap.result d (Ok c.unwrap.result) refl put.1 in
    (Ok d, c.in-Ok.ensures, is.0, is.1)

pub returns-in-Ok-clause-only : goal.returns-in-Ok-clause-only
returns-in-Ok-clause-only c = λ other room h.
    let d = contents_of c.answer.new.self.witness in
    let put = MatchResult-at_ok _ _ _ c.unwrap.ensures c.print.ensures in
    told_only c.args.input.now c.args.out.now c.print.new.out (Ok c.unwrap.result) (Ok d) other c.in-Ok.ensures (listed_told c.args.out.now c.print.new.out c.unwrap.result d (Ok c.unwrap.result) refl put.1) h

pub returns-in-Ok-clause-sound : goal.returns-in-Ok-clause-sound
returns-in-Ok-clause-sound c = λ t d read good is.
    let own = contents_of c.answer.new.self.witness in
    let put = MatchResult-at_ok _ _ _ c.unwrap.ensures c.print.ensures in
    listed_satisfies c.args.input.now c.args.out.now c.print.new.out c.unwrap.result own d t c.in-Ok.ensures put.1 read good is

pub returns-in-Err-clause-only : goal.returns-in-Err-clause-only
returns-in-Err-clause-only c = λ other room h.
    told_only c.args.input.now c.args.out.now c.print_error.new.out _ (Err c.in-Err.why) other c.in-Err.ensures (ap (refused_with c.in-Err.why) c.print_error.ensures.length, c.print_error.ensures.text) h
