use Rattle.std.proofs.Common.{◌≡◌, ◌≤◌, length, sym, ap, ◌∙◌, inr, arith}
use Rattle.witness.specs.Holding.{contents_of}
use Rattle.tables.specs.Lines.{lines_of}
use Rattle.runner.specs.Passing.{Starts}
use Rattle.runner.proofs.Told.{weaker}
use Rattle.runner.proofs.running.carry.Goals as goal

pub returns-in-Ok : goal.returns-in-Ok
returns-in-Ok c =
    let all = lines_of c.args.input.now in
    let starts : Starts all c.new-reader.result = record { lines = sym c.new-reader.ensures.left; count = c.new-reader.ensures.line; stage = c.new-reader.ensures.stage } in
    let read = c.in-Ok.ensures all starts c.requires.new in
    let short : length c.args.input.now ≤ 32768 = omega arith in
    let kind = c.kind.ensures in
    weaker c.choose_and_close-answer.result _ _ _ _ (λ u h. inr (short, h)) (λ why h. inr (short, h))
    (c.choose_and_close-answer.ensures all read.0 read.1 read.2 (c.open-check.ensures.run read.0 read.4) (ap (λ k. k.least) kind ∙ read.3.kind_least ∙ read.3.least) (ap (λ k. k.most) kind ∙ read.3.kind_most ∙ read.3.most) c.requires.room)
