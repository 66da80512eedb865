use Rattle.std.proofs.Common.{◌<◌, length, arith, refl, rules, ap, ◌∙◌}
use Rattle.tables.specs.Lines.{lines_of}
use Rattle.tables.proofs.Texts.{lines_cons, lines_last}
use Rattle.tables.proofs.reader.Reader.next_line.Goals as goal

pub returns-in-Some : goal.returns-in-Some
returns-in-Some c =
    let cut = c.in-Some.ensures in
    (ap lines_of cut.1 ∙ lines_cons c.in-Some.line.now c.in-Some.after.now cut.0, refl, refl)

pub returns-in-None : goal.returns-in-None
returns-in-None c =
    let some : 0 < length c.args.self.now.rest.now = search rules in
    (lines_last c.args.self.now.rest.now c.in-None.ensures some, refl, refl)
