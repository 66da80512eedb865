use Rattle.std.proofs.Common.{rules, ◌≡◌, ◌+◌, length, Some, sym, ap, ◌∙◌, arith}
use Rattle.std.specs.List.{slice_get}
use Rattle.model.proofs.Spelling.{spell_low}
use Rattle.letters.specs.Holding.{length_of, rules_of}
use Rattle.letters.proofs.Judging.{length_known}
use Rattle.letters.proofs.Stored.{length_placed}
use Rattle.letters.proofs.store.Letters.length.Goals as goal

pub returns-in-None : goal.returns-in-None
returns-in-None c =
    let s = c.args.self.now in
    sym (length_known (rules_of s) c.args.letter (omega (arith, c.in-None.ensures)) ∙ ap (λ w. Some (length w)) (spell_low (rules_of s) c.args.letter (omega (arith, c.in-None.ensures))))

pub returns-in-Some : goal.returns-in-Some
returns-in-Some c =
    let s = c.args.self.now in
    let i = c.in-Some.place in
    let read : c.copied.result ≡ slice_get s.lengths i = search rules in
    let here : 26 + i ≡ c.args.letter = omega (arith, c.in-Some.ensures) in
    read ∙ length_placed s.rules s.lengths i s.level s.measured ∙ ap (length_of (rules_of s)) here
