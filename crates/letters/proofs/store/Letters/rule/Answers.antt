use Rattle.std.proofs.Common.{rules, ◌≡◌, ◌+◌, sym, ap, ◌∙◌, arith}
use Rattle.std.specs.List.{slice_get}
use Rattle.model.specs.Spelling.{rule_of}
use Rattle.model.proofs.Fitting.{rule_low}
use Rattle.letters.specs.Holding.{rules_of}
use Rattle.letters.proofs.Stored.{rule_placed}
use Rattle.letters.proofs.store.Letters.rule.Goals as goal

pub returns-in_err-place : goal.returns-in_err-place
returns-in_err-place c = c.from_residual.ensures ∙ sym (rule_low (rules_of c.args.self.now) c.args.letter (omega (arith, c.in_err-place.ensures)))

pub returns : goal.returns
returns c =
    let s = c.args.self.now in
    let i = c.in_ok-place.place in
    let read : c.copied.result ≡ slice_get s.rules i = search rules in
    let here : 26 + i ≡ c.args.letter = omega (arith, c.in_ok-place.ensures) in
    read ∙ rule_placed s.rules i ∙ ap (rule_of (rules_of s)) here
