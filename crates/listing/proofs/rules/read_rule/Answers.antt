use Rattle.std.proofs.Common.{◌≡◌, ◌^◌, length, Some, None, ap, arith}
use Rattle.std.proofs.lemmas.List.{length-reverse}
use Rattle.model.specs.Spelling.{known}
use Rattle.format.specs.Bounds.{Within}
use Rattle.witness.specs.Holding.{contents_of}
use Rattle.listing.specs.Lines.{rule_text}
use Rattle.listing.proofs.RuleLines.{reads_and, no_line, other_letter, adds}
use Rattle.listing.proofs.rules.read_rule.Goals as goal

pub returns-in_err-made : goal.returns-in_err-made
returns-in_err-made c = rw c.from_residual.ensures (no_line (contents_of c.args.witness.now) c.args.line.now (reads_and (Within 538 (2 ^ 32)) rule_text c.args.line.now None c.in_err-made.ensures))

pub returns-then-from-rules : goal.returns-then-from-rules
returns-then-from-rules c =
    other_letter (contents_of c.args.witness.now) c.args.line.now (c.in_ok-made.made, c.in_ok-made.rule) (reads_and (Within 538 (2 ^ 32)) rule_text c.args.line.now (Some (c.in_ok-made.made, c.in_ok-made.rule)) c.in_ok-made.ensures)
    (λ is. omega (arith, c.if-from-rules.true, c.from.ensures, is, length-reverse c.rules.result.now, ap length c.rules.ensures))

pub returns : goal.returns
returns c =
    let d = contents_of c.args.witness.now in
    let is : c.in_ok-made.made ≡ known d.rules = omega (arith, c.from.ensures, c.if-from-rules.false, length-reverse c.rules.result.now, ap length c.rules.ensures) in
    let reads = reads_and (Within 538 (2 ^ 32)) rule_text c.args.line.now (Some (c.in_ok-made.made, c.in_ok-made.rule)) c.in_ok-made.ensures in
    rw c.ok.ensures.value (adds d (contents_of c.add_rule.new.self) c.args.line.now (c.in_ok-made.made, c.in_ok-made.rule) c.add_rule.result reads is c.add_rule.ensures.outcome)
