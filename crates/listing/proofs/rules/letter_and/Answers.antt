use Rattle.std.proofs.Common.{rules}
use Rattle.text.proofs.Cuts.{no_cut}
use Rattle.text.specs.Names.{letter_name}
use Rattle.listing.proofs.RuleLines.{same_rest}
use Rattle.listing.proofs.rules.letter_and.Goals as goal

pub returns-in_err-name : goal.returns-in_err-name
returns-in_err-name g c = rw c.from_residual.ensures (λ a rest lt e. absurd (no_cut 32 c.args.line.now (letter_name a) rest c.in_err-name.ensures e))

pub returns-in_err-letter : goal.returns-in_err-letter
returns-in_err-letter g c =
    let cut = c.in_ok-name.ensures in
    rw c.from_residual-in_err-letter.ensures (λ a rest lt e. absurd (c.in_err-letter.ensures a lt (same_rest c.args.line.now _ _ a rest cut.0 cut.1 lt e).0))

pub returns-in_err-read : goal.returns-in_err-read
returns-in_err-read g c =
    let cut = c.in_ok-name.ensures in
    rw c.from_residual-in_err-read.ensures (λ a rest lt e. (c.in_ok-name.rest, search rules, (same_rest c.args.line.now _ _ a rest cut.0 cut.1 lt e).1))
