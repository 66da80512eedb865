use Rattle.std.proofs.Common.{◌≡◌, sym, arith, rules}
use Rattle.std.proofs.lemmas.Iterator.{IsFirst-from_position, YieldsList-from_slice}
use Rattle.std.proofs.lemmas.Option.{MatchOption-at_some, MatchOption-at_none}
use Rattle.text.proofs.Parts.{cut_at, free_from, free_front}
use Rattle.text.proofs.take_field.Goals as goal

pub returns-in_err-at : goal.returns-in_err-at
returns-in_err-at c =
    let line = c.args.line.now in
    let end = c.args.end in
    let found = IsFirst-from_position _ _ c.position.result (λ b. b ≡ end) (λ b. b ≡ end → ⊥) c.position.ensures.ran (YieldsList-from_slice line cc) (λ x q k. search rules) (λ x q k. search rules) in
    let none = MatchOption-at_none _ _ c.in_err-at.was found in
    rw c.from_residual.ensures (free_from end line (λ k lt is. none k 0 (omega arith) lt is))

pub returns : goal.returns
returns c =
    let line = c.args.line.now in
    let end = c.args.end in
    let found = IsFirst-from_position _ _ c.position.result (λ b. b ≡ end) (λ b. b ≡ end → ⊥) c.position.ensures.ran (YieldsList-from_slice line cc) (λ x q k. search rules) (λ x q k. search rules) in
    let first = MatchOption-at_some _ _ _ c.in_ok-at.was found in
    (free_front line c.in_ok-at.at end (omega (arith, first.0)) (λ k lt is. first.2 k 0 (omega arith) lt is), sym (cut_at line c.in_ok-at.at end first.0 (first.1 0)))
