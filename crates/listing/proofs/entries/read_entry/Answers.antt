use Rattle.std.proofs.Common.{◌≡◌, Ok, sym, refl, ◌∙◌, subst, arith}
use Rattle.std.proofs.lemmas.Result.{MatchResult-at_ok}
use Rattle.witness.specs.Answers.{with_word}
use Rattle.witness.specs.Holding.{contents_of}
use Rattle.witness.proofs.Keeping.{always_valid}
use Rattle.listing.specs.Words.{NotWorded}
use Rattle.listing.proofs.EntryLines.{stuck_fields, stuck_word, filled, compared}
use Rattle.listing.proofs.Holding.{rules_hold}
use Rattle.listing.proofs.entries.read_entry.Goals as goal

pub returns-in_err-parts : goal.returns-in_err-parts
returns-in_err-parts c = rw c.from_residual.ensures (stuck_fields (contents_of c.args.witness.now) c.args.line.now (rules_hold c.args.witness.now) c.in_err-parts.ensures)

pub returns-in_err-read_word : goal.returns-in_err-read_word
returns-in_err-read_word c =
    let parts = c.in_ok-parts.parts in
    let ok : c.start_word.result ≡ Ok tt = grind arith in
    let start = MatchResult-at_ok _ _ _ ok c.start_word.ensures in
    let none : NotWorded (with_word parts.variable (contents_of c.args.witness.now)) parts.word.now = subst (λ x. NotWorded x parts.word.now) start.1 c.in_err-read_word.ensures in
    rw c.from_residual-in_err-read_word.ensures (stuck_word (contents_of c.args.witness.now) c.args.line.now parts.variable parts.total parts.word.now (rules_hold c.args.witness.now) c.in_ok-parts.ensures none)

pub returns : goal.returns
returns c =
    let parts = c.in_ok-parts.parts in
    let d = contents_of c.args.witness.now in
    let new = contents_of c.read_word.new.witness in
    let ok : c.start_word.result ≡ Ok tt = grind arith in
    let start = MatchResult-at_ok _ _ _ ok c.start_word.ensures in
    let read = c.in_ok-read_word.ensures in
    let f = filled d (contents_of c.start_word.new.self) new c.args.line.now parts.variable parts.total parts.word.now c.in_ok-parts.ensures start.1 read (always_valid c.read_word.new.witness) in
    let long : c.length.result ≡ Ok c.in_ok-total.total = grind arith in
    rw c.then_some.ensures (compared d c.args.line.now parts.variable parts.total read.w new c.in_ok-total.total _ (rules_hold c.args.witness.now) f (sym long ∙ c.length.ensures.answer) refl)
