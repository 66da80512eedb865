use Rattle.std.proofs.Common.{ap, ◌∙◌}
use Rattle.std.proofs.lemmas.List.{take_all}
use Rattle.witness.specs.Holding.{contents_of}
use Rattle.checker.specs.Popped.{lengthened_by, with_entries}
use Rattle.checker.proofs.Adding.{letter_free, letter_turn, ok_taken}
use Rattle.checker.proofs.output.add_letters.Goals as goal

pub unwrap-requires : goal.unwrap-requires
unwrap-requires c =
    ok_taken c.push_letter.result _ _ _
    (letter_free (contents_of c.args.witness.now) (contents_of c.loop-letter.witness) c.args.word.now c.loop-letter.letter-index c.loop-letter-test.true c.requires.started c.requires.below c.requires.room c.loop-letter.invariant)
    c.push_letter.ensures

pub loop-letter-preserved : goal.loop-letter-preserved
loop-letter-preserved c =
    letter_turn (contents_of c.args.witness.now) (contents_of c.loop-letter.witness) (contents_of c.push_letter.new.self) c.args.word.now c.loop-letter.letter-index c.push_letter.result c.loop-letter-test.true
    c.requires.started c.requires.below c.requires.room c.loop-letter.invariant c.push_letter.ensures

pub returns : goal.returns
returns c =
    let old = contents_of c.args.witness.now in
    c.loop-letter.invariant ∙ ap (λ w. with_entries old (lengthened_by w old.entries)) (take_all c.loop-letter.letter-index c.args.word.now c.loop-letter-test.false)
