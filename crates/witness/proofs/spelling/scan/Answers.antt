use Rattle.std.proofs.Common.{rules, ◌≡◌, ◌+◌, ◌-◌, ◌≤◌, length, get_or, drop, Some, sym, ap, ◌∙◌, arith}
use Rattle.letters.specs.Holding.{rules_of}
use Rattle.letters.proofs.Judging.{known_length, length_known}
use Rattle.model.specs.Spelling.{known, spell, spell_word}
use Rattle.model.proofs.Entries.{below_at}
use Rattle.witness.proofs.Finding.{past_letter}
use Rattle.witness.proofs.spelling.scan.Goals as goal

pub unwrap-length-requires : goal.unwrap-length-requires
unwrap-length-requires c =
    let letters = rules_of c.args.letters.now in
    let w = c.args.word.now in
    let i = c.loop-index.index in
    let known_letter = below_at (known letters) w i c.requires c.loop-index-test.true in
    let is : c.length.result ≡ Some (length (spell letters (get_or w i 0))) = c.length.ensures ∙ length_known letters (get_or w i 0) known_letter in
    search rules

pub loop-index-preserved : goal.loop-index-preserved
loop-index-preserved c =
    let letters = rules_of c.args.letters.now in
    let w = c.args.word.now in
    let i = c.loop-index.index in
    let a = get_or w i 0 in
    let within = c.loop-index-test.true in
    let is = (known_length letters a c.unwrap-length.result (sym c.unwrap-length.ensures ∙ c.length.ensures)).1 in
    let past : length (spell letters a) ≤ c.loop-index.skip = omega arith in
    past_letter letters w c.args.place c.loop-index.skip i within past c.loop-index.invariant ∙ ap (λ n. drop (c.loop-index.skip - n) (spell_word letters (drop (i + 1) w))) (sym is)
