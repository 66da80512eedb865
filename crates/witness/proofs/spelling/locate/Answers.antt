use Rattle.std.proofs.Common.{◌≡◌, ◌/◌, ◌%◌, ◌≤◌, true, length, sym, subst}
use Rattle.letters.specs.Holding.{rules_of}
use Rattle.model.specs.Spelling.{known, spell_word}
use Rattle.model.specs.Witnesses.{all_below}
use Rattle.witness.specs.Rows.{parts, Found}
use Rattle.witness.proofs.Finding.{some_length, block_read}
use Rattle.witness.proofs.spelling.locate.Goals as goal

pub nonzero_div-result : goal.nonzero_div-result
nonzero_div-result c = let s = c.args.letters.now in some_length (rules_of s) c.in-Block.letter c.length.result c.unwrap_or-length.result s.fit c.length.ensures c.unwrap_or-length.ensures

pub nonzero_rem-result : goal.nonzero_rem-result
nonzero_rem-result c = let s = c.args.letters.now in some_length (rules_of s) c.in-Block.letter c.length.result c.unwrap_or-length.result s.fit c.length.ensures c.unwrap_or-length.ensures

pub returns-in-Block : goal.returns-in-Block
returns-in-Block c =
    let s = c.args.letters.now in
    let rules = rules_of s in
    let a = c.in-Block.letter in
    let n = c.in-Block.field-1 in
    let l = c.unwrap_or-length.result in
    let place = c.args.place in
    let some = some_length rules a c.length.result l s.fit c.length.ensures c.unwrap_or-length.ensures in
    subst (λ rule. all_below (known rules) (parts rule) ≡ true → place ≤ length (spell_word rules (parts rule)) → Found rules (parts rule) place (place / l) (place % l)) (sym c.in-Block.is)
    (λ low within. block_read rules a n place l c.length.result some low within c.length.ensures c.unwrap_or-length.ensures)
    c.requires.known c.requires.within
