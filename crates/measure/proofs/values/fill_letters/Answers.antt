use Rattle.std.proofs.Common.{◌≡◌, set, ap, ◌∙◌, arith}
use Rattle.measure.proofs.Filling.{letters_more}
use Rattle.measure.proofs.Symbols.{number_is_place}
use Rattle.measure.proofs.values.fill_letters.Goals as goal

pub loop-letter-preserved : goal.loop-letter-preserved
loop-letter-preserved g c =
    let single = g.K.Measure.single c.args.kind.now in
    let i = c.loop-letter.letter-index in
    let t = c.loop-letter.table in
    let number = number_is_place (λ l. l.number) c.all-letter-items.result 26 i c.letter-item.result c.all-letter-items.ensures c.loop-letter-test.true in
    let place : c.from.result ≡ i = omega arith in
    letters_more single _ c.args.table.now t _ i c.letter.result (omega arith) (omega arith) (ap (λ k. set t k c.letter.result) place) (c.letter.ensures ∙ ap single number) c.loop-letter.invariant
