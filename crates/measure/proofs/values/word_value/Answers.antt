use Rattle.std.proofs.Common.{◌≡◌, ℕ, get_or, sym, ap, ◌∙◌, arith, take_all}
use Rattle.std.specs.List.{fold}
use Rattle.std.proofs.lemmas.List.Sums.{fold_more}
use Rattle.measure.specs.Tables.{table_value}
use Rattle.measure.proofs.Folding.{value_fold}
use Rattle.measure.proofs.Filling.{table_spells}
use Rattle.measure.proofs.values.word_value.Goals as goal

pub loop-letter-preserved : goal.loop-letter-preserved
loop-letter-preserved g c =
    let m = g.K.Measure in
    let k = c.args.kind.now in
    let t = c.args.table.now in (
      omega arith,
      c.join-value.ensures
          ∙ (λ j. m.joined k (c.loop-letter.invariant.1 j) (c.of_letter.ensures j))
          ∙ sym (fold_more (λ done (a : ℕ). m.joined k done (get_or t a (m.nothing k))) (m.nothing k) c.args.word.now c.loop-letter.letter-index 0 c.loop-letter-test.true),
    )

pub returns : goal.returns
returns g c =
    let m = g.K.Measure in
    let k = c.args.kind.now in
    let t = c.args.table.now in
    let w = c.args.word.now in
    let letter = λ (a : ℕ). get_or t a (m.nothing k) in
    let folded : c.loop-letter.value ≡ fold (λ done a. m.joined k done (letter a)) (m.nothing k) w = c.loop-letter.invariant.1 ∙ ap (fold (λ done a. m.joined k done (letter a)) (m.nothing k)) (take_all _ _ c.loop-letter-test.false) in
    let whole : c.loop-letter.value ≡ table_value (m.nothing k) (m.joined k) t w =
    folded ∙ value_fold (m.associative k) (m.neutral k) letter (m.nothing k) w ∙ (m.neutral k).left _ in
    record { by_table = whole; by_spelling = λ rules filled all. whole ∙ table_spells (m.single k) (m.associative k) (m.neutral k) rules t w filled all }
