use Rattle.std.proofs.Common.{◌≡◌, ◌<◌, true, false, ltb, get_or, refl, sym, ap, ◌∙◌, subst}
use Rattle.std.specs.List.{AllByRecursion}
use Rattle.std.proofs.lemmas.Bool.{cond-true, lt-ltb}
use Rattle.model.specs.Spelling.{spell_word}
use Rattle.systems.specs.Standings.{Standing, fresh, popped_word}
use Rattle.systems.specs.Values.{word_value}
use Rattle.guarantee.specs.Closing.{Meaning}
use Rattle.checker.specs.declared.store.Check.{Check}
use Rattle.checker.specs.Ending.{meaning}
use Rattle.checker.specs.Holding.{standing, system_of}
use Rattle.checker.proofs.Formed.{each_known}
use Rattle.checker.proofs.Judged.{by_passing}
use Rattle.checker.proofs.store.Check.fails.Goals as goal

pub returns : goal.returns
returns g c =
    let s : Check = c.args.self.now in
    let S : Standing = standing s in
    let k = c.args.kind.now in
    let x = c.args.variable.number in
    let m : Meaning g.row.K-Value.Denot = meaning (g.K.Measure.single k) (g.K.Measure.nothing k) (g.K.Measure.joined k) (g.K.Measure.passed k) in
    let here : c.from.result ≡ x = c.from.ensures ∙ c.number-x.ensures.0 in
    let of : system_of s x ≡ true = cond-true (ltb x 26) (get_or s.system x false) false (lt-ltb x 26 c.args.variable.ok) ∙ ap (λ k. get_or s.system k false) (sym here) ∙ c.if-not-self-from.false in
    let word : c.as_slice.result.now ≡ popped_word S x = c.as_slice.ensures.value ∙ c.put_word.ensures ∙ ap (popped_word S) c.number-x.ensures.0 in
    let low : AllByRecursion (λ a. a < fresh S) c.as_slice.result.now = subst (AllByRecursion (λ a. a < fresh S)) (sym word) (each_known S s.system s.run x) in
    let value = c.word_value-value.ensures.by_spelling S.rules c.requires low ∙ ap (λ w. word_value m.letter m.empty m.join (spell_word S.rules w)) word in
    by_passing m (system_of s) S x x c.word_value-value.result c.passes.result of refl value c.passes.ensures
