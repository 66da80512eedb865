use Rattle.std.proofs.Common.{◌≡◌, ℕ, Bool, true, false, ltb, ◌∷◌, get_or, sym, ap, ◌∙◌, arith}
use Rattle.std.proofs.lemmas.Bool.{cond-true, lt-ltb}
use Rattle.model.specs.Witnesses.{Contents, entry_fits}
use Rattle.systems.specs.Standings.{Standing}
use Rattle.guarantee.specs.Closing.{entries, entry}
use Rattle.measure.proofs.Symbols.{number_is_place}
use Rattle.witness.specs.Holding.{contents_of}
use Rattle.checker.specs.Holding.{standing, system_of}
use Rattle.checker.specs.Popped.{with_entries}
use Rattle.checker.proofs.Adding.{each_fits, none_more, one_more}
use Rattle.checker.proofs.Formed.{words_fit}
use Rattle.checker.proofs.store.Check.add_words.Goals as goal
use Rattle.checker.proofs.store.Check.add_words.Goals.{then-self-from, else-self-from}

pub loop-variable-init : goal.loop-variable-init
loop-variable-init c = c.requires

pub add_word-requires : goal.add_word-requires
add_word-requires c =
    let s = c.args.self.now in
    let S : Standing = standing s in
    let system : ℕ → Bool = system_of s in
    let i = c.loop-variable.variable-index in
    let here : c.number-x.result ≡ i = c.number-x.ensures.0 ∙ number_is_place (λ v. v.number) c.all-variable-items.result 26 i c.variable-item.result c.all-variable-items.ensures c.loop-variable-test.true in
    let flag : system i ≡ get_or s.system i false = cond-true (ltb i 26) (get_or s.system i false) false (lt-ltb i 26 c.loop-variable-test.true) in
    let of : system i ≡ true = flag ∙ ap (λ k. get_or s.system k false) (sym (c.from.ensures ∙ here)) ∙ c.if-self-from.true in
    ap (λ k. entry_fits k.rules k.entries (entry S c.number-x.result)) c.loop-variable.invariant
    ∙ ap (λ x. entry_fits S.rules (entries system S i) (entry S x)) here
    ∙ each_fits system S S.rules i c.loop-variable-test.true of (words_fit S s.system s.run system)

pub loop-variable-preserved : goal.loop-variable-preserved
loop-variable-preserved c =
    let s = c.args.self.now in
    let S : Standing = standing s in
    let system : ℕ → Bool = system_of s in
    let i = c.loop-variable.variable-index in
    let here : c.number-x.result ≡ i = c.number-x.ensures.0 ∙ number_is_place (λ v. v.number) c.all-variable-items.result 26 i c.variable-item.result c.all-variable-items.ensures c.loop-variable-test.true in
    let flag : system i ≡ get_or s.system c.from.result false = cond-true (ltb i 26) (get_or s.system i false) false (lt-ltb i 26 c.loop-variable-test.true) ∙ ap (λ k. get_or s.system k false) (sym (c.from.ensures ∙ here)) in
    let found : (es : _) → Contents = λ es. record { rules = S.rules; entries = es } in
    elim c.if-self-from.branch [
      | then-self-from w ↦
          ap contents_of w.witness-is ∙ w.add_word.ensures ∙ ap (λ k. with_entries k (entry S c.number-x.result ∷ k.entries)) c.loop-variable.invariant ∙ ap (λ x. found (entry S x ∷ entries system S i)) here
          ∙ ap found (one_more system S S.rules i (flag ∙ w.if-self-from.true))
      | else-self-from w ↦ ap contents_of w.witness-is ∙ c.loop-variable.invariant ∙ ap found (none_more system S S.rules i (flag ∙ w.if-self-from.false))
    ]

pub returns : goal.returns
returns c =
    let s = c.args.self.now in
    let all : c.loop-variable.variable-index ≡ 26 = omega arith in
    c.loop-variable.invariant ∙ ap (λ n. record { rules = (standing s).rules; entries = entries (system_of s) (standing s) n }) all
