use Rattle.std.proofs.Common.{rules, ◌≡◌, ◌+◌, Some, eqb, ltb, sym, refl, ◌∙◌, ap₂, arith, length-append}
use Rattle.std.proofs.lemmas.Bool.{and_from, lt-ltb, ne_eqb, not_from_false}
use Rattle.model.specs.declared.Rule.TheVariants.{Pair}
use Rattle.model.specs.Spelling.{known, spell}
use Rattle.model.proofs.Fitting.{spell_short}
use Rattle.letters.specs.Holding.{length_of, rules_of}
use Rattle.letters.proofs.Judging.{known_length, judged}
use Rattle.letters.proofs.store.Letters.judge_pair.Goals as goal

pub overflow_add-first : goal.overflow_add-first
overflow_add-first c =
    let s = c.args.self.now in
    let one : Some c.in_ok-first.first ≡ length_of (rules_of s) c.args.a = search rules in
    let two : Some c.in_ok-second.second ≡ length_of (rules_of s) c.args.b = search rules in
    omega (
      arith,
      known_length (rules_of s) c.args.a c.in_ok-first.first one,
      known_length (rules_of s) c.args.b c.in_ok-second.second two,
      spell_short (rules_of s) s.fit c.args.a,
      spell_short (rules_of s) s.fit c.args.b,
    )

pub returns : goal.returns
returns c =
    let known_rules = rules_of c.args.self.now in
    let a = c.args.a in
    let b = c.args.b in
    let one = known_length known_rules a c.in_ok-first.first (search rules) in
    let two = known_length known_rules b c.in_ok-second.second (search rules) in
    judged known_rules (Pair a b) (c.in_ok-first.first + c.in_ok-second.second) c.room.result
    (and_from (ltb a (known known_rules)) (ltb b (known known_rules)) (lt-ltb a (known known_rules) one.0) (lt-ltb b (known known_rules) two.0))
    (not_from_false (eqb a b) (ne_eqb a b c.if-a-b.false))
    refl
    (ap₂ (λ x y. x + y) one.1 two.1 ∙ sym (length-append (spell known_rules a) (spell known_rules b)))
    c.room.ensures
