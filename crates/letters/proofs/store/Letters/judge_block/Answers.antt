use Rattle.std.proofs.Common.{rules, ◌≡◌, ◌*◌, Some, ◌≤◌, leb, sym, refl, ◌∙◌, ap₂, mul-le-mul, arith}
use Rattle.std.proofs.lemmas.Bool.{and_from, lt-ltb, le-leb}
use Rattle.model.specs.declared.Rule.TheVariants.{Block}
use Rattle.model.specs.Spelling.{known, spell}
use Rattle.model.proofs.Spelling.{length_copies}
use Rattle.model.proofs.Fitting.{spell_short}
use Rattle.letters.specs.Holding.{length_of, rules_of}
use Rattle.letters.proofs.Judging.{known_length, judged}
use Rattle.letters.proofs.store.Letters.judge_block.Goals as goal

pub overflow_mul-from : goal.overflow_mul-from
overflow_mul-from c =
    let s = c.args.self.now in
    let one : Some c.in_ok-one.one ≡ length_of (rules_of s) c.args.a = search rules in
    let few : c.from.result ≤ 1000000 = omega arith in
    let short : c.in_ok-one.one ≤ 1000000000000 = omega (arith, known_length (rules_of s) c.args.a c.in_ok-one.one one, spell_short (rules_of s) s.fit c.args.a) in
    omega (arith, mul-le-mul few short)

pub returns : goal.returns
returns c =
    let known_rules = rules_of c.args.self.now in
    let a = c.args.a in
    let n = c.args.count in
    let one = known_length known_rules a c.in_ok-one.one (search rules) in
    judged known_rules (Block a n) (c.from.result * c.in_ok-one.one) c.room.result
    (lt-ltb a (known known_rules) one.0)
    refl
    (and_from (leb 2 n) (leb n 1000000) (le-leb 2 n c.if-count-lt-LEAST_COUNT.false) (le-leb n 1000000 c.if-count-gt-MOST_COUNT.false))
    (ap₂ (λ x y. x * y) c.from.ensures one.1 ∙ sym (length_copies n (spell known_rules a)))
    c.room.ensures
