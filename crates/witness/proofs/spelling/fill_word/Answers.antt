use Rattle.std.proofs.Common.{◌+◌, ◌-◌, ◌<◌, ◌≤◌, length, take, drop, ap, subst, inl, inr, arith}
use native.Mathlib.Nat.{sub-zero}
use Rattle.letters.specs.Holding.{rules_of}
use Rattle.model.specs.Buffers.{Put}
use Rattle.model.specs.Spelling.{known, spell, spell_word}
use Rattle.model.proofs.Entries.{below_at}
use Rattle.witness.specs.Answers.{as_text}
use Rattle.witness.proofs.Filling.{Filling, filling_end, filling_more, filling_start}
use Rattle.witness.proofs.Finding.{rest_long, rest_read}
use Rattle.witness.proofs.spelling.fill_word.Goals as goal

pub loop-letter-init : goal.loop-letter-init
loop-letter-init c =
    let s = c.args.letters.now in
    subst (λ n. Filling (rules_of s) c.args.word.now c.args.start c.args.out.now 0 n c.args.spot.skip c.args.out.now 0) (omega arith)
    (filling_start (rules_of s) c.args.word.now c.args.start c.args.out.now 0 c.args.spot.index c.args.spot.skip (omega arith) c.requires.at)

pub fill_letter-end-requires : goal.fill_letter-end-requires
fill_letter-end-requires c =
    let rules = rules_of c.args.letters.now in
    let w = c.args.word.now in
    let i = c.args.spot.index + c.loop-letter.letter-index in
    let read = rest_read w c.args.spot.index c.loop-letter.letter-index in
    let lt : i < length w = omega (arith, c.loop-letter-test.true, rest_long w c.args.spot.index) in
    record {
      known = omega (arith, read, below_at (known rules) w i c.requires.known lt);
      within = omega (arith, ap (λ a. length (spell rules a)) read, c.loop-letter.invariant.inside lt);
      room = omega arith;
    }

pub loop-letter-preserved : goal.loop-letter-preserved
loop-letter-preserved c =
    let s = c.args.letters.now in
    let rules = rules_of s in
    let w = c.args.word.now in
    let k = c.loop-letter.letter-index in
    let i = c.args.spot.index + k in
    let lt : i < length w = omega (arith, c.loop-letter-test.true, rest_long w c.args.spot.index) in
    let out = c.loop-letter.out in
    let end = c.loop-letter.end in
    let put = subst (λ a. Put out end (as_text (take (length out - end) (drop c.loop-letter.skip (spell rules a)))) c.fill_letter-end.new.out c.fill_letter-end.result) (rest_read w c.args.spot.index k) c.fill_letter-end.ensures in
    subst (λ n. Filling rules w c.args.start c.args.out.now 0 n 0 c.fill_letter-end.new.out c.fill_letter-end.result) (omega arith)
    (filling_more rules w c.args.start c.args.out.now 0 i c.loop-letter.skip out end c.fill_letter-end.new.out c.fill_letter-end.result s.fit c.loop-letter.invariant lt c.fill_letter-end.auto.out put)

pub returns-after-loop-letter : goal.returns-after-loop-letter
returns-after-loop-letter c =
    let rules = rules_of c.args.letters.now in
    let w = c.args.word.now in
    let old = c.args.out.now in
    let past : length w ≤ c.args.spot.index + c.loop-letter.letter-index = omega (arith, c.loop-letter-test.false, rest_long w c.args.spot.index) in
    subst (λ k. Put old 0 (as_text (take k (drop c.args.start (spell_word rules w)))) c.loop-letter.out c.loop-letter.end) (sub-zero (length old))
    (filling_end rules w c.args.start old 0 _ c.loop-letter.skip c.loop-letter.out c.loop-letter.end c.loop-letter.invariant (inl past))

pub returns-then-end-out : goal.returns-then-end-out
returns-then-end-out c =
    let rules = rules_of c.args.letters.now in
    let w = c.args.word.now in
    let old = c.args.out.now in
    subst (λ k. Put old 0 (as_text (take k (drop c.args.start (spell_word rules w)))) c.loop-letter.out c.loop-letter.end) (sub-zero (length old))
    (filling_end rules w c.args.start old 0 _ c.loop-letter.skip c.loop-letter.out c.loop-letter.end c.loop-letter.invariant (inr c.if-end-out.true))
