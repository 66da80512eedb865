use Rattle.std.proofs.Common.{◌≡◌, ◌-◌, ◌<◌, length, get_or, take, drop, sym, ap, subst, inl, inr, arith}
use Rattle.letters.specs.Holding.{rules_of}
use Rattle.model.specs.Buffers.{Put}
use Rattle.model.specs.Spelling.{spell}
use Rattle.model.proofs.Fitting.{no_rule_basic}
use Rattle.witness.specs.Answers.{as_text}
use Rattle.witness.specs.Rows.{parts}
use Rattle.witness.proofs.Filling.{filling_start, filling_more, made_filled, basic_filled}
use Rattle.witness.proofs.Finding.{row_of, part_of}
use Rattle.witness.proofs.spelling.+fill_letter.Goals as goal

pub locate-spot-requires : goal.locate-spot-requires
locate-spot-requires t c =
    let s = c.args.letters.now in
    let row = row_of (rules_of s) c.args.letter c.in-Some.rule s.fit (sym c.in-Some.ensures) in
    record { known = row.known_letters; within = omega (arith, c.requires.within, ap length row.spells) }

pub loop-i-init : goal.loop-i-init
loop-i-init t c = filling_start _ _ _ _ _ _ _ (omega (arith, c.requires.room)) c.locate-spot.ensures

pub fill_letter-end-requires : goal.fill_letter-end-requires
fill_letter-end-requires t c =
    let s = c.args.letters.now in
    let lt : c.loop-i.i < length (parts c.in-Some.rule) = omega arith in
    let part = part_of (rules_of s) c.args.letter c.in-Some.rule c.loop-i.i c.part.result s.fit (sym c.in-Some.ensures) lt c.part.ensures in
    (omega (arith, part.lowers, c.decreases), (part.known_letter, (omega (arith, c.loop-i.invariant.inside lt, ap (λ a. length (spell (rules_of s) a)) c.part.ensures), omega arith)))

pub loop-i-preserved : goal.loop-i-preserved
loop-i-preserved t c =
    let s = c.args.letters.now in
    let rules = rules_of s in
    let out = c.loop-i.out in
    let end = c.loop-i.end in
    let lt : c.loop-i.i < length (parts c.in-Some.rule) = omega arith in
    let part : c.part.result ≡ get_or (parts c.in-Some.rule) c.loop-i.i 0 = c.part.ensures in
    filling_more rules (parts c.in-Some.rule) c.args.start c.args.out.now c.args.at c.loop-i.i c.loop-i.skip out end c.fill_letter-end.new.out c.fill_letter-end.result s.fit c.loop-i.invariant lt
    c.fill_letter-end.auto.out
    (subst (λ a. Put out end (as_text (take (length out - end) (drop c.loop-i.skip (spell rules a)))) c.fill_letter-end.new.out c.fill_letter-end.result) part c.fill_letter-end.ensures)

pub overflow_cast-out : goal.overflow_cast-out
overflow_cast-out t c =
    let basic : c.args.letter < 26 = no_rule_basic (rules_of c.args.letters.now) c.args.letter (sym c.in-None.ensures) c.requires.known in
    omega arith

pub overflow_add-out : goal.overflow_add-out
overflow_add-out t c =
    let basic : c.args.letter < 26 = no_rule_basic (rules_of c.args.letters.now) c.args.letter (sym c.in-None.ensures) c.requires.known in
    omega arith

pub returns-then-end-out : goal.returns-then-end-out
returns-then-end-out t c =
    let s = c.args.letters.now in
    made_filled (rules_of s) c.args.letter c.in-Some.rule _ _ _ _ _ _ _ s.fit (sym c.in-Some.ensures) c.loop-i.invariant (inr c.if-end-out.true)

pub returns-after-loop-i : goal.returns-after-loop-i
returns-after-loop-i t c =
    let s = c.args.letters.now in
    made_filled (rules_of s) c.args.letter c.in-Some.rule _ _ _ _ _ _ _ s.fit (sym c.in-Some.ensures) c.loop-i.invariant (inl (omega arith))

pub returns-in-None : goal.returns-in-None
returns-in-None t c =
    let basic = no_rule_basic (rules_of c.args.letters.now) c.args.letter (sym c.in-None.ensures) c.requires.known in
    basic_filled (rules_of c.args.letters.now) c.args.letter c.args.start c.args.out.now c.args.at basic c.requires.within c.requires.room
