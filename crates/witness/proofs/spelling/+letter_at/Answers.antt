use Rattle.std.proofs.Common.{◌≡◌, ◌<◌, [], ◌∷◌, length, get_or, sym, ap, ◌∙◌, arith}
use Rattle.letters.specs.Holding.{rules_of}
use Rattle.model.specs.Spelling.{spell}
use Rattle.model.proofs.Spelling.{spell_low}
use Rattle.model.proofs.Fitting.{no_rule_basic}
use Rattle.witness.specs.Rows.{parts}
use Rattle.witness.proofs.Finding.{row_of, part_of, made_inside, found_letter}
use Rattle.witness.proofs.spelling.+letter_at.Goals as goal

pub locate-spot-requires : goal.locate-spot-requires
locate-spot-requires t c =
    let s = c.args.letters.now in
    let row = row_of (rules_of s) c.args.letter c.in-Some.rule s.fit (sym c.in-Some.ensures) in
    record { known = row.known_letters; within = omega (arith, c.requires.within, ap length row.spells) }

pub part-requires : goal.part-requires
part-requires t c =
    let s = c.args.letters.now in
    made_inside (rules_of s) c.args.letter c.in-Some.rule c.args.place _ _ s.fit (sym c.in-Some.ensures) c.locate-spot.ensures c.requires.within

pub letter_at-requires : goal.letter_at-requires
letter_at-requires t c =
    let s = c.args.letters.now in
    let lt = made_inside (rules_of s) c.args.letter c.in-Some.rule c.args.place _ _ s.fit (sym c.in-Some.ensures) c.locate-spot.ensures c.requires.within in
    let part = part_of (rules_of s) c.args.letter c.in-Some.rule c.locate-spot.result.index c.part.result s.fit (sym c.in-Some.ensures) lt c.part.ensures in
    (omega (arith, part.lowers, c.decreases), (part.known_letter, omega (arith, c.locate-spot.ensures.inside lt, ap (λ a. length (spell (rules_of s) a)) c.part.ensures)))

pub overflow_cast-result : goal.overflow_cast-result
overflow_cast-result t c =
    let rules = rules_of c.args.letters.now in
    let basic : c.args.letter < 26 = no_rule_basic rules c.args.letter (sym c.in-None.ensures) c.requires.known in
    omega arith

pub returns-in-Some : goal.returns-in-Some
returns-in-Some t c =
    let s = c.args.letters.now in
    let rules = rules_of s in
    let row = row_of rules c.args.letter c.in-Some.rule s.fit (sym c.in-Some.ensures) in
    let lt = made_inside rules c.args.letter c.in-Some.rule c.args.place _ _ s.fit (sym c.in-Some.ensures) c.locate-spot.ensures c.requires.within in
    c.letter_at.ensures
    ∙ ap (λ a. get_or (spell rules a) c.locate-spot.result.skip 0) c.part.ensures
    ∙ sym (found_letter rules (parts c.in-Some.rule) c.args.place _ _ c.locate-spot.ensures lt)
    ∙ ap (λ w. get_or w c.args.place 0) (sym row.spells)

pub returns-in-None : goal.returns-in-None
returns-in-None t c =
    let rules = rules_of c.args.letters.now in
    let a = c.args.letter in
    let basic = no_rule_basic rules a (sym c.in-None.ensures) c.requires.known in
    let is = spell_low rules a basic in
    let first : c.args.place ≡ 0 = omega (arith, c.requires.within, ap length is) in
    sym (ap (λ w. get_or w c.args.place 0) is ∙ ap (λ k. get_or (a ∷ []) k 0) first)
