use Rattle.std.proofs.Common.{rules, ◌+◌, reverse, get_or, ap, ◌∙◌, arith}
use Rattle.letters.specs.Holding.{rules_of}
use Rattle.model.specs.Spelling.{spell}
use Rattle.model.specs.Witnesses.{word_of}
use Rattle.witness.specs.Holding.{contents_of}
use Rattle.witness.proofs.Counting.{stood, length_between, letters_known, past_answered, letter_answered, index_there, letter_there}
use Rattle.witness.proofs.store.Witness.letter.Goals as goal

pub overflow_sub-upto : goal.overflow_sub-upto
overflow_sub-upto c =
    let s = c.args.self.now in
    let span = c.in_ok-start.field-0 in
    let at = stood s.letters (word_of (contents_of s).entries c.args.variable) c.span.result span (search rules) c.span.ensures.word c.span.ensures.within in
    omega (arith, c.upto.ensures, c.upto-before.ensures, length_between (rules_of s.made) s.letters span.start span.end at.1.0)

pub overflow_add-before : goal.overflow_add-before
overflow_add-before c = omega (arith, c.upto.type_inv)

pub returns-then-place-upto : goal.returns-then-place-upto
returns-then-place-upto c =
    let s = c.args.self.now in
    let span = c.in_ok-start.field-0 in
    let at = stood s.letters (word_of (contents_of s).entries c.args.variable) c.span.result span (search rules) c.span.ensures.word c.span.ensures.within in
    let both = past_answered (rules_of s.made) s.letters span.start span.end at.1.0 (word_of (contents_of s).entries c.args.variable) at.0 c.args.place c.upto.result c.upto-before.result c.upto.ensures c.upto-before.ensures c.if-place-upto.true in
    record { answer = both.0; number = both.1 }

pub letter_at-requires : goal.letter_at-requires
letter_at-requires c =
    let s = c.args.self.now in
    let known_rules = rules_of s.made in
    let span = c.in_ok-start.field-0 in
    let at = stood s.letters (word_of (contents_of s).entries c.args.variable) c.span.result span (search rules) c.span.ensures.word c.span.ensures.within in
    let o = word_of (contents_of s).entries c.args.variable in
    let inside = index_there known_rules s.letters span.start span.end at.1.0 o at.0 c.args.place c.upto.result c.upto-before.result c.search-spot.result.index c.search-spot.result.skip at.1.1 c.upto.ensures c.upto-before.ensures c.if-place-upto.false c.search-spot.ensures in
    let found = letter_there known_rules s.letters span.start span.end at.1.0 o at.0 (c.upto-before.result + c.args.place) c.search-spot.result.index c.search-spot.result.skip (get_or c.as_slice.result.now c.search-spot.result.index 0) at.1.1 (letters_known known_rules (reverse s.seats) s.letters s.whole s.fit) inside c.search-spot.ensures (ap (λ l. get_or l c.search-spot.result.index 0) c.as_slice.ensures.value) in
    record { known = found.1.0; within = found.1.1 }

pub returns : goal.returns
returns c =
    let s = c.args.self.now in
    let known_rules = rules_of s.made in
    let span = c.in_ok-start.field-0 in
    let at = stood s.letters (word_of (contents_of s).entries c.args.variable) c.span.result span (search rules) c.span.ensures.word c.span.ensures.within in
    let o = word_of (contents_of s).entries c.args.variable in
    let inside = index_there known_rules s.letters span.start span.end at.1.0 o at.0 c.args.place c.upto.result c.upto-before.result c.search-spot.result.index c.search-spot.result.skip at.1.1 c.upto.ensures c.upto-before.ensures c.if-place-upto.false c.search-spot.ensures in
    let found = letter_there known_rules s.letters span.start span.end at.1.0 o at.0 (c.upto-before.result + c.args.place) c.search-spot.result.index c.search-spot.result.skip (get_or c.as_slice.result.now c.search-spot.result.index 0) at.1.1 (letters_known known_rules (reverse s.seats) s.letters s.whole s.fit) inside c.search-spot.ensures (ap (λ l. get_or l c.search-spot.result.index 0) c.as_slice.ensures.value) in
    record {
      answer = letter_answered known_rules s.letters span.start span.end at.1.0 o at.0 c.args.place c.upto.result c.upto-before.result c.search-spot.result.index c.search-spot.result.skip c.letter_at.result c.upto.ensures c.upto-before.ensures c.if-place-upto.false c.search-spot.ensures (c.letter_at.ensures ∙ ap (λ a. get_or (spell known_rules a) c.search-spot.result.skip 0) found.0);
      number = tt;
    }
