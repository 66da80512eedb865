use Rattle.std.proofs.Common.{rules, ◌≡◌, ◌+◌, ◌-◌, ◌<◌, reverse, length, take, sym, ap, ◌∙◌, subst, arith}
use Rattle.letters.specs.Holding.{rules_of}
use Rattle.model.specs.Spelling.{known}
use Rattle.model.specs.Witnesses.{all_below, word_of}
use Rattle.witness.specs.Holding.{contents_of}
use Rattle.witness.specs.Rows.{Found}
use Rattle.witness.proofs.Counting.{stood, length_between, letters_known, below_take, fill_refused, fill_granted}
use Rattle.witness.proofs.store.Witness.fill.Goals as goal
use Rattle.witness.proofs.store.Witness.fill.Goals.{then-start-length-via-then-start-length, then-start-length-via-else-start-length+then-buffer-length}

pub overflow_sub-length : goal.overflow_sub-length
overflow_sub-length c =
    let s = c.args.self.now in
    let span = c.in_ok-span.span in
    let at = stood s.letters (word_of (contents_of s).entries c.args.variable) c.span.result span (search rules) c.span.ensures.word c.span.ensures.within in
    omega (arith, c.upto.ensures, c.upto-before.ensures, length_between (rules_of s.made) s.letters span.start span.end at.1.0)

pub returns-then-start-length : goal.returns-then-start-length
returns-then-start-length c =
    let s = c.args.self.now in
    let span = c.in_ok-span.span in
    let at = stood s.letters (word_of (contents_of s).entries c.args.variable) c.span.result span (search rules) c.span.ensures.word c.span.ensures.within in
    let over : c.upto.result - c.upto-before.result < c.args.start + length c.args.buffer.now =
    elim c.then-start-length.branch [
      | then-start-length-via-then-start-length w ↦ omega (arith, w.if-start-length.true)
      | then-start-length-via-else-start-length+then-buffer-length w ↦ omega (arith, w.if-start-length.false, w.if-buffer-length.true)
    ] in
    let all = fill_refused (rules_of s.made) s.letters span.start span.end at.1.0 (word_of (contents_of s).entries c.args.variable) at.0 c.args.start c.upto.result c.upto-before.result c.args.buffer.now c.upto.ensures c.upto-before.ensures over in
    record { answer = all.0; number = all.1.0; holds = all.1.1 }

pub fill_word-requires : goal.fill_word-requires
fill_word-requires c =
    let s = c.args.self.now in
    let known_rules = rules_of s.made in
    let span = c.in_ok-span.span in
    let at = stood s.letters (word_of (contents_of s).entries c.args.variable) c.span.result span (search rules) c.span.ensures.word c.span.ensures.within in
    let front : take span.end c.as_slice.result.now ≡ take span.end s.letters = ap (take span.end) c.as_slice.ensures.value in
    record {
      known = ap (all_below (known known_rules)) front ∙ below_take (known known_rules) span.end s.letters (letters_known known_rules (reverse s.seats) s.letters s.whole s.fit);
      at = subst (λ w. Found known_rules w (c.upto-before.result + c.args.start) c.search-spot.result.index c.search-spot.result.skip) (sym front) c.search-spot.ensures;
    }

pub returns : goal.returns
returns c =
    let s = c.args.self.now in
    let span = c.in_ok-span.span in
    let at = stood s.letters (word_of (contents_of s).entries c.args.variable) c.span.result span (search rules) c.span.ensures.word c.span.ensures.within in
    let front : take span.end c.as_slice.result.now ≡ take span.end s.letters = ap (take span.end) c.as_slice.ensures.value in
    let both = fill_granted (rules_of s.made) s.letters span.start span.end at.1.0 (word_of (contents_of s).entries c.args.variable) at.0 c.args.start c.upto.result c.upto-before.result (take span.end c.as_slice.result.now) c.args.buffer.now c.fill_word.new.out c.fill_word.result c.upto.ensures c.upto-before.ensures (omega arith) front c.fill_word.auto.out c.fill_word.ensures in
    record { answer = both.0; number = tt; holds = both.1 }
