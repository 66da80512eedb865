use Rattle.std.proofs.Common.{rules, arith}
use Rattle.letters.specs.Holding.{rules_of}
use Rattle.model.specs.Witnesses.{word_of}
use Rattle.witness.specs.Holding.{contents_of}
use Rattle.witness.proofs.Counting.{stood, length_answered, length_between}
use Rattle.witness.proofs.store.Witness.length.Goals as goal

pub overflow_sub-result : goal.overflow_sub-result
overflow_sub-result c =
    let s = c.args.self.now in
    let span = c.in_ok-start.field-0 in
    let at = stood s.letters (word_of (contents_of s).entries c.args.variable) c.span.result span (search rules) c.span.ensures.word c.span.ensures.within in
    omega (arith, c.upto.ensures, c.upto-2.ensures, length_between (rules_of s.made) s.letters span.start span.end at.1.0)

pub returns : goal.returns
returns c =
    let s = c.args.self.now in
    let span = c.in_ok-start.field-0 in
    let at = stood s.letters (word_of (contents_of s).entries c.args.variable) c.span.result span (search rules) c.span.ensures.word c.span.ensures.within in
    record {
      answer = length_answered (rules_of s.made) s.letters span.start span.end at.1.0 (word_of (contents_of s).entries c.args.variable) at.0 c.upto.result c.upto-2.result c.upto.ensures c.upto-2.ensures;
      number = tt;
    }
