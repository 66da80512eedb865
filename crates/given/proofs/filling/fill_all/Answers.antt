use Rattle.std.proofs.Common.{◌≡◌, ℕ, ◌<◌, true, false, get_or, sym, ap, ◌∙◌, arith, rules}
use Rattle.std.proofs.lemmas.Result.{err_from_is_err_and}
use Rattle.systems.specs.Sides.{stands_in}
use Rattle.sides.specs.Holding.{only}
use Rattle.writing.specs.Refusals.{span_of, bytes_at, given}
use Rattle.writing.proofs.Given.{filled_at_last, none_filled, one_passed}
use Rattle.given.proofs.Steps.{all_read, none_read, over, side_filled, words_passed, words_read}
use Rattle.given.proofs.filling.fill_all.Goals as goal
use Rattle.given.proofs.filling.fill_all.Goals.{then-system-from+in_ok-fill_one, else-system-from}

pub loop-x-init : goal.loop-x-init
loop-x-init c =
    let E = c.args.sides.now in
    let buffer = c.args.given.now.buffer.now in
    let spans = c.args.given.now.spans in
    record {
      words = none_read E buffer spans c.begin.new.self.words c.begin.ensures.words;
      filled = c.begin.ensures.filled ∙ sym (none_filled (given (only E) buffer spans) E);
      fresh = c.begin.ensures.fresh;
    }

pub returns-in_err-fill_one : goal.returns-in_err-fill_one
returns-in_err-fill_one c =
    let E = c.args.sides.now in
    let buffer = c.args.given.now.buffer.now in
    let spans = c.args.given.now.spans in
    let x = c.loop-x.x in
    let same : x ≡ c.from.result = omega arith in
    let alive : stands_in E x ≡ true = sym (c.requires.marked x (omega arith)) ∙ ap (λ i. get_or c.args.system.now i false) same ∙ c.if-system-from.true in
    let there : c.unwrap.result.now ≡ bytes_at buffer (span_of spans x) = search rules in
    let p = err_from_is_err_and c.from_residual.result c.from_residual.ensures.1 in
    let why = c.in_err-fill_one.ensures.answer in
    rw (p.1, p.2) (why.0, over E buffer spans x alive c.unwrap.result.now there c.loop-x.left.filled c.loop-x.invariant.filled c.requires.few why.1)

pub loop-x-preserved : goal.loop-x-preserved
loop-x-preserved c =
    let E = c.args.sides.now in
    let buffer = c.args.given.now.buffer.now in
    let spans = c.args.given.now.spans in
    let x = c.loop-x.x in
    let marked : get_or c.args.system.now c.from.result false ≡ stands_in E x = let same : c.from.result ≡ x = omega arith in ap (λ i. get_or c.args.system.now i false) same ∙ c.requires.marked x (omega arith) in
    elim c.if-system-from.branch [
      | then-system-from+in_ok-fill_one w ↦
          let alive : stands_in E x ≡ true = sym marked ∙ w.if-system-from.true in
          let there : w.unwrap.result.now ≡ bytes_at buffer (span_of spans x) = search rules in
          let done = w.in_ok-fill_one.ensures in
          rw (w.left-is, done.answer.0) (record {
            words = words_read E buffer spans x alive w.unwrap.result.now there c.loop-x.left.words c.loop-x.left.long (omega arith) c.loop-x.invariant.words;
            filled = side_filled E buffer spans x alive w.unwrap.result.now there c.loop-x.left.filled c.loop-x.invariant.filled w.fill_one.new.left.filled done.answer.1;
            fresh = done.fresh ∙ c.loop-x.invariant.fresh;
          })
      | else-system-from w ↦
          let gone : stands_in E x ≡ false = sym marked ∙ w.if-system-from.false in
          rw w.left-is (record {
            words = words_passed E buffer spans x gone c.loop-x.left.words c.loop-x.invariant.words;
            filled = c.loop-x.invariant.filled ∙ one_passed (given (only E) buffer spans) E x gone;
            fresh = c.loop-x.invariant.fresh;
          })
    ]

pub returns : goal.returns
returns c =
    let E = c.args.sides.now in
    let buffer = c.args.given.now.buffer.now in
    let spans = c.args.given.now.spans in
    let x = c.loop-x.x in
    let last : (y : ℕ) → y < 26 → y < x = λ y lt. omega arith in
    (all_read E buffer spans x c.loop-x.left.words (omega arith) c.loop-x.invariant.words, c.loop-x.invariant.filled ∙ filled_at_last (given (only E) buffer spans) E x (λ y e. last y (c.requires.low y e)), c.loop-x.invariant.fresh)
