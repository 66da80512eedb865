use Rattle.std.proofs.Common.{◌≡◌, ◌<◌, ◌≤◌, [], length, Some, None, subst, arith, rules}
use Rattle.std.proofs.lemmas.Option.{MatchOption-at_some, MatchOption-at_none}
use Rattle.std.proofs.lemmas.Result.{err_from_is_err_and}
use Rattle.witness.specs.Holding.{contents_of}
use Rattle.listing.specs.Stages.{Passed, state_of}
use Rattle.listing.proofs.Passing.{passed_all, passed_more, passed_le, shorter, refused_line, refused_cut, refused_early, whole}
use Rattle.listing.proofs.reading.read_lines.Goals as goal

pub returns-in_default : goal.returns-in_default
returns-in_default c =
    let some : 0 < length c.loop-rest.rest.now = search rules in
    refused_cut c.args.text.now c.loop-rest.line (state_of c.loop-rest.stage (contents_of c.loop-rest.witness)) c.loop-rest.rest.now c.loop-rest.invariant.0 c.in_default.ensures some

pub returns-in_err-stage : goal.returns-in_err-stage
returns-in_err-stage c =
    let cut = c.in-Some.ensures in
    let none : c.read_line.result ≡ None = grind arith in
    let why : c.in_err-stage.field-0.0 ≡ c.loop-rest.line = grind arith in
    let p = err_from_is_err_and c.from_residual.result c.from_residual.ensures.1 in
    rw (p.1, p.2, why) (refused_line c.args.text.now c.loop-rest.line (state_of c.loop-rest.stage (contents_of c.loop-rest.witness)) c.loop-rest.rest.now c.in-Some.bytes.now c.in-Some.after.now c.loop-rest.invariant.0 cut.0 cut.1 (MatchOption-at_none _ _ none c.read_line.ensures))

pub overflow_add-line : goal.overflow_add-line
overflow_add-line c =
    let le = passed_le c.args.text.now c.loop-rest.line (state_of c.loop-rest.stage (contents_of c.loop-rest.witness)) c.loop-rest.rest.now c.loop-rest.invariant.0 in
    let less = shorter c.loop-rest.rest.now c.in-Some.bytes.now c.in-Some.after.now c.in-Some.ensures.1 in
    let fits : c.loop-rest.line ≤ length c.args.text.now = omega arith in
    search rules

pub loop-rest-preserved : goal.loop-rest-preserved
loop-rest-preserved c =
    let some : c.read_line.result ≡ Some c.in_ok-stage.stage = grind arith in
    let led = MatchOption-at_some _ _ _ some c.read_line.ensures in
    (passed_more c.args.text.now c.loop-rest.line (state_of c.loop-rest.stage (contents_of c.loop-rest.witness)) c.loop-rest.rest.now c.in-Some.bytes.now c.in-Some.after.now (state_of c.in_ok-stage.stage (contents_of c.read_line.new.witness)) c.loop-rest.invariant.0 c.in-Some.ensures.1 led.run, led.even)

pub returns-in-Variables : goal.returns-in-Variables
returns-in-Variables c =
    let d = contents_of c.loop-rest.witness in
    whole c.args.text.now c.loop-rest.line d (subst (λ s. Passed c.args.text.now c.loop-rest.line (state_of s d) []) c.in-Variables.is (passed_all c.args.text.now c.loop-rest.line (state_of c.loop-rest.stage d) c.loop-rest.rest.now c.is_empty.result c.loop-rest.invariant.0 c.is_empty.ensures c.loop-rest-test.false))

pub returns-in_default-stage : goal.returns-in_default-stage
returns-in_default-stage c =
    refused_early c.args.text.now c.loop-rest.line c.loop-rest.stage (contents_of c.loop-rest.witness) (passed_all c.args.text.now c.loop-rest.line (state_of c.loop-rest.stage (contents_of c.loop-rest.witness)) c.loop-rest.rest.now c.is_empty.result c.loop-rest.invariant.0 c.is_empty.ensures c.loop-rest-test.false) c.in_default-stage.not-Variables
