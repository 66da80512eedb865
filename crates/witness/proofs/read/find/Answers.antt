use Rattle.std.proofs.Common.{sym}
use Rattle.std.proofs.lemmas.Bool.{eq-eqb, ne_eqb}
use Rattle.std.proofs.lemmas.List.{nil_from_length}
use Rattle.witness.proofs.Cutting.{before_all, before_none, last_before}
use Rattle.witness.proofs.read.find.Goals as goal

pub loop-seat-init : goal.loop-seat-init
loop-seat-init c = before_all c.args.seats.now c.args.letters.now c.args.variable c.requires

pub returns-then-seat-variable : goal.returns-then-seat-variable
returns-then-seat-variable c =
    let seat = c.in-Some.seat.now in
    let last = last_before c.args.seats.now c.loop-seat.before.now c.in-Some.older.now c.args.letters.now c.args.variable c.loop-seat.end seat c.in-Some.ensures.cases.0 c.loop-seat.invariant in
    record { word = sym (last.here (eq-eqb c.args.variable seat.variable (sym c.if-seat-variable.true))); within = (last.low, c.loop-seat.invariant.within) }

pub loop-seat-preserved : goal.loop-seat-preserved
loop-seat-preserved c =
    let seat = c.in-Some.seat.now in
    let last = last_before c.args.seats.now c.loop-seat.before.now c.in-Some.older.now c.args.letters.now c.args.variable c.loop-seat.end seat c.in-Some.ensures.cases.0 c.loop-seat.invariant in
    last.past (ne_eqb c.args.variable seat.variable (λ e. c.if-seat-variable.false (sym e)))

pub returns-clause-word : goal.returns-clause-word
returns-clause-word c = before_none c.args.seats.now c.loop-seat.before.now c.args.letters.now c.args.variable c.loop-seat.end (nil_from_length c.loop-seat.before.now c.in_default.ensures.cases) c.loop-seat.invariant
