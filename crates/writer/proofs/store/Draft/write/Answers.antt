use Rattle.std.proofs.Common.{sym, ◌∙◌, arith}
use Rattle.writing.specs.Writer.{erasures}
use Rattle.writing.specs.Turns.{turns, turns_enough}
use Rattle.writer.proofs.Following.{ready_front}
use Rattle.writer.proofs.Turning.{all_written, begins_going, ended, ends_later, erasures_ready, few, first_low, going_on, live_here, longer, turn_ready}
use Rattle.writer.proofs.store.Draft.write.Goals as goal

pub erase_all-requires : goal.erase_all-requires
erase_all-requires c = ready_front erasures (turns turns_enough) c.args.self.now c.requires

pub loop-x-init : goal.loop-x-init
loop-x-init c = (begins_going c.args.self.now c.erase_all.new.self c.erase_all.ensures c.requires, λ _ ends. ends)

pub turn-requires-clause-variable : goal.turn-requires-clause-variable
turn-requires-clause-variable c = first_low _ c.in-Some.x (sym c.first_live.ensures ∙ c.in-Some.is)

pub turn-requires-clause-live : goal.turn-requires-clause-live
turn-requires-clause-live c =
    let here = sym c.first_live.ensures ∙ c.in-Some.is in
    live_here c.loop-x.self c.in-Some.x (first_low _ c.in-Some.x here) here

pub turn-requires-clause-ready : goal.turn-requires-clause-ready
turn-requires-clause-ready c =
    let here = sym c.first_live.ensures ∙ c.in-Some.is in
    turn_ready c.loop-x.self c.in-Some.x (first_low _ c.in-Some.x here) here c.loop-x.invariant.0

pub erase_all-requires-in-Some : goal.erase_all-requires-in-Some
erase_all-requires-in-Some c =
    let here = sym c.first_live.ensures ∙ c.in-Some.is in
    erasures_ready c.loop-x.self c.in-Some.x (first_low _ c.in-Some.x here) here c.turn.new.self c.turn.ensures c.loop-x.invariant.0

pub loop-x-smaller : goal.loop-x-smaller
loop-x-smaller c =
    let here = sym c.first_live.ensures ∙ c.in-Some.is in
    let low = first_low _ c.in-Some.x here in
    let going = c.loop-x.invariant.0 in
    let v = c.erase_all-in-Some.new.self in
    omega (arith, longer c.loop-x.self c.in-Some.x low here c.turn.new.self c.turn.ensures v c.erase_all-in-Some.ensures going, few v (going_on c.loop-x.self c.in-Some.x low here c.turn.new.self c.turn.ensures v c.erase_all-in-Some.ensures going))

pub loop-x-preserved : goal.loop-x-preserved
loop-x-preserved c =
    let here = sym c.first_live.ensures ∙ c.in-Some.is in
    let low = first_low _ c.in-Some.x here in
    let v = c.erase_all-in-Some.new.self in (
      going_on c.loop-x.self c.in-Some.x low here c.turn.new.self c.turn.ensures v c.erase_all-in-Some.ensures c.loop-x.invariant.0,
      λ z ends. c.loop-x.invariant.1 z (ends_later c.loop-x.self c.in-Some.x low here c.turn.new.self c.turn.ensures v c.erase_all-in-Some.ensures z ends),
    )

pub returns : goal.returns
returns c =
    let none = sym c.first_live.ensures ∙ c.in_default.is in
    all_written c.args.self.now c.erase_all.new.self c.erase_all.ensures c.loop-x.self (c.loop-x.invariant.1 c.loop-x.self (ended c.loop-x.self none))
