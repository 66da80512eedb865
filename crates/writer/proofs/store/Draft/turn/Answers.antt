use Rattle.std.proofs.Common.{Some, ap, sym, ◌∙◌}
use Rattle.writing.specs.Writer.{join_pair, pop_first}
use Rattle.writing.specs.Turns.{turn_of}
use Rattle.writer.proofs.Following.{same_does, same_ready}
use Rattle.writer.proofs.Rowing.{blocks_part}
use Rattle.writer.proofs.Turning.{blocks_turn, one_turn, pair_turn}
use Rattle.writer.proofs.store.Draft.turn.Goals as goal

pub pop_first-requires-clause-ready : goal.pop_first-requires-clause-ready
pop_first-requires-clause-ready c =
    let t = c.in-Some-default-None in
    let read = sym (t.is ∙ ap (λ o. Some (t.a, o)) t.field-0-1-is) ∙ c.first_two.ensures in
    same_ready (turn_of c.args.x) (pop_first t.a c.args.x) c.args.self.now (λ σ st follows holds. one_turn c.args.self.now c.args.x c.requires.variable c.requires.live σ st follows holds t.a read) c.requires.ready

pub join_blocks-requires : goal.join_blocks-requires
join_blocks-requires c =
    let t = c.in-Some-default-Some in
    let read = sym (t.is ∙ ap (λ o. Some (t.a, o)) t.field-0-1-is) ∙ c.first_two.ensures in
    same_ready (turn_of c.args.x) (blocks_part t.a) c.args.self.now (λ σ st follows holds. blocks_turn c.args.self.now c.args.x c.requires.variable c.requires.live σ st follows holds t.a t.b read c.if-a-b.true) c.requires.ready

pub join_pair-requires : goal.join_pair-requires
join_pair-requires c =
    let t = c.in-Some-default-Some in
    let read = sym (t.is ∙ ap (λ o. Some (t.a, o)) t.field-0-1-is) ∙ c.first_two.ensures in
    same_ready (turn_of c.args.x) (join_pair t.a t.b) c.args.self.now (λ σ st follows holds. pair_turn c.args.self.now c.args.x c.requires.variable c.requires.live σ st follows holds t.a t.b read c.if-a-b.false) c.requires.ready

pub returns-in-Some-default-None : goal.returns-in-Some-default-None
returns-in-Some-default-None c =
    let t = c.in-Some-default-None in
    let read = sym (t.is ∙ ap (λ o. Some (t.a, o)) t.field-0-1-is) ∙ c.first_two.ensures in
    same_does (pop_first t.a c.args.x) (turn_of c.args.x) c.args.self.now c.pop_first.new.self (λ σ st follows holds. sym (one_turn c.args.self.now c.args.x c.requires.variable c.requires.live σ st follows holds t.a read)) c.pop_first.ensures

pub returns-in-Some-default-Some : goal.returns-in-Some-default-Some
returns-in-Some-default-Some c =
    let t = c.in-Some-default-Some in
    let read = sym (t.is ∙ ap (λ o. Some (t.a, o)) t.field-0-1-is) ∙ c.first_two.ensures in
    same_does (blocks_part t.a) (turn_of c.args.x) c.args.self.now c.join_blocks.new.self (λ σ st follows holds. sym (blocks_turn c.args.self.now c.args.x c.requires.variable c.requires.live σ st follows holds t.a t.b read c.if-a-b.true)) c.join_blocks.ensures

pub returns-in-Some-default-Some-2 : goal.returns-in-Some-default-Some-2
returns-in-Some-default-Some-2 c =
    let t = c.in-Some-default-Some in
    let read = sym (t.is ∙ ap (λ o. Some (t.a, o)) t.field-0-1-is) ∙ c.first_two.ensures in
    same_does (join_pair t.a t.b) (turn_of c.args.x) c.args.self.now c.join_pair.new.self (λ σ st follows holds. sym (pair_turn c.args.self.now c.args.x c.requires.variable c.requires.live σ st follows holds t.a t.b read c.if-a-b.false)) c.join_pair.ensures
