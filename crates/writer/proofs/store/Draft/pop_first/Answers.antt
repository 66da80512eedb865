use Rattle.std.proofs.Common.{ap, sym, ◌∙◌}
use Rattle.systems.specs.declared.Choice.TheVariants.{Left}
use Rattle.writing.specs.Writer.{pop_first}
use Rattle.leftover.specs.Leaving.{begins_with}
use Rattle.writer.proofs.Choosing.{first_made, left_follows, one_done, one_room}
use Rattle.writer.proofs.store.Draft.pop_first.Goals as goal

pub put-requires : goal.put-requires
put-requires c =
    let w = c.args.self.now in
    let x = c.args.x in
    let a = c.args.a in
    one_room (pop_first a x) (Left x a) (begins_with a) w x (first_made w x c.requires.variable a) (sym c.pop_first.ensures.answer ∙ c.if-pop_first.true) c.requires.ready

pub returns-then-pop_first : goal.returns-then-pop_first
returns-then-pop_first c =
    let w = c.args.self.now in
    let v = c.put.new.self in
    let x = c.args.x in
    let a = c.args.a in
    one_done (pop_first a x) (Left x a) (begins_with a) w x (first_made w x c.requires.variable a) v _ (sym c.pop_first.ensures.answer ∙ c.if-pop_first.true) c.put.ensures.same c.put.ensures.wrote
    (λ st follows. left_follows w v x c.requires.variable (ap (λ r. r.filled) c.put.ensures.left ∙ c.pop_first.ensures.filled) (ap (λ r. r.fresh) c.put.ensures.left ∙ c.pop_first.ensures.fresh) st follows a (ap (λ r. r.words) c.put.ensures.left ∙ c.if-pop_first.ensures.words))
