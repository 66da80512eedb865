use Rattle.std.proofs.Common.{ap, sym, ◌∙◌}
use Rattle.systems.specs.declared.Choice.TheVariants.{Right}
use Rattle.writing.specs.Writer.{pop_last}
use Rattle.leftover.specs.Leaving.{ends_with}
use Rattle.writer.proofs.Choosing.{last_made, one_done, one_room, right_follows}
use Rattle.writer.proofs.store.Draft.pop_last.Goals as goal

pub put-requires : goal.put-requires
put-requires c =
    let w = c.args.self.now in
    let x = c.args.x in
    let a = c.args.a in
    one_room (pop_last a x) (Right x a) (ends_with a) w x (last_made w x c.requires.variable a) (sym c.pop_last.ensures.answer ∙ c.if-pop_last.true) c.requires.ready

pub returns-then-pop_last : goal.returns-then-pop_last
returns-then-pop_last c =
    let w = c.args.self.now in
    let v = c.put.new.self in
    let x = c.args.x in
    let a = c.args.a in
    one_done (pop_last a x) (Right x a) (ends_with a) w x (last_made w x c.requires.variable a) v _ (sym c.pop_last.ensures.answer ∙ c.if-pop_last.true) c.put.ensures.same c.put.ensures.wrote
    (λ st follows. right_follows w v x c.requires.variable (ap (λ r. r.filled) c.put.ensures.left ∙ c.pop_last.ensures.filled) (ap (λ r. r.fresh) c.put.ensures.left ∙ c.pop_last.ensures.fresh) st follows a (ap (λ r. r.words) c.put.ensures.left ∙ c.if-pop_last.ensures.words))
