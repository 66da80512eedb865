use Rattle.std.proofs.Common.{ap, sym, ◌∙◌}
use Rattle.systems.specs.declared.Choice.TheVariants.{Erase}
use Rattle.writing.specs.Writer.{erase_empty}
use Rattle.leftover.specs.Leaving.{is_emptied}
use Rattle.writer.proofs.Choosing.{erase_follows, erase_made, one_done, one_room}
use Rattle.writer.proofs.store.Draft.erase_empty.Goals as goal

pub put-requires : goal.put-requires
put-requires c =
    let w = c.args.self.now in
    let x = c.args.x in
    one_room (erase_empty x) (Erase x) is_emptied w x (erase_made w x c.requires.variable) (sym c.erase_empty.ensures.answer ∙ c.if-erase_empty.true) c.requires.ready

pub returns-then-erase_empty : goal.returns-then-erase_empty
returns-then-erase_empty c =
    let w = c.args.self.now in
    let v = c.put.new.self in
    let x = c.args.x in
    one_done (erase_empty x) (Erase x) is_emptied w x (erase_made w x c.requires.variable) v _ (sym c.erase_empty.ensures.answer ∙ c.if-erase_empty.true) c.put.ensures.same c.put.ensures.wrote
    (λ st follows. erase_follows w v x c.requires.variable (ap (λ r. r.filled) c.put.ensures.left ∙ c.erase_empty.ensures.filled) (ap (λ r. r.fresh) c.put.ensures.left ∙ c.erase_empty.ensures.fresh) st follows (ap (λ r. r.words) c.put.ensures.left ∙ c.if-erase_empty.ensures.words))
