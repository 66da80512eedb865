use Rattle.std.proofs.Common.{◌+◌, [], ◌∷◌, ap, map, min, ◌∙◌, arith}
use Rattle.std.specs.Option.{option_map}
use Rattle.systems.specs.declared.Choice.TheVariants.{Pair}
use Rattle.systems.specs.Sides.{on_sides, side_pairs, word_pairs}
use Rattle.writer.proofs.Choosing.{pair_follows}
use Rattle.writer.proofs.Following.{next_letter, room_left}
use Rattle.writer.proofs.store.Draft.pair.Goals as goal

pub put-requires : goal.put-requires
put-requires c = room_left (λ _. Pair c.args.a c.args.b ∷ []) c.args.self.now (λ _ _. omega arith) c.requires

pub returns : goal.returns
returns c =
    let wrote = c.put.ensures.wrote in
    let rest = c.put.ensures.left in
    let one_more = next_letter (λ _. Pair c.args.a c.args.b ∷ []) c.args.self.now c.requires c.join.new.self.fresh (c.join.ensures.fresh ∙ ap (λ r. min (r.fresh + 1) 65535) rest) in
    record {
      same = c.put.ensures.same;
      writes = λ σ st at. (
        record { long = wrote.long; put = wrote.put },
        pair_follows c.args.self.now (record { list = c.put.new.self.list; count = c.put.new.self.count; left = record { ref_ptr = c.put.new.self.left.ref_ptr; ghost_name = c.put.new.self.left.ghost_name; now = c.join.new.self } }) c.args.a c.args.b st at.follows
            (c.join.ensures.words ∙ ap (λ r. map (option_map (word_pairs c.args.a c.args.b r.fresh)) r.words) rest)
            (c.join.ensures.filled ∙ ap (λ r. on_sides (side_pairs c.args.a c.args.b r.fresh) r.filled) rest)
            one_more
            at.sure,
      );
    }
