use Rattle.std.proofs.Common.{◌+◌, [], ◌∷◌, ap, cond, map, min, ◌∙◌, arith}
use Rattle.std.specs.Option.{option_map}
use Rattle.std.proofs.lemmas.Bool.{ne_eqb}
use Rattle.model.specs.declared.Rule.TheVariants.{Block as BlockRule}
use Rattle.systems.specs.declared.Choice.TheVariants.{Block}
use Rattle.systems.specs.Sides.{on_sides, side_blocks, word_blocks}
use Rattle.leftover.specs.Leaving.{joined_side, joined_word}
use Rattle.writer.proofs.Choosing.{block_follows}
use Rattle.writer.proofs.Following.{next_letter, room_left}
use Rattle.writer.proofs.store.Draft.block.Goals as goal

pub put-requires : goal.put-requires
put-requires c = room_left (λ _. Block c.args.a c.args.n ∷ []) c.args.self.now (λ _ _. omega arith) c.requires.ready

pub returns : goal.returns
returns c =
    let wrote = c.put.ensures.wrote in
    let rest = c.put.ensures.left in
    let some = ne_eqb c.args.n 0 (λ none. omega (arith, none, c.requires.some)) in
    let one_more = next_letter (λ _. Block c.args.a c.args.n ∷ []) c.args.self.now c.requires.ready c.join.new.self.fresh (c.join.ensures.fresh ∙ ap (λ r. min (r.fresh + 1) 65535) rest) in
    record {
      same = c.put.ensures.same;
      writes = λ σ st at. (
        record { long = wrote.long; put = wrote.put },
        block_follows c.args.self.now (record { list = c.put.new.self.list; count = c.put.new.self.count; left = record { ref_ptr = c.put.new.self.left.ref_ptr; ghost_name = c.put.new.self.left.ghost_name; now = c.join.new.self } }) c.args.a c.args.n st at.follows
            (c.join.ensures.words ∙ ap (λ r. map (option_map (joined_word (BlockRule c.args.a c.args.n) r.fresh)) r.words) rest ∙ ap (λ t. map (option_map (λ w. cond t w (word_blocks c.args.a c.args.n c.args.self.now.left.now.fresh w))) c.args.self.now.left.now.words) some)
            (c.join.ensures.filled ∙ ap (λ r. on_sides (joined_side (BlockRule c.args.a c.args.n) r.fresh) r.filled) rest ∙ ap (λ t. on_sides (λ s. cond t s (side_blocks c.args.a c.args.n c.args.self.now.left.now.fresh s)) c.args.self.now.left.now.filled) some)
            one_more
            at.sure,
      );
    }
