use Rattle.std.proofs.Common.{sym}
use Rattle.writing.specs.Writer.{pop_rows, then}
use Rattle.writer.proofs.Following.{does_then, ready_behind, ready_front, same_does, same_ready}
use Rattle.writer.proofs.Rowing.{blocks_in_two, blocks_part, noted_done, noted_ready, rows_part}
use Rattle.writer.proofs.store.Draft.join_blocks.Goals as goal

pub prepare_blocks-requires : goal.prepare_blocks-requires
prepare_blocks-requires c =
    let a = c.args.a in
    ready_front (pop_rows a) (rows_part a) c.args.self.now (same_ready (blocks_part a) (then (pop_rows a) (rows_part a)) c.args.self.now (λ _ st _ _. sym (blocks_in_two a st)) c.requires)

pub blocks-requires : goal.blocks-requires
blocks-requires c =
    let a = c.args.a in
    noted_ready a c.lengths-noted.result c.prepare_blocks.new.self c.lengths-noted.ensures
    (ready_behind (pop_rows a) (rows_part a) c.args.self.now c.prepare_blocks.new.self (same_ready (blocks_part a) (then (pop_rows a) (rows_part a)) c.args.self.now (λ _ st _ _. sym (blocks_in_two a st)) c.requires) c.prepare_blocks.ensures)

pub returns : goal.returns
returns c =
    let a = c.args.a in
    same_does (then (pop_rows a) (rows_part a)) (blocks_part a) c.args.self.now c.blocks-2.new.self (λ _ st _ _. blocks_in_two a st)
    (does_then (pop_rows a) (rows_part a) c.args.self.now c.prepare_blocks.new.self c.blocks-2.new.self c.prepare_blocks.ensures
    (noted_done a c.lengths-noted.result c.prepare_blocks.new.self c.blocks-2.new.self c.lengths-noted.ensures c.blocks-2.ensures))
