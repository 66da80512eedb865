use Rattle.std.proofs.Common.{subst, sym, arith}
use Rattle.writer.specs.Following.{Does}
use Rattle.writer.proofs.Following.{upto_begins, upto_next, upto_ready}
use Rattle.writer.proofs.Rowing.{block_at, block_done, block_ready, blocks_done, blocks_ready, no_block}
use Rattle.writer.proofs.store.Draft.blocks.Goals.{then-noted-n, else-noted-n}
use Rattle.writer.proofs.store.Draft.blocks.Goals as goal

pub loop-n-init : goal.loop-n-init
loop-n-init c = upto_begins (block_at c.args.a c.args.noted.now) 2 c.args.self.now

pub block-requires-clause-ready : goal.block-requires-clause-ready
block-requires-clause-ready c =
    block_ready c.args.a c.args.noted.now c.loop-n.n c.loop-n.self c.if-noted-n.true
    (upto_ready (block_at c.args.a c.args.noted.now) 2 c.loop-n.n 513 c.args.self.now c.loop-n.self c.loop-n.auto.n c.loop-n-test.true (blocks_ready c.args.a c.args.noted.now c.args.self.now c.requires) c.loop-n.invariant)

pub loop-n-preserved : goal.loop-n-preserved
loop-n-preserved c =
    let n = c.loop-n.n in
    upto_next (block_at c.args.a c.args.noted.now) 2 n c.args.self.now c.loop-n.self c.if-noted-n.self c.loop-n.auto.n c.loop-n.invariant
    (elim c.if-noted-n.branch [
      | then-noted-n w ↦ subst (λ v. Does (block_at c.args.a c.args.noted.now n) c.loop-n.self v) (sym w.self-is) (block_done c.args.a c.args.noted.now n c.loop-n.self w.block.new.self w.if-noted-n.true w.block.ensures)
      | else-noted-n w ↦ subst (λ v. Does (block_at c.args.a c.args.noted.now n) c.loop-n.self v) (sym w.self-is) (no_block c.args.a c.args.noted.now n c.loop-n.self w.if-noted-n.false)
    ])

pub returns : goal.returns
returns c = blocks_done c.args.a c.args.noted.now c.loop-n.n c.args.self.now c.loop-n.self (omega arith) c.loop-n.invariant
