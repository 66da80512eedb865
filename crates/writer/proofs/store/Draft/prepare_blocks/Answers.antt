use Rattle.std.proofs.Common.{arith}
use Rattle.writing.specs.Writer.{for_block}
use Rattle.writer.proofs.Following.{upto_begins, upto_next, variables_done, variables_ready}
use Rattle.writer.proofs.store.Draft.prepare_blocks.Goals as goal

pub loop-x-init : goal.loop-x-init
loop-x-init c = upto_begins (for_block c.args.a) 0 c.args.self.now

pub prepare_block-requires-clause-ready : goal.prepare_block-requires-clause-ready
prepare_block-requires-clause-ready c = variables_ready (for_block c.args.a) c.loop-x.x c.args.self.now c.loop-x.self (omega arith) c.requires c.loop-x.invariant

pub loop-x-preserved : goal.loop-x-preserved
loop-x-preserved c = upto_next (for_block c.args.a) 0 c.loop-x.x c.args.self.now c.loop-x.self c.prepare_block.new.self (omega arith) c.loop-x.invariant c.prepare_block.ensures

pub returns : goal.returns
returns c = variables_done (for_block c.args.a) c.loop-x.x c.args.self.now c.loop-x.self (omega arith) c.loop-x.invariant
