use Rattle.std.proofs.Common.{arith}
use Rattle.writing.specs.Writer.{erase_empty}
use Rattle.writer.proofs.Following.{upto_begins, upto_next, variables_done, variables_ready}
use Rattle.writer.proofs.store.Draft.erase_all.Goals as goal

pub loop-x-init : goal.loop-x-init
loop-x-init c = upto_begins erase_empty 0 c.args.self.now

pub erase_empty-requires-clause-ready : goal.erase_empty-requires-clause-ready
erase_empty-requires-clause-ready c = variables_ready erase_empty c.loop-x.x c.args.self.now c.loop-x.self (omega arith) c.requires c.loop-x.invariant

pub loop-x-preserved : goal.loop-x-preserved
loop-x-preserved c = upto_next erase_empty 0 c.loop-x.x c.args.self.now c.loop-x.self c.erase_empty.new.self (omega arith) c.loop-x.invariant c.erase_empty.ensures

pub returns : goal.returns
returns c = variables_done erase_empty c.loop-x.x c.args.self.now c.loop-x.self (omega arith) c.loop-x.invariant
