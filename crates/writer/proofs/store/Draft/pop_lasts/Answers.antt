use Rattle.std.proofs.Common.{arith}
use Rattle.writing.specs.Writer.{pop_last}
use Rattle.writer.proofs.Following.{again_done, again_ready, upto_begins, upto_next}
use Rattle.writer.proofs.store.Draft.pop_lasts.Goals as goal

pub loop-init : goal.loop-init
loop-init c = upto_begins (λ _. pop_last c.args.a c.args.x) 0 c.args.self.now

pub pop_last-requires-clause-ready : goal.pop_last-requires-clause-ready
pop_last-requires-clause-ready c = again_ready (pop_last c.args.a c.args.x) c.loop.counter c.args.n c.args.self.now c.loop.self (omega arith) c.requires.ready c.loop.invariant

pub loop-preserved : goal.loop-preserved
loop-preserved c = upto_next (λ _. pop_last c.args.a c.args.x) 0 c.loop.counter c.args.self.now c.loop.self c.pop_last.new.self (omega arith) c.loop.invariant c.pop_last.ensures

pub returns : goal.returns
returns c = again_done (pop_last c.args.a c.args.x) c.loop.counter c.args.n c.args.self.now c.loop.self (omega arith) c.loop.invariant
