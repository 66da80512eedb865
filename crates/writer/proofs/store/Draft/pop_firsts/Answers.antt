use Rattle.std.proofs.Common.{arith}
use Rattle.writing.specs.Writer.{pop_first}
use Rattle.writer.proofs.Following.{again_done, again_ready, upto_begins, upto_next}
use Rattle.writer.proofs.store.Draft.pop_firsts.Goals as goal

pub loop-init : goal.loop-init
loop-init c = upto_begins (λ _. pop_first c.args.a c.args.x) 0 c.args.self.now

pub pop_first-requires-clause-ready : goal.pop_first-requires-clause-ready
pop_first-requires-clause-ready c = again_ready (pop_first c.args.a c.args.x) c.loop.counter c.args.n c.args.self.now c.loop.self (omega arith) c.requires.ready c.loop.invariant

pub loop-preserved : goal.loop-preserved
loop-preserved c = upto_next (λ _. pop_first c.args.a c.args.x) 0 c.loop.counter c.args.self.now c.loop.self c.pop_first.new.self (omega arith) c.loop.invariant c.pop_first.ensures

pub returns : goal.returns
returns c = again_done (pop_first c.args.a c.args.x) c.loop.counter c.args.n c.args.self.now c.loop.self (omega arith) c.loop.invariant
