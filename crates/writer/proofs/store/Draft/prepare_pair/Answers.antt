use Rattle.writing.specs.Writer.{erase_empty, pop_first, pop_last, then}
use Rattle.writer.proofs.Following.{does_then, ready_behind, ready_front}
use Rattle.writer.proofs.store.Draft.prepare_pair.Goals as goal

pub pop_first-requires-clause-ready : goal.pop_first-requires-clause-ready
pop_first-requires-clause-ready c = ready_front (pop_first c.args.b c.args.x) (then (pop_last c.args.a c.args.x) (erase_empty c.args.x)) c.args.self.now c.requires.ready

pub pop_last-requires-clause-ready : goal.pop_last-requires-clause-ready
pop_last-requires-clause-ready c =
    ready_front (pop_last c.args.a c.args.x) (erase_empty c.args.x) c.pop_first.new.self
    (ready_behind (pop_first c.args.b c.args.x) (then (pop_last c.args.a c.args.x) (erase_empty c.args.x)) c.args.self.now c.pop_first.new.self c.requires.ready c.pop_first.ensures)

pub erase_empty-requires-clause-ready : goal.erase_empty-requires-clause-ready
erase_empty-requires-clause-ready c =
    ready_behind (pop_last c.args.a c.args.x) (erase_empty c.args.x) c.pop_first.new.self c.pop_last.new.self
    (ready_behind (pop_first c.args.b c.args.x) (then (pop_last c.args.a c.args.x) (erase_empty c.args.x)) c.args.self.now c.pop_first.new.self c.requires.ready c.pop_first.ensures)
    c.pop_last.ensures

pub returns : goal.returns
returns c =
    does_then (pop_first c.args.b c.args.x) (then (pop_last c.args.a c.args.x) (erase_empty c.args.x)) c.args.self.now c.pop_first.new.self c.erase_empty.new.self c.pop_first.ensures
    (does_then (pop_last c.args.a c.args.x) (erase_empty c.args.x) c.pop_first.new.self c.pop_last.new.self c.erase_empty.new.self c.pop_last.ensures c.erase_empty.ensures)
