use Rattle.writing.specs.Writer.{again, erase_empty, pop_first, pop_last, then}
use Rattle.writer.proofs.Choosing.{counted_done, counted_ready}
use Rattle.writer.proofs.Following.{does_then, ready_behind, ready_front}
use Rattle.writer.proofs.store.Draft.prepare_block.Goals as goal

pub pop_firsts-requires-clause-ready : goal.pop_firsts-requires-clause-ready
pop_firsts-requires-clause-ready c =
    let n = c.letters-n.result in
    ready_front (again n (pop_first c.args.a c.args.x)) (then (again n (pop_last c.args.a c.args.x)) (erase_empty c.args.x)) c.args.self.now
    (counted_ready c.args.self.now c.args.x c.args.a c.requires.variable n c.letters-n.ensures c.requires.ready)

pub pop_lasts-requires-clause-ready : goal.pop_lasts-requires-clause-ready
pop_lasts-requires-clause-ready c =
    let n = c.letters-n.result in
    ready_front (again n (pop_last c.args.a c.args.x)) (erase_empty c.args.x) c.pop_firsts.new.self
    (ready_behind (again n (pop_first c.args.a c.args.x)) (then (again n (pop_last c.args.a c.args.x)) (erase_empty c.args.x)) c.args.self.now c.pop_firsts.new.self
    (counted_ready c.args.self.now c.args.x c.args.a c.requires.variable n c.letters-n.ensures c.requires.ready) c.pop_firsts.ensures)

pub erase_empty-requires-clause-ready : goal.erase_empty-requires-clause-ready
erase_empty-requires-clause-ready c =
    let n = c.letters-n.result in
    ready_behind (again n (pop_last c.args.a c.args.x)) (erase_empty c.args.x) c.pop_firsts.new.self c.pop_lasts.new.self
    (ready_behind (again n (pop_first c.args.a c.args.x)) (then (again n (pop_last c.args.a c.args.x)) (erase_empty c.args.x)) c.args.self.now c.pop_firsts.new.self
    (counted_ready c.args.self.now c.args.x c.args.a c.requires.variable n c.letters-n.ensures c.requires.ready) c.pop_firsts.ensures)
    c.pop_lasts.ensures

pub returns : goal.returns
returns c =
    let n = c.letters-n.result in
    let w = c.args.self.now in
    counted_done w c.args.x c.args.a c.requires.variable n c.erase_empty.new.self c.letters-n.ensures
    (does_then (again n (pop_first c.args.a c.args.x)) (then (again n (pop_last c.args.a c.args.x)) (erase_empty c.args.x)) w c.pop_firsts.new.self c.erase_empty.new.self c.pop_firsts.ensures
    (does_then (again n (pop_last c.args.a c.args.x)) (erase_empty c.args.x) c.pop_firsts.new.self c.pop_lasts.new.self c.erase_empty.new.self c.pop_lasts.ensures c.erase_empty.ensures))
