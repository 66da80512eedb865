use Rattle.std.proofs.Common.{◌≡◌, ◌≤◌, true, subst, sym}
use Rattle.systems.specs.Sides.{places, stands_in}
use Rattle.checker.specs.Holding.{loading}
use Rattle.given.proofs.Loads.{answer_at, some_few, some_low}
use Rattle.given.proofs.reading.read.Goals as goal

pub start-requires-clause-few : goal.start-requires-clause-few
start-requires-clause-few c =
    let s = c.args.system.now in
    subst (λ E. places E ≤ 1024) (sym c.sides.ensures) (some_few (loading s) s.run)

pub start-requires-clause-low : goal.start-requires-clause-low
start-requires-clause-low c x of =
    let s = c.args.system.now in
    some_low (loading s) s.run x (subst (λ E. stands_in E x ≡ true) c.sides.ensures of)

pub returns : goal.returns
returns c =
    let s = c.args.system.now in
    answer_at c.args.given.now.buffer.now c.args.given.now.spans (loading s) c.sides.result.now c.start.new.left s.run c.sides.ensures c.start.result c.start.ensures
