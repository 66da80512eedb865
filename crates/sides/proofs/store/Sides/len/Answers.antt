use Rattle.std.proofs.Common.{length, ap, arith}
use Rattle.systems.specs.Sides.{places}
use Rattle.sides.proofs.Flat.{places_length}
use Rattle.sides.proofs.store.Sides.len.Goals as goal

pub overflow_sub-result : goal.overflow_sub-result
overflow_sub-result c = omega (arith, places_length c.self.inside.marks c.self.invariant.whole)

pub returns-clause-value : goal.returns-clause-value
returns-clause-value c = omega (arith, places_length c.self.inside.marks c.self.invariant.whole, ap places c.self.view_is)

pub returns-clause-few : goal.returns-clause-few
returns-clause-few c = omega (arith, c.self.invariant.counted, c.self.invariant.few, ap length c.self.view_is)
