use Rattle.std.proofs.Common.{◌≡◌}
use Rattle.systems.specs.Sides.{on_sides}
use Rattle.sides.specs.Holding.{only}
use Rattle.writing.specs.Refusals.{given}
use Rattle.writing.proofs.Given.{filled_below}
use Rattle.given.proofs.Steps.{WordsBelow}
use Rattle.given.proofs.filling.fill_all.Given as goal

abbrev pub invariant-loop-x : goal.invariant-loop-x
invariant-loop-x l = record {
  words : WordsBelow l.sides l.given.buffer.now l.given.spans l.x l.left.words;
  filled : l.left.filled ≡ on_sides (filled_below (given (only l.sides) l.given.buffer.now l.given.spans) l.sides l.x) l.sides;
  fresh : l.left.fresh ≡ 26;
}
