use Rattle.std.proofs.Common.{sym, ap, ◌∙◌}
use Rattle.systems.specs.Sides.{on_sides}
use Rattle.leftover.specs.Leaving.{joined_side}
use Rattle.leftover.proofs.Sides.{blocks_or_none}
use Rattle.leftover.proofs.store.Leftover.join_in_sides.Goals as goal

pub returns-in-Block-clause-filled : goal.returns-in-Block-clause-filled
returns-in-Block-clause-filled c =
    let s = c.args.self.now in
    c.replace_blocks.ensures ∙ blocks_or_none c.in-Block.a c.in-Block.n s.fresh s.filled ∙ ap (λ rule. on_sides (joined_side rule s.fresh) s.filled) (sym c.in-Block.is)
