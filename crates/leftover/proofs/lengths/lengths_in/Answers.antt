use Rattle.std.proofs.Common.{false, ◌||◌, eqb, refl, ap, arith}
use Rattle.std.proofs.lemmas.List.{get_or-replicate}
use Rattle.systems.specs.Rows.{any}
use Rattle.leftover.specs.Noting.{mark_rows}
use Rattle.leftover.proofs.lengths.lengths_in.Goals as goal

pub loop-mark-init : goal.loop-mark-init
loop-mark-init c = (refl, omega arith, λ n low. ap (λ b. b || any (eqb n) (mark_rows c.args.a 0 c.args.marks.now)) (get_or-replicate 513 n false false low))
