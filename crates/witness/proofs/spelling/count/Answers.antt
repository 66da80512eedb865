use Rattle.std.proofs.Common.{length, sym, ap, ◌∙◌}
use Rattle.std.proofs.lemmas.List.{length-replicate}
use Rattle.witness.specs.Rows.{parts}
use Rattle.witness.proofs.spelling.count.Goals as goal

pub returns-in-Block : goal.returns-in-Block
returns-in-Block c = sym (ap (λ rule. length (parts rule)) c.in-Block.is ∙ length-replicate c.in-Block.count c.in-Block.field-0)
