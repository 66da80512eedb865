use Rattle.std.proofs.Common.{◌<◌, length, get_or, sym, ap, ◌∙◌, arith}
use Rattle.std.proofs.lemmas.List.{get_or-replicate, length-replicate}
use Rattle.witness.specs.Rows.{parts}
use Rattle.witness.proofs.spelling.part.Goals as goal

pub returns-in-Block : goal.returns-in-Block
returns-in-Block c =
    let a = c.in-Block.letter in
    let n = c.in-Block.field-1 in
    let lt : c.args.i < n = omega (arith, c.requires, ap (λ rule. length (parts rule)) c.in-Block.is, length-replicate n a) in
    sym (ap (λ rule. get_or (parts rule) c.args.i 0) c.in-Block.is ∙ get_or-replicate n c.args.i a 0 lt)
