use Rattle.std.proofs.Common.{sym, subst, arith}
use Rattle.model.specs.declared.Rule.TheVariants.{Pair}
use Rattle.listing.specs.Printing.{Printed}
use Rattle.listing.proofs.Printers.{printed_then}
use Rattle.listing.proofs.Texts.{front_more, front_fits}
use Rattle.listing.proofs.printer.Printer.rules.Goals as goal

pub rule-requires : goal.rule-requires
rule-requires c = omega (arith, front_fits _ _ (Pair 0 0) c.loop-i-test.true, c.loop-i.invariant.put.behind)

pub bytes-requires : goal.bytes-requires
bytes-requires c = omega (arith, front_fits _ _ (Pair 0 0) c.loop-i-test.true, c.loop-i.invariant.put.behind)

pub loop-i-preserved : goal.loop-i-preserved
loop-i-preserved c =
    subst (λ bs. Printed c.args.self.now bs c.bytes.new.self) (sym (front_more c.args.rules.now c.loop-i.i (Pair 0 0) c.loop-i-test.true))
    (printed_then c.loop-i.invariant (printed_then c.rule.ensures c.bytes.ensures))
