use Rattle.std.proofs.Common.{sym, subst, arith}
use Rattle.listing.specs.Printing.{Printed}
use Rattle.listing.proofs.Printers.{printed_then}
use Rattle.listing.proofs.Texts.{after_more, after_fits}
use Rattle.listing.proofs.printer.Printer.more_letters.Goals as goal

pub bytes-requires : goal.bytes-requires
bytes-requires c = omega (arith, after_fits _ _ c.loop-letter-test.true, c.loop-letter.invariant.put.behind)

pub letter-requires : goal.letter-requires
letter-requires c = omega (arith, after_fits _ _ c.loop-letter-test.true, c.loop-letter.invariant.put.behind)

pub loop-letter-preserved : goal.loop-letter-preserved
loop-letter-preserved c =
    subst (λ bs. Printed c.args.self.now bs c.letter.new.self) (sym (after_more c.args.letters.now c.loop-letter.letter-index c.loop-letter-test.true))
    (printed_then c.loop-letter.invariant (printed_then c.bytes.ensures c.letter.ensures))
