use Rattle.std.proofs.Common.{arith}
use Rattle.witness.specs.Holding.{contents_of}
use Rattle.listing.proofs.Letters.{pushes}
use Rattle.listing.proofs.Holding.{known_few}
use Rattle.listing.proofs.words.push_piece.Goals as goal

pub returns-in_err-letter : goal.returns-in_err-letter
returns-in_err-letter c = rw c.from_residual.ensures (λ a low few. c.in_err-letter.ensures a (omega (arith, known_few c.args.witness.now)))

pub returns : goal.returns
returns c =
    let h = c.in_ok-letter.ensures in
    rw c.ok.ensures.value (pushes (contents_of c.args.witness.now) (contents_of c.push_letter.new.self) c.args.piece.now c.in_ok-letter.field-0 c.push_letter.result c.requires (known_few c.args.witness.now) h.0 h.1 c.push_letter.ensures)
