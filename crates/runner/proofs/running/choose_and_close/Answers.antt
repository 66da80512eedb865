use Rattle.witness.specs.Holding.{contents_of}
use Rattle.runner.proofs.Closes.{close_told}
use Rattle.runner.proofs.running.choose_and_close.Goals as goal

pub returns : goal.returns
returns c = λ all equations rows second came least most full.
    let third = c.in_ok-choose_rows.ensures all equations rows second came in
    close_told all c.args.kind.least c.args.kind.most rows equations third.0 c.choose_rows.new.check c.args.table.now c.close.new.table (contents_of c.args.witness.now) (contents_of c.close.new.witness) c.close.result c.map_err.result third.1 third.2 least most full c.close.ensures.answer c.map_err.ensures.cases
