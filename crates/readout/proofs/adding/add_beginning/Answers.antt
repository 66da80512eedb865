use Rattle.std.proofs.Common.{sym, refl, arith}
use Rattle.std.proofs.lemmas.Grind.{common_steps}
use Rattle.std.proofs.lemmas.Bool.Decides.{nat_tests}
use Rattle.model.specs.Witnesses.{spelled}
use Rattle.witness.specs.Holding.{contents_of}
use Rattle.readout.proofs.Added.{fill_told, shown_told}
use Rattle.readout.proofs.adding.add_beginning.Goals as goal

pub add_letters-requires-clause-there : goal.add_letters-requires-clause-there
add_letters-requires-clause-there c = fill_told (spelled (contents_of c.args.witness.now) c.args.variable) c.args.total _ (sym c.requires.told) (omega arith)

pub returns-then-total-gt-SHOWN-clause-items : goal.returns-then-total-gt-SHOWN-clause-items
returns-then-total-gt-SHOWN-clause-items c =
    let items = c.add_letters.ensures.items in
    let told = shown_told (spelled (contents_of c.args.witness.now) c.args.variable) c.args.total _ items.0 _ (sym c.requires.told) c.min.ensures c.if-total-eq0.false items.1 refl in
    let added = items.2 in
    grind (arith, common_steps, nat_tests, told, added)

pub returns-else-total-gt-SHOWN-clause-items : goal.returns-else-total-gt-SHOWN-clause-items
returns-else-total-gt-SHOWN-clause-items c =
    let items = c.add_letters.ensures.items in
    let told = shown_told (spelled (contents_of c.args.witness.now) c.args.variable) c.args.total _ items.0 _ (sym c.requires.told) c.min.ensures c.if-total-eq0.false items.1 refl in
    let added = items.2 in
    grind (arith, common_steps, nat_tests, told, added)
