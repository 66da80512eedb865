-- Every witness is valid, by the facts in its type. Assumes nothing.
use Rattle.std.proofs.lemmas.Bool.{and_from}
use Rattle.letters.specs.Holding.{rules_of}
use Rattle.model.specs.Witnesses.{entries_fit, rules_fit}
use Rattle.witness.specs.Holding.{contents_of}
use Rattle.witness.specs.Laws.{EveryWitnessIsValid}

pub always_valid : EveryWitnessIsValid
always_valid w = and_from (rules_fit (rules_of w.made)) (entries_fit (rules_of w.made) (contents_of w).entries) w.made.fit w.fit
