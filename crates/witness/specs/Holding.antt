-- What a witness holds. Assumes nothing.
use Rattle.std.specs.Prelude.{[], reverse}
use Rattle.letters.specs.Holding.{rules_of}
use Rattle.model.specs.Witnesses.{Contents}
use Rattle.witness.specs.Seats.{entries}
use Rattle.witness.specs.declared.store.Witness.{Witness}

abbrev pub contents_of : Witness → Contents
contents_of w = record { rules = rules_of w.made; entries = entries (reverse w.seats) w.letters }

-- no rule and no variable
abbrev pub nothing : Contents
nothing = record { rules = []; entries = [] }
