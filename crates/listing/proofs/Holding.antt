-- What every witness keeps, as it is needed here. Assumes nothing.
use Rattle.std.proofs.Common.{◌≡◌, ◌≤◌, true, arith}
use Rattle.std.proofs.lemmas.Bool.{and_parts}
use Rattle.model.specs.Spelling.{known}
use Rattle.model.specs.Witnesses.{entries_fit, rules_fit}
use Rattle.model.proofs.Fitting.{rules_few}
use Rattle.witness.specs.Holding.{contents_of}
use Rattle.witness.specs.declared.store.Witness.{Witness}
use Rattle.witness.proofs.Keeping.{always_valid}

both : (w : Witness) → (rules_fit (contents_of w).rules ≡ true) × (entries_fit (contents_of w).rules (contents_of w).entries ≡ true)
both w = and_parts (rules_fit (contents_of w).rules) (entries_fit (contents_of w).rules (contents_of w).entries) (always_valid w)

pub rules_hold : (w : Witness) → rules_fit (contents_of w).rules ≡ true
rules_hold w = (both w).0

pub entries_hold : (w : Witness) → entries_fit (contents_of w).rules (contents_of w).entries ≡ true
entries_hold w = (both w).1

pub known_few : (w : Witness) → known (contents_of w).rules ≤ 538
known_few w = omega (arith, rules_few (contents_of w).rules (rules_hold w))
