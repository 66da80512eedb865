-- What every run keeps. Assumes nothing.
use Rattle.std.specs.Prelude.{◌≡◌, ℕ, ◌<◌, ◌≤◌, true, length}
use Rattle.std.specs.List.{AllByRecursion}
use Rattle.model.specs.Witnesses.{rules_fit}
use Rattle.systems.specs.declared.Place.{Place}
use Rattle.systems.specs.declared.Place.TheVariants.{Letter, Variable}
use Rattle.systems.specs.declared.Pop.{Pop}
use Rattle.systems.specs.declared.Pop.TheVariants.{AtLeft, AtRight}
use Rattle.systems.specs.Sides.{sides, places}
use Rattle.systems.specs.Standings.{Standing, fresh}

-- the letter is below k, the variable one of A to Z
abbrev pub KnownPlace : ℕ → Place → Type 0
KnownPlace k (Letter a) = a < k
KnownPlace k (Variable x) = x < 26

-- the same of a pop
abbrev pub KnownPop : ℕ → Pop → Type 0
KnownPop k (AtLeft x a) = (x < 26) × (a < k)
KnownPop k (AtRight x a) = (x < 26) × (a < k)

-- every letter is known, the rules fit, and no limit is passed
pub record WellFormed (S : Standing) : Type 0 where
  pub known_places : AllByRecursion (AllByRecursion (KnownPlace (fresh S))) (sides S.equations)
  pub known_pops : AllByRecursion (KnownPop (fresh S)) S.pops
  pub fitting_rules : rules_fit S.rules ≡ true
  pub few_rules : length S.rules ≤ 512
  pub few_pops : length S.pops ≤ 1024
  pub few_places : places S.equations ≤ 2048
  pub few_equations : length S.equations ≤ 32
