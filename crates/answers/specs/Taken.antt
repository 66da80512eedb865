-- The calls of lines that are taken, in turn, from a new system on. Assumes nothing.
use Rattle.std.specs.Prelude.{◌≡◌, List, ◌∷◌, ◌++◌, None}
use Rattle.std.specs.List.{AllByRecursion}
use Rattle.systems.specs.declared.Choice.{Choice}
use Rattle.systems.specs.Loading.{load_refusal}
use Rattle.systems.specs.Runs.{Load, opened}
use Rattle.writing.specs.Theorems.{NoneRefused}
use Rattle.length.specs.Limits.{InOrder}
use Rattle.tables.specs.declared.types.Limit.{Limit}
use Rattle.tables.specs.Rows.{IsEquation, IsLimit, IsChoice}
use Rattle.tables.specs.Written.{ListedOnce}

-- each load is taken after those before it
abbrev pub EachLoaded : List Load → Type 0
EachLoaded loads = (before behind : List Load) (load : Load) → loads ≡ before ++ (load ∷ behind) → load_refusal (opened before) load.0 load.1 ≡ None

-- rows of the first table, all loaded
pub record FirstTaken (equations : List Load) : Type 0 where
  pub rows : AllByRecursion IsEquation equations
  pub loaded : EachLoaded equations

-- rows of the second, behind those: no variable is listed twice, and each least and most are in order
pub record SecondTaken (equations : List Load) (limits : List Limit) : Type 0 where
  pub first : FirstTaken equations
  pub rows : AllByRecursion IsLimit limits
  pub once : ListedOnce limits
  pub in_order : AllByRecursion (λ l. InOrder l.least l.most) limits

-- rows of the third, behind those: each choice is taken, put in turn to the check that is then opened
pub record ThirdTaken (equations : List Load) (limits : List Limit) (choices : List Choice) : Type 0 where
  pub second : SecondTaken equations limits
  pub rows : AllByRecursion IsChoice choices
  pub chosen : NoneRefused equations choices
