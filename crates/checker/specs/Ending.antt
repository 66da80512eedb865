-- How a close ends, as one value, and the reasons that come before the measure is asked. Assumes nothing.
use Rattle.std.specs.Prelude.{ℕ, Bool, cond, List, Some, Option, nat_lt}
use Rattle.std.specs.Option.{option_map}
use Rattle.model.specs.Witnesses.{Contents}
use Rattle.systems.specs.Standings.{Standing, fresh, live}
use Rattle.writing.specs.Writer.{first, variables}
use Rattle.guarantee.specs.declared.CloseRefusal.{CloseRefusal}
use Rattle.guarantee.specs.declared.CloseRefusal.TheVariants.{SmallTable, StillLive, SidesDiffer}
use Rattle.guarantee.specs.Closing.{Closed, Meaning, first_differing, or_else}

-- what a kind means, by its four functions
abbrev pub meaning : {V : Type 0} → (ℕ → V) → V → (V → V → V) → (ℕ → V → Bool) → Meaning V
meaning letter empty join passes = record { letter = letter; empty = empty; join = join; passes = passes }

-- a close with this answer leaves this table and this witness
abbrev pub closed : {V : Type 0} → Option CloseRefusal → List V → Contents → Closed V
closed answer table written = record { answer = answer; table = table; written = written }

-- the first of the reasons before the measure, else a later one
abbrev pub reasons : Standing → ℕ → Option CloseRefusal → Option CloseRefusal
reasons S room later =
    cond (nat_lt room (fresh S)) (Some SmallTable)
    (or_else (option_map StillLive (first (live S) variables))
    (or_else (option_map SidesDiffer (first_differing 1 S.equations)) later))
