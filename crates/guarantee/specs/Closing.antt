-- What a close answers, and what it leaves in the value table and the witness. Assumes nothing.
use Rattle.std.specs.Prelude.{ℕ, zero, suc, Bool, true, false, cond, not, ◌&&◌, List, [], ◌∷◌, ◌++◌, map, length, drop, is_some, Some, None, Option, ◌==◌, nat_lt}
use Rattle.std.specs.Option.{option_map}
use Rattle.model.specs.Spelling.{Word, spell, spell_word}
use Rattle.model.specs.Witnesses.{Entry, Contents}
use Rattle.systems.specs.declared.Detail.{Detail}
use Rattle.systems.specs.declared.Detail.TheVariants as detail
use Rattle.systems.specs.declared.Place.{Place}
use Rattle.systems.specs.declared.Place.TheVariants.{Letter, Variable}
use Rattle.systems.specs.Sides.{Side, Equation}
use Rattle.systems.specs.Standings.{Standing, fresh, live, popped_word}
use Rattle.systems.specs.Values.{word_value}
use Rattle.writing.specs.Writer.{from, variables, first}
use Rattle.guarantee.specs.declared.CloseRefusal.{CloseRefusal}
use Rattle.guarantee.specs.declared.CloseRefusal.TheVariants.{SmallTable, StillLive, SidesDiffer, Fails}

-- the number of each refusal
abbrev pub close_number : CloseRefusal → ℕ
close_number SmallTable = 30
close_number (StillLive x) = 31
close_number (SidesDiffer i) = 32
close_number (Fails x) = 33

-- the variable or the equation that it names, if it names one
abbrev pub close_detail : CloseRefusal → Option Detail
close_detail SmallTable = None
close_detail (StillLive x) = Some (detail.Variable x)
close_detail (SidesDiffer i) = Some (detail.Equation i)
close_detail (Fails x) = Some (detail.Variable x)

-- what a measure means: the value of each letter a to z, the empty value, the join of two values, and which variable passes on which value
pub record Meaning (V : Type 0) : Type 0 where
  pub letter : ℕ → V
  pub empty : V
  pub join : V → V → V
  pub passes : ℕ → V → Bool

-- the value of a word
abbrev pub value_of : {V : Type 0} → Meaning V → Word → V
value_of m = word_value m.letter m.empty m.join

-- the word that x spells once nothing is left of it
abbrev pub found_word : Standing → ℕ → Word
found_word S x = spell_word S.rules (popped_word S x)

-- the same place, the same side
abbrev pub same_place : Place → Place → Bool
same_place (Letter a) (Letter b) = a == b
same_place (Letter a) (Variable y) = false
same_place (Variable x) (Letter b) = false
same_place (Variable x) (Variable y) = x == y

abbrev pub same_side : Side → Side → Bool
same_side [] [] = true
same_side [] (q ∷ t) = false
same_side (p ∷ s) [] = false
same_side (p ∷ s) (q ∷ t) = same_place p q && same_side s t

-- the number of the first equation whose sides differ, where the first has the number i
abbrev pub first_differing : ℕ → List Equation → Option ℕ
first_differing i [] = None
first_differing i (e ∷ more) = cond (same_side e.0 e.1) (first_differing (suc i) more) (Some i)

-- the variable x of the system does not pass on its word
abbrev pub fails : {V : Type 0} → Meaning V → (ℕ → Bool) → Standing → ℕ → Bool
fails m system S x = system x && not (m.passes x (value_of m (found_word S x)))

-- the first reason, else a later one
abbrev pub or_else : {A : Type 0} → Option A → Option A → Option A
or_else (Some why) later = Some why
or_else None later = later

-- the first reason, in this order, why the close does not accept, where `system` tells the variables of the system and the value table has so many entries
abbrev pub close_refusal : {V : Type 0} → Meaning V → (ℕ → Bool) → Standing → ℕ → Option CloseRefusal
close_refusal m system S room =
    cond (nat_lt room (fresh S)) (Some SmallTable)
    (or_else (option_map StillLive (first (live S) variables))
    (or_else (option_map SidesDiffer (first_differing 1 S.equations))
    (option_map Fails (first (fails m system S) variables))))

-- the entry of x: the letters popped left in order, then those popped right in reverse
abbrev pub entry : Standing → ℕ → Entry
entry S x = record { variable = x; word = popped_word S x }

-- the entries of the variables of the system below n, the last first
abbrev pub entries : (ℕ → Bool) → Standing → ℕ → List Entry
entries system S zero = []
entries system S (suc n) = cond (system n) (entry S n ∷ entries system S n) (entries system S n)

-- the witness: the rules, and an entry for each variable of the system
abbrev pub witness : (ℕ → Bool) → Standing → Contents
witness system S = record { rules = S.rules; entries = entries system S 26 }

-- the table with the value of what each known letter spells at its number
abbrev pub filled_table : {V : Type 0} → Meaning V → Standing → List V → List V
filled_table m S table = map (λ c. value_of m (spell S.rules c)) (from 0 (fresh S)) ++ drop (fresh S) table

-- the table is filled on acceptance and where a variable fails
abbrev pub fills : Option CloseRefusal → Bool
fills None = true
fills (Some SmallTable) = false
fills (Some (StillLive x)) = false
fills (Some (SidesDiffer i)) = false
fills (Some (Fails x)) = true

-- what a close answers, and the value table and the witness behind it
pub record Closed (V : Type 0) : Type 0 where
  pub answer : Option CloseRefusal
  pub table : List V
  pub written : Contents

abbrev pub close : {V : Type 0} → Meaning V → (ℕ → Bool) → Standing → List V → Contents → Closed V
close m system S table old = record {
  answer = close_refusal m system S (length table);
  table = cond (fills (close_refusal m system S (length table))) (filled_table m S table) table;
  written = cond (is_some (close_refusal m system S (length table))) old (witness system S);
}
