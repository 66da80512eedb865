-- The number of each refusal of a witness's answers. Assumes nothing.
use Rattle.std.specs.Prelude.{ℕ, Some, None, Option}
use Rattle.model.specs.Spelling.{Word}
use Rattle.witness.specs.declared.refusals.WitnessRefusal.{WitnessRefusal}
use Rattle.witness.specs.declared.refusals.WitnessRefusal.TheVariants.{Absent, PastWord}

abbrev pub witness_number : WitnessRefusal → ℕ
witness_number Absent = 61
witness_number PastWord = 62

-- the number by which an answer about the word that a variable's word spells is refused, if it is
abbrev pub refusal_number : Option Word → ℕ
refusal_number None = 61
refusal_number (Some w) = 62
