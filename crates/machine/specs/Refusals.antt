-- The number of the refusal. Assumes nothing.
use Rattle.std.specs.Prelude.{ℕ}
use Rattle.machine.specs.declared.kind.MachineRefusal.{MachineRefusal}
use Rattle.machine.specs.declared.kind.MachineRefusal.TheVariants.{NoState}

abbrev pub machine_number : MachineRefusal → ℕ
machine_number NoState = 81
