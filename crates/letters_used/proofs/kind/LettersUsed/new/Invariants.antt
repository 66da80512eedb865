use Rattle.std.proofs.Common.{ℕ, ◌^◌, ◌<◌, length, get_or}
use Rattle.letters_used.proofs.kind.LettersUsed.new.Given as goal

abbrev pub invariant-loop-must : goal.invariant-loop-must
invariant-loop-must l = (u : ℕ) → u < length l.yielded → (get_or l.fn.required u 0 < 2 ^ 26) × (get_or l.fn.allowed u 0 < 2 ^ 26)
