-- The text that a run prints. Assumes nothing.
use Rattle.std.specs.Prelude.{◌≡◌, ℕ, List, [], ◌∷◌, ◌++◌, length, drop, Some, None, Ok, Err, Option, Result, codes, decimal}
use Rattle.model.specs.Names.{capital_of}
use Rattle.systems.specs.declared.Detail.{Detail}
use Rattle.systems.specs.declared.Detail.TheVariants.{Variable, Equation}
use Rattle.text.specs.Pieces.{Bytes}
use Rattle.text.specs.Refusals.{refusal_text}
use Rattle.format.specs.Listing.{listing}
use Rattle.answers.specs.declared.errors.RunError.{RunError}
use Rattle.answers.specs.declared.errors.Refused.{Refused}
use Rattle.answers.specs.Answers.{Answer}
use Rattle.answers.specs.Errors.{run_detail, run_line, run_number}

-- one byte, or -
abbrev pub or_dash : Option ℕ → Bytes
or_dash None = codes "-"
or_dash (Some b) = b ∷ []

-- how a refusal names what it names, and - where it names nothing
abbrev pub detail_text : Option Detail → Bytes
detail_text None = codes "-"
detail_text (Some (Variable x)) = or_dash (capital_of x)
detail_text (Some (Equation i)) = decimal i

abbrev pub error_text : RunError → Bytes
error_text e = refusal_text (run_number e) (run_line e) (detail_text (run_detail e))

-- what is printed for an answer
abbrev pub printed : Answer → Bytes
printed (Ok c) = listing c
printed (Err e) = error_text e

-- and what the call answers then
abbrev pub told : Answer → Result ℕ Refused
told (Ok c) = Ok (length (listing c))
told (Err e) = Err (record { why = e; length = length (error_text e) })

-- a text at the front of a buffer, whose rest is left
abbrev pub over : Bytes → Bytes → Bytes
over text old = text ++ drop (length text) old
