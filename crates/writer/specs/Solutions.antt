-- Which words are written, whatever they are outside the system. Assumes nothing.
use Rattle.std.specs.Prelude.{ℕ, ◌≤◌, List, take, Result}
use Rattle.std.specs.Result.{IsOkAnd}
use Rattle.systems.specs.Runs.{Load, loaded}
use Rattle.systems.specs.Sides.{Solution, Words}
use Rattle.systems.specs.Standings.{Standing}
use Rattle.writing.specs.declared.ChoiceRecord.{ChoiceRecord}
use Rattle.writing.specs.declared.Span.{Span}
use Rattle.writing.specs.declared.WriteRefusal.{WriteRefusal}
use Rattle.writing.specs.Counts.{side_letters}
use Rattle.writing.specs.Records.{choices_of}
use Rattle.writing.specs.Theorems.{StandInBuffer, Written, start}
use Rattle.checker.specs.Running.{AfterLoads}

-- every solution of at most 512 letters that stands in the buffer is written, where the list has room for 1,050 choices
abbrev pub EverySolutionWritten : Standing → List ℕ → List Span → ℕ → Result ℕ WriteRefusal → List ChoiceRecord → Type 0
EverySolutionWritten S buffer spans room result list =
    (loads : List Load) (σ : Words) → AfterLoads loads S → Solution σ (loaded loads) → StandInBuffer loads σ buffer spans → side_letters (start loads σ) ≤ 512 → 1050 ≤ room → IsOkAnd result (λ n. Written loads σ (choices_of (take n list)))
