-- What is true of the writer's list. Assumes nothing.
use Rattle.std.specs.Prelude.{◌≡◌, ℕ, ◌+◌, ◌≤◌, false, List, ◌∷◌, ◌++◌, map, length, None}
use Rattle.systems.specs.declared.Choice.{Choice}
use Rattle.systems.specs.Refusals.{choice_refusal}
use Rattle.systems.specs.Runs.{Load, opened, loaded, OfSystem, Reaches, Follows}
use Rattle.systems.specs.Sides.{Words, Solution}
use Rattle.systems.specs.Standings.{Standing, live}
use Rattle.writing.specs.declared.Span.{Span}
use Rattle.writing.specs.Counts.{side_letters, word_letters, live_count}
use Rattle.writing.specs.Refusals.{span_of, bytes_at, given, write_refusal}
use Rattle.writing.specs.Writer.{State, beside, Writes}

-- the opened check, and a solution beside it
abbrev pub start : List Load → Words → State
start loads σ = beside (opened loads) σ

-- put in turn to the opened check, none of the choices is refused
abbrev pub NoneRefused : List Load → List Choice → Type 0
NoneRefused loads list = (before behind : List Choice) (choice : Choice) (S : Standing) → list ≡ before ++ (choice ∷ behind) → Reaches loads before S → choice_refusal S choice ≡ None

-- what is so of the list that is written for the solution σ
pub record Written (loads : List Load) (σ : Words) (list : List Choice) : Type 0 where
  pub writes : Writes (opened loads) σ list
  pub only : (other : List Choice) → Writes (opened loads) σ other → other ≡ list
  pub short : length list ≤ side_letters (start loads σ) + word_letters (start loads σ) + live_count (start loads σ)
  pub at_most_1050 : length list ≤ 1050
  -- what stands at its end, and what is left of the words: each choice fits, and none is refused
  pub end : Standing
  pub left : Words
  pub each_fits : Follows loads σ list end left
  pub each_taken : NoneRefused loads list
  pub none_live : (x : ℕ) → live end x ≡ false

-- Every solution with at most 512 letters in the filled-in sides is written
abbrev pub Writable : Type 0
Writable = (loads : List Load) (σ : Words) → Solution σ (loaded loads) → side_letters (start loads σ) ≤ 512 → (list : List Choice) × Written loads σ list

-- the words of σ stand in the buffer as bytes a to z, each at the span of its variable
pub record StandInBuffer (loads : List Load) (σ : Words) (buffer : List ℕ) (spans : List Span) : Type 0 where
  pub inside : (x : ℕ) → OfSystem loads x → (span_of spans x).start + (span_of spans x).length ≤ length buffer
  pub bytes : (x : ℕ) → OfSystem loads x → bytes_at buffer (span_of spans x) ≡ map (λ l. 97 + l) (σ x)

-- what a caller gives to the writer is refused or taken rightly
pub record RefusedRightly (loads : List Load) (buffer : List ℕ) (spans : List Span) (room : ℕ) : Type 0 where
  -- no solution of at most 512 letters that stands in the buffer is refused where there is room for 1,050 choices, and it is the one that is given
  pub no_solution_refused : (σ : Words) → Solution σ (loaded loads) → StandInBuffer loads σ buffer spans → side_letters (start loads σ) ≤ 512 → 1050 ≤ room → write_refusal (opened loads) buffer spans room ≡ None
  pub that_is_given : (σ : Words) → StandInBuffer loads σ buffer spans → (x : ℕ) → OfSystem loads x → given (opened loads) buffer spans x ≡ σ x
  -- what is not refused is such a solution
  pub room_enough : write_refusal (opened loads) buffer spans room ≡ None → 1050 ≤ room
  pub a_solution : write_refusal (opened loads) buffer spans room ≡ None → Solution (given (opened loads) buffer spans) (loaded loads)
  pub few_letters : write_refusal (opened loads) buffer spans room ≡ None → side_letters (start loads (given (opened loads) buffer spans)) ≤ 512

abbrev pub WriterRefusesRightly : Type 0
WriterRefusesRightly = (loads : List Load) (buffer : List ℕ) (spans : List Span) (room : ℕ) → RefusedRightly loads buffer spans room
