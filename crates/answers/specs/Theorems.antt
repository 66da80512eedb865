-- What is true of the answer to a text. Assumes nothing.
use Rattle.std.specs.Prelude.{◌≡◌, ℕ, ◌<◌, ◌≤◌, true, List, ◌++◌, ◌-◌, length, take, Some, None, Ok, Err, ◌≢◌, ◌⊎◌}
use Rattle.std.specs.List.{AllByRecursion}
use Rattle.model.specs.Witnesses.{Contents, valid, spelled}
use Rattle.systems.specs.declared.Choice.{Choice}
use Rattle.systems.specs.Fitting.{Fits}
use Rattle.systems.specs.Loading.{side_of}
use Rattle.systems.specs.Runs.{Load, loaded, OfSystem, Follows}
use Rattle.systems.specs.Sides.{stands_in, Words, fill, Solution}
use Rattle.systems.specs.Standings.{Standing}
use Rattle.guarantee.specs.declared.CloseRefusal.{CloseRefusal}
use Rattle.guarantee.specs.Closing.{close_number, witness}
use Rattle.guarantee.specs.Guarantee.{NoneLive, words_of}
use Rattle.text.specs.Pieces.{Bytes}
use Rattle.format.specs.Listing.{listing}
use Rattle.tables.specs.declared.types.Limit.{Limit}
use Rattle.tables.specs.Fields.{line_of}
use Rattle.tables.specs.Lines.{lines_of, IsTextOf}
use Rattle.tables.specs.Rows.{choice_fields, IsChoice}
use Rattle.tables.specs.Written.{Tables, IsWritable, lines, third_lines}
use Rattle.answers.specs.declared.errors.RunError.{RunError}
use Rattle.answers.specs.declared.errors.RunError.TheVariants.{TooLong, Close}
use Rattle.answers.specs.Answers.{Answer, Answers, AllTaken, Comes, closes}
use Rattle.answers.specs.Errors.{run_line, run_number}
use Rattle.answers.specs.Limits.{IsWithin}
use Rattle.answers.specs.Printing.{error_text}
use Rattle.answers.specs.Taken.{ThirdTaken}

-- the text is that of these tables, which can be written
pub record ReadAs (text : Bytes) (t : Tables) : Type 0 where
  pub writable : IsWritable t
  pub are : lines_of text ≡ lines t

-- what can be written is read, with its last newline or without; and two different such tables never have the same text
pub record TablesAreRead : Type 0 where
  pub read : (t : Tables) (text : Bytes) → IsWritable t → IsTextOf (lines t) text → ReadAs text t
  pub written : (t : Tables) (text : Bytes) → ReadAs text t → IsTextOf (lines t) text
  pub same : (t u : Tables) (text : Bytes) → ReadAs text t → ReadAs text u → t ≡ u

-- there is only one answer
abbrev pub OneAnswer : Type 0
OneAnswer = (input : Bytes) (a b : Answer) → Answers input a → Answers input b → a ≡ b

-- the text is that of these tables and not too long, every load and choice is taken, the limits are in order, and the calls lead to S
pub record Carried (input : Bytes) (t : Tables) (S : Standing) : Type 0 where
  pub short : length input ≤ 32768
  pub read : ReadAs input t
  pub taken : AllTaken (lines_of input) t.equations t.limits t.choices S

-- a listing is the answer exactly where all is taken and the close accepts: that of the close's witness
pub record ListedExactly : Type 0 where
  pub only : (input : Bytes) (c : Contents) → Answers input (Ok c) → (t : Tables) × (S : Standing) × Carried input t S × (closes t.equations t.limits S ≡ None) × (c ≡ witness (stands_in (loaded t.equations)) S)
  pub always : (input : Bytes) (t : Tables) (S : Standing) → Carried input t S → closes t.equations t.limits S ≡ None → Answers input (Ok (witness (stands_in (loaded t.equations)) S))
  pub no_refusal_is_a_listing : (why : RunError) (c : Contents) → error_text why ≢ listing c

-- the lines before that of this number are the first of those of three tables whose calls are taken
pub record TakenBefore (input : Bytes) (line : ℕ) : Type 0 where
  pub equations : List Load
  pub limits : List Limit
  pub choices : List Choice
  pub taken : ThirdTaken equations limits choices
  pub before : (rest : List Bytes) × (third_lines equations limits choices ≡ take (line - 1) (lines_of input) ++ rest)

-- a refusal at a line comes behind lines that are taken; one at line 0 is 44, or all lines are taken and the close refuses by 31, 32 or 33
pub record RefusedRightly : Type 0 where
  pub at_line : (input : Bytes) (why : RunError) → Answers input (Err why) → 1 ≤ run_line why → TakenBefore input (run_line why)
  pub at_zero : (input : Bytes) (why : RunError) → Answers input (Err why) → run_line why ≡ 0 →
      ((why ≡ TooLong) × (32768 < length input))
      ⊎ ((close : CloseRefusal) × (t : Tables) × (S : Standing) × (why ≡ Close close) × Carried input t S × (closes t.equations t.limits S ≡ Some close) × (31 ≤ close_number close))

-- the words solve each equation of the first table, and each variable that stands there is within its limits
abbrev pub Satisfies : Tables → Words → Type 0
Satisfies t w =
    AllByRecursion (λ e. fill w (side_of e.0) ≡ fill w (side_of e.1)) t.equations
    × ((x : ℕ) → OfSystem t.equations x → IsWithin t.limits x (w x))

-- so do those of a listing that is answered, read back
abbrev pub Sound : Type 0
Sound =
    (input : Bytes) (c d : Contents) (t : Tables) → Answers input (Ok c) → ReadAs input t → valid d ≡ true → listing d ≡ listing c →
    Satisfies t (words_of d)

-- where the choices fit a solution
pub record Complete : Type 0 where
  -- a listing is answered exactly if no variable is live and the solution is within the limits
  pub accepts : (input : Bytes) (t : Tables) (S : Standing) (σ τ : Words) → Carried input t S → Solution σ (loaded t.equations) → Follows t.equations σ t.choices S τ →
      NoneLive S → ((x : ℕ) → OfSystem t.equations x → IsWithin t.limits x (σ x)) → (c : Contents) × Answers input (Ok c)
  pub only : (input : Bytes) (t : Tables) (S : Standing) (σ τ : Words) (c : Contents) → Carried input t S → Solution σ (loaded t.equations) → Follows t.equations σ t.choices S τ →
      Answers input (Ok c) → NoneLive S × ((x : ℕ) → OfSystem t.equations x → IsWithin t.limits x (σ x))
  -- and it spells the solution
  pub same_words : (input : Bytes) (t : Tables) (S : Standing) (σ τ : Words) (c : Contents) → Carried input t S → Solution σ (loaded t.equations) → Follows t.equations σ t.choices S τ →
      Answers input (Ok c) → (x : ℕ) → OfSystem t.equations x → spelled c x ≡ Some (σ x)
  -- a line whose choice fits what is left of a solution is refused by 21 to 24 only
  pub no_needless_refusal : (input : Bytes) (equations : List Load) (limits : List Limit) (choices : List Choice) (choice : Choice) (S : Standing) (σ τ τ' : Words) (line : ℕ) (why : RunError) →
      ThirdTaken equations limits choices → IsChoice choice → Comes (lines_of input) (third_lines equations limits choices) (line_of (choice_fields choice)) line →
      Solution σ (loaded equations) → Follows equations σ choices S τ → Fits S τ choice τ' →
      Answers input (Err why) → run_line why ≡ line → (21 ≤ run_number why) × (run_number why ≤ 24)
