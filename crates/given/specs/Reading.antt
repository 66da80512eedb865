-- What is read of a caller's words, and what is judged of them. Assumes nothing.
use Rattle.std.specs.Prelude.{◌≡◌, ℕ, ◌<◌, ◌≤◌, Bool, true, false, cond, List, map, Some, None, Option, slice_index_or}
use Rattle.std.specs.List.{AllByRecursion}
use Rattle.systems.specs.declared.Place.TheVariants.{Letter}
use Rattle.systems.specs.Sides.{Equation, SameSides, fill, places, sides, stands_in}
use Rattle.sides.specs.Holding.{only}
use Rattle.writing.specs.declared.Span.{Span}
use Rattle.writing.specs.declared.WriteRefusal.{WriteRefusal}
use Rattle.writing.specs.declared.WriteRefusal.TheVariants.{ShortList, NoWord, TooManyLetters, NoSolution}
use Rattle.writing.specs.Refusals.{given, is_word, span_of}
use Rattle.leftover.specs.declared.store.Leftover.{Leftover}

-- the variables are A to Z
abbrev pub Low : List Equation → Type 0
Low equations = (x : ℕ) → stands_in equations x ≡ true → x < 26

-- those of A to Z that stand in a side are marked
abbrev pub Marked : List Bool → List Equation → Type 0
Marked system equations = (x : ℕ) → x < 26 → slice_index_or system x false ≡ stands_in equations x

-- the word of each marked variable is given
abbrev pub WordsGiven : List Bool → List ℕ → List Span → Type 0
WordsGiven system buffer spans = (x : ℕ) → x < 26 → slice_index_or system x false ≡ true → is_word buffer (span_of spans x) ≡ true

-- this variable is marked and its word is not given, and the words of the marked ones before it are
abbrev pub NotGiven : List Bool → List ℕ → List Span → ℕ → Type 0
NotGiven system buffer spans x =
    (x < 26) × (slice_index_or system x false ≡ true) × (is_word buffer (span_of spans x) ≡ false)
    × ((y : ℕ) → y < x → slice_index_or system y false ≡ true → is_word buffer (span_of spans y) ≡ true)

-- the refusal is that its word is not given
abbrev pub FirstNotGiven : List Bool → List ℕ → List Span → WriteRefusal → Type 0
FirstNotGiven system buffer spans why = (x : ℕ) × (why ≡ NoWord x) × NotGiven system buffer spans x

-- the first reason, if any, against sides in which no variable is left
abbrev pub Judged : List Equation → Option WriteRefusal → Type 0
Judged filled None = (places filled ≤ 512) × AllByRecursion SameSides filled
Judged filled (Some ShortList) = ⊥
Judged filled (Some (NoWord x)) = ⊥
Judged filled (Some TooManyLetters) = 512 < places filled
Judged filled (Some NoSolution) = (places filled ≤ 512) × (AllByRecursion SameSides filled → ⊥)

-- what is left before the first choice, where these are the equations: the words that are given for their variables, and their sides with these filled in
pub record Begun (equations : List Equation) (buffer : List ℕ) (spans : List Span) (r : Leftover) : Type 0 where
  pub words : (x : ℕ) → x < 26 → slice_index_or r.words x None ≡ cond (stands_in equations x) (Some (given (only equations) buffer spans x)) None
  pub filled : sides r.filled ≡ map (map Letter) (map (fill (given (only equations) buffer spans)) (sides equations))
  pub next : r.fresh ≡ 26
