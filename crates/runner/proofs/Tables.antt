-- How far a reader is in the lines of a text. Assumes nothing.
use Rattle.std.proofs.Common.{◌≡◌, ℕ, ◌+◌, ◌<◌, ◌⊎◌, ◌≢◌, List, [], ◌∷◌, ◌++◌, length, Some, None, Ok, Err, Option, sym, refl, ap, ◌∙◌, subst, inl, inr, ⊎_elim, append_assoc, append-nil, arith, length-append}
use Rattle.text.specs.Pieces.{Bytes}
use Rattle.tables.specs.declared.reader.NoNames.{NoNames}
use Rattle.tables.specs.declared.reader.Reader.{Reader}
use Rattle.tables.specs.declared.reader.Stage.TheVariants.{Names, Values, Gap}
use Rattle.tables.specs.declared.types.Table.{Table}
use Rattle.tables.specs.Names.{names, next_table}
use Rattle.tables.specs.Stepping.{left, Passes, Lacks}
use Rattle.answers.specs.Answers.{Comes, NotNamed}
use Rattle.runner.specs.Passing.{ReadUpTo}

-- in a table that comes behind the lines before, these rows of which are read
abbrev pub Inside : List Bytes → List Bytes → Table → List Bytes → Reader → Type 0
Inside all before t rows r =
    ((r.stage ≡ Values) × (all ≡ (before ++ (names t ∷ rows)) ++ left r) × (r.line ≡ length (before ++ (names t ∷ rows))))
    ⊎ ((r.stage ≢ Values) × (rows ≡ []) × (all ≡ before ++ left r) × (r.line ≡ length before))

-- one more line
passed : (all before : List Bytes) (r new : Reader) (line : Bytes) → all ≡ before ++ left r → Passes r line new → all ≡ (before ++ (line ∷ [])) ++ left new
passed all before r new line is p = is ∙ ap (λ l. before ++ l) p.lines ∙ sym (append_assoc before (line ∷ []) (left new))

counted : (before : List Bytes) (r new : Reader) (line : Bytes) → r.line ≡ length before → Passes r line new → new.line ≡ length (before ++ (line ∷ []))
counted before r new line is p = omega (arith, p.count, length-append before (line ∷ []))

behind_names : (before rows : List Bytes) (name line : Bytes) → (before ++ (name ∷ rows)) ++ (line ∷ []) ≡ before ++ (name ∷ (rows ++ (line ∷ [])))
behind_names before rows name line = append_assoc before (name ∷ rows) (line ∷ [])

pub begun : (all before : List Bytes) (t : Table) (rows : List Bytes) (r new : Reader) → Inside all before t rows r → (r.stage ≢ Values) → Passes r (names t) new → new.stage ≡ Values → Inside all before t rows new
begun all before t rows r new at ne p stage =
    ⊎_elim
    (λ (h : (r.stage ≡ Values) × (all ≡ (before ++ (names t ∷ rows)) ++ left r) × (r.line ≡ length (before ++ (names t ∷ rows)))). absurd (ne h.0))
    (λ (h : (r.stage ≢ Values) × (rows ≡ []) × (all ≡ before ++ left r) × (r.line ≡ length before)).
    inl (
      stage,
      passed all before r new (names t) h.2 p ∙ ap (λ rs. (before ++ (names t ∷ rs)) ++ left new) (sym h.1),
      counted before r new (names t) h.3 p ∙ ap (λ rs. length (before ++ (names t ∷ rs))) (sym h.1),
    ))
    at

pub row_passed : (all before : List Bytes) (t : Table) (rows : List Bytes) (r new : Reader) (line : Bytes) → Inside all before t rows r → r.stage ≡ Values → Passes r line new → new.stage ≡ Values → Inside all before t (rows ++ (line ∷ [])) new × Comes all (before ++ (names t ∷ rows)) line new.line
row_passed all before t rows r new line at values p stage =
    ⊎_elim
    (λ (h : (r.stage ≡ Values) × (all ≡ (before ++ (names t ∷ rows)) ++ left r) × (r.line ≡ length (before ++ (names t ∷ rows)))).
    let front = before ++ (names t ∷ rows) in (
      inl (
        stage,
        passed all front r new line h.1 p ∙ ap (λ l. l ++ left new) (behind_names before rows (names t) line),
        counted front r new line h.2 p ∙ ap length (behind_names before rows (names t) line),
      ),
      record { rest = left new; split = h.1 ∙ ap (λ l. front ++ l) p.lines; number = omega (arith, p.count, h.2) },
    ))
    (λ (h : (r.stage ≢ Values) × (rows ≡ []) × (all ≡ before ++ left r) × (r.line ≡ length before)). absurd (h.0 values))
    at

pub gap_passed : (all before : List Bytes) (t : Table) (rows : List Bytes) (r new : Reader) → Inside all before t rows r → r.stage ≡ Values → Passes r [] new → new.stage ≡ Gap → ReadUpTo all (before ++ (names t ∷ rows)) new
gap_passed all before t rows r new at values p stage =
    ⊎_elim
    (λ (h : (r.stage ≡ Values) × (all ≡ (before ++ (names t ∷ rows)) ++ left r) × (r.line ≡ length (before ++ (names t ∷ rows)))).
    record { lines = passed all (before ++ (names t ∷ rows)) r new [] h.1 p; count = omega (arith, p.count, h.2); stage = stage })
    (λ (h : (r.stage ≢ Values) × (rows ≡ []) × (all ≡ before ++ left r) × (r.line ≡ length before)). absurd (h.0 values))
    at

pub all_passed : (all before : List Bytes) (t : Table) (rows : List Bytes) (r : Reader) → Inside all before t rows r → r.stage ≡ Values → left r ≡ [] → all ≡ before ++ (names t ∷ rows)
all_passed all before t rows r at values none =
    ⊎_elim
    (λ (h : (r.stage ≡ Values) × (all ≡ (before ++ (names t ∷ rows)) ++ left r) × (r.line ≡ length (before ++ (names t ∷ rows)))). h.1 ∙ ap (λ l. (before ++ (names t ∷ rows)) ++ l) none ∙ append-nil (before ++ (names t ∷ rows)))
    (λ (h : (r.stage ≢ Values) × (rows ≡ []) × (all ≡ before ++ left r) × (r.line ≡ length before)). absurd (h.0 values))
    at

-- where a names line is lacking: that of the table itself, or that of the next
abbrev pub LacksHere : List Bytes → List Bytes → Table → List Bytes → NoNames → Type 0
LacksHere all before t rows lack =
    ((lack.table ≡ t) × (lack.line ≡ length before + 1) × ((rest : List Bytes) × (all ≡ before ++ rest) × NotNamed t rest))
    ⊎ ((next_table t ≡ Some lack.table) × (lack.line ≡ length (before ++ (names t ∷ rows)) + 1) × (all ≡ before ++ (names t ∷ rows)))

pub lacks_here : (all before : List Bytes) (t : Table) (rows : List Bytes) (r : Reader) (lack : NoNames) → Inside all before t rows r → Lacks t r lack → LacksHere all before t rows lack
lacks_here all before t rows r lack at h =
    ⊎_elim
    (λ (out : (r.stage ≢ Values) × (lack.table ≡ t) × ((more : List Bytes) → left r ≢ names t ∷ more)).
    ⊎_elim
    (λ (k : (r.stage ≡ Values) × (all ≡ (before ++ (names t ∷ rows)) ++ left r) × (r.line ≡ length (before ++ (names t ∷ rows)))). absurd (out.0 k.0))
    (λ (k : (r.stage ≢ Values) × (rows ≡ []) × (all ≡ before ++ left r) × (r.line ≡ length before)). inl (out.1, omega (arith, h.0, k.3), (left r, k.2, out.2)))
    at)
    (λ (within : (r.stage ≡ Values) × (left r ≡ []) × (next_table t ≡ Some lack.table)).
    ⊎_elim
    (λ (k : (r.stage ≡ Values) × (all ≡ (before ++ (names t ∷ rows)) ++ left r) × (r.line ≡ length (before ++ (names t ∷ rows)))). inr (within.2, omega (arith, h.0, k.2), all_passed all before t rows r at within.0 within.1))
    (λ (k : (r.stage ≢ Values) × (rows ≡ []) × (all ≡ before ++ left r) × (r.line ≡ length before)). absurd (k.0 within.0))
    at)
    h.1

pub shorter : (r new : Reader) (line : Bytes) → Passes r line new → length (left new) < length (left r)
shorter r new line p = omega (arith, ap length p.lines)
