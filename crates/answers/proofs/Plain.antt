-- Tables that are read can be written: their fields have no newline. Assumes nothing.
use Rattle.std.proofs.Common.{◌≡◌, ℕ, true, not, eqb, List, [], ◌∷◌, ◌++◌, refl, subst}
use Rattle.std.specs.List.{AllByRecursion}
use Rattle.std.proofs.lemmas.Bool.{and_parts, and_from}
use Rattle.systems.specs.declared.Choice.{Choice}
use Rattle.systems.specs.Runs.{Load}
use Rattle.text.specs.Pieces.{Bytes, Line, free}
use Rattle.tables.specs.declared.types.Limit.{Limit}
use Rattle.tables.specs.Fields.{line_of}
use Rattle.tables.specs.Lines.{lines_of}
use Rattle.tables.specs.Rows.{equation_fields, side_text}
use Rattle.tables.specs.Written.{IsWritable, rows, first_lines, second_lines, third_lines}
use Rattle.tables.proofs.Texts.{lines_plain}
use Rattle.answers.specs.Taken.{ThirdTaken}

pub front_of : {A : Type 0} (P : A → Type 0) (xs ys : List A) → AllByRecursion P (xs ++ ys) → AllByRecursion P xs
front_of P [] ys h = tt
front_of P (x ∷ xs) ys h = (h.0, front_of P xs ys h.1)

free_parts : (b : ℕ) (p q : Bytes) → free b (p ++ q) ≡ true → (free b p ≡ true) × (free b q ≡ true)
free_parts b [] q h = (refl, h)
free_parts b (c ∷ p) q h =
    let parts = and_parts (not (eqb c b)) (free b (p ++ q)) h in
    let more = free_parts b p q parts.1 in
    (and_from (not (eqb c b)) (free b p) parts.0 more.0, more.1)

plain_side : (side : Bytes) → Line (side_text side) → Line side
plain_side [] h = refl
plain_side (b ∷ side) h = h

plain_row : (e : Load) → Line (line_of (equation_fields e)) → Line e.0 × Line e.1
plain_row e h =
    let parts = free_parts 10 (side_text e.0) (32 ∷ side_text e.1) h in
    (plain_side e.0 parts.0, plain_side e.1 (free_parts 10 (32 ∷ []) (side_text e.1) parts.1).1)

plain_rows : (equations : List Load) → AllByRecursion Line (rows equation_fields equations) → AllByRecursion (λ e. Line e.0 × Line e.1) equations
plain_rows [] h = tt
plain_rows (e ∷ equations) h = (plain_row e h.0, plain_rows equations h.1)

pub writable_of : (equations : List Load) (limits : List Limit) (choices : List Choice) → ThirdTaken equations limits choices → AllByRecursion Line (third_lines equations limits choices) → IsWritable (record { equations = equations; limits = limits; choices = choices })
writable_of equations limits choices taken plain = record {
  equations = taken.second.first.rows;
  no_newline = plain_rows equations (front_of Line (first_lines equations) _ (front_of Line (second_lines equations limits) _ plain)).1;
  limits = taken.second.rows;
  choices = taken.rows;
  once = taken.second.once;
}

pub writable_read : (input : Bytes) (equations : List Load) (limits : List Limit) (choices : List Choice) → ThirdTaken equations limits choices → lines_of input ≡ third_lines equations limits choices → IsWritable (record { equations = equations; limits = limits; choices = choices })
writable_read input equations limits choices taken are = writable_of equations limits choices taken (subst (AllByRecursion Line) are (lines_plain input))
