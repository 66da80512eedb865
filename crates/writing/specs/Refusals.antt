-- The words that a caller gives as parts of one buffer, and which refusal the writer meets, if any. Assumes nothing.
use Rattle.std.specs.Prelude.{ℕ, ◌+◌, ◌-◌, Bool, true, false, cond, not, ◌&&◌, List, [], ◌∷◌, map, length, take, drop, Some, None, Option, ◌==◌, nat_le, nat_lt, slice_index_or}
use Rattle.std.specs.Option.{option_map, option_or}
use Rattle.model.specs.Spelling.{Word}
use Rattle.systems.specs.Sides.{Equation, Words, fill}
use Rattle.systems.specs.Standings.{Standing, live}
use Rattle.writing.specs.declared.Span.{Span}
use Rattle.writing.specs.declared.WriteRefusal.{WriteRefusal}
use Rattle.writing.specs.declared.WriteRefusal.TheVariants.{ShortList, NoWord, TooManyLetters, NoSolution}
use Rattle.writing.specs.Counts.{side_letters}
use Rattle.writing.specs.Writer.{beside, first, variables}

-- the number of each refusal
abbrev pub write_number : WriteRefusal → ℕ
write_number ShortList = 51
write_number (NoWord x) = 52
write_number TooManyLetters = 53
write_number NoSolution = 54

-- the span of the variable x
abbrev pub span_of : List Span → ℕ → Span
span_of spans x = slice_index_or spans x (record { start = 0; length = 0 })

-- the bytes there
abbrev pub bytes_at : List ℕ → Span → List ℕ
bytes_at buffer span = take span.length (drop span.start buffer)

-- they are a to z
abbrev pub a_to_z : List ℕ → Bool
a_to_z [] = true
a_to_z (b ∷ bytes) = (nat_le 97 b && nat_le b 122) && a_to_z bytes

-- the span lies in the buffer, at its end too, and its bytes are a to z
abbrev pub is_word : List ℕ → Span → Bool
is_word buffer span = nat_le (span.start + span.length) (length buffer) && a_to_z (bytes_at buffer span)

-- the words of the variables of the system; those of other variables are not looked at
abbrev pub given : Standing → List ℕ → List Span → Words
given S buffer spans x = cond (live S x) (map (λ b. b - 97) (bytes_at buffer (span_of spans x))) []

-- two words are the same
abbrev pub same_word : Word → Word → Bool
same_word [] [] = true
same_word [] (b ∷ v) = false
same_word (a ∷ u) [] = false
same_word (a ∷ u) (b ∷ v) = a == b && same_word u v

-- the words solve the equations
abbrev pub solved : Words → List Equation → Bool
solved τ [] = true
solved τ (e ∷ more) = same_word (fill τ e.0) (fill τ e.1) && solved τ more

-- the first variable of the system, from A, whose word is not given
abbrev pub first_not_given : Standing → List ℕ → List Span → Option ℕ
first_not_given S buffer spans = first (λ x. live S x && not (is_word buffer (span_of spans x))) variables

-- the first reason, in this order, why no list is written, where the caller's list has room for so many choices
abbrev pub write_refusal : Standing → List ℕ → List Span → ℕ → Option WriteRefusal
write_refusal S buffer spans room =
    cond (nat_lt room 1050) (Some ShortList)
    (option_or (option_map NoWord (first_not_given S buffer spans))
    (cond (nat_lt 512 (side_letters (beside S (given S buffer spans)))) (Some TooManyLetters)
    (cond (not (solved (given S buffer spans) S.equations)) (Some NoSolution)
    None)))
