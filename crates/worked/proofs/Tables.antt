-- The worked tables, line by line. Assumes nothing.
use Rattle.std.proofs.Common.{◌≡◌, ℕ, false, List, [], ◌∷◌, ◌++◌, None, Ok, codes, decimal, sym, refl, ap₂, inr, lit<, lit≤, arith, ◌≢◌}
use Rattle.std.proofs.lemmas.Fmt.{decimal_digit, decimal-digits_of}
use Rattle.systems.specs.declared.Choice.{Choice}
use Rattle.systems.specs.declared.Choice.TheVariants.{Left, Erase, Pair}
use Rattle.systems.specs.Examples.{one, both_found}
use Rattle.systems.specs.Loading.{load_refusal}
use Rattle.systems.specs.Runs.{Load, opened, opening}
use Rattle.systems.proofs.Examples.{worked_examples}
use Rattle.writing.specs.Writer.{variables}
use Rattle.text.specs.Pieces.{Bytes, lines_text}
use Rattle.tables.specs.declared.types.Limit.{Limit}
use Rattle.tables.specs.Lines.{lines_of}
use Rattle.tables.specs.Rows.{IsSide}
use Rattle.tables.specs.Written.{is_listed, third_lines}
use Rattle.answers.specs.Answers.{Answers, closes}
use Rattle.answers.specs.Printing.{printed}
use Rattle.answers.specs.Taken.{FirstTaken, SecondTaken, ThirdTaken}
use Rattle.worked.specs.Worked.{worked_tables, worked_contents}
use Rattle.worked.proofs.Steps.{only, EachTaken, none_refused}

-- the numbers in the tables and in the listing, written
decimal_two : decimal 2 ≡ codes "2"
decimal_two = decimal_digit 2 (lit< tt)

decimal_twenty_six : decimal 26 ≡ codes "26"
decimal_twenty_six = decimal-digits_of 26 (lit< tt) (lit< tt)

-- the rows of the three tables
abbrev equations : List Load
equations = one (codes "Xa") (codes "abY")

-- X has two letters
abbrev two_letters : Limit
two_letters = record { variable = 23; least = 2; most = 2 }

abbrev limits : List Limit
limits = two_letters ∷ []

abbrev choices : List Choice
choices = Pair 0 1 ∷ Left 23 26 ∷ Erase 23 ∷ Left 24 0 ∷ Erase 24 ∷ []

-- a field of two bytes or more is not -
more_than_dash : (a b : ℕ) (side : Bytes) → a ∷ b ∷ side ≢ codes "-"
more_than_dash a b side e = let z : ◌≡◌ {A = ℕ} 0 1 = cc in omega arith

left_side : IsSide (codes "Xa")
left_side = record { no_space = refl; no_dash = more_than_dash 88 97 [] }

right_side : IsSide (codes "abY")
right_side = record { no_space = refl; no_dash = more_than_dash 97 98 (89 ∷ []) }

first_taken : FirstTaken equations
first_taken = record {
  rows = ((left_side, right_side), tt);
  loaded = only (λ before load. load_refusal (opened before) load.0 load.1 ≡ None) (codes "Xa", codes "abY") refl;
}

second_taken : SecondTaken equations limits
second_taken = record {
  first = first_taken;
  rows = ((lit< tt, lit< tt, lit< tt), tt);
  once = only (λ before l. is_listed before l.variable ≡ false) two_letters refl;
  in_order = ((lit≤ tt, lit≤ tt), tt);
}

each_taken : EachTaken (opened equations) choices
each_taken = (refl, (refl, (refl, (refl, (refl, tt)))))

third_taken : ThirdTaken equations limits choices
third_taken = record {
  second = second_taken;
  rows = ((lit< tt, lit< tt), ((lit< tt, lit< tt), (lit< tt, ((lit< tt, lit< tt), (lit< tt, tt)))));
  chosen = none_refused equations [] (opened equations) choices opening each_taken;
}

-- the lines of the text, where its numbers are written so
abbrev lines_with : Bytes → Bytes → List Bytes
lines_with two made =
    codes "left right" ∷ codes "Xa abY"
    ∷ [] ∷ codes "variable least most" ∷ (codes "X " ++ (two ++ (codes " " ++ two)))
    ∷ [] ∷ codes "do name with" ∷ codes "pair a b" ∷ (codes "left X #" ++ made) ∷ codes "erase X -" ∷ codes "left Y a" ∷ codes "erase Y -" ∷ []

are_lines : lines_of worked_tables ≡ third_lines equations limits choices
are_lines = ap₂ lines_with (sym decimal_two) (sym decimal_twenty_six)

-- the close accepts
accepted : closes equations limits both_found ≡ None
unfolding variables
accepted = refl

pub answered : Answers worked_tables (Ok worked_contents)
answered = inr (lit≤ tt, (equations, limits, choices, both_found, record { are = are_lines; taken = third_taken; reaches = worked_examples.found }, accepted, refl))

-- the lines of the listing, where its numbers are written so
abbrev listing_with : Bytes → Bytes → Bytes → Bytes
listing_with one two made =
    lines_text (codes "letter make first second" ∷ (codes "#" ++ (made ++ codes " pair a b"))
    ∷ [] ∷ codes "variable length word" ∷ (codes "X " ++ (two ++ (codes " #" ++ made))) ∷ (codes "Y " ++ (one ++ codes " a")) ∷ [])

pub listed : printed (Ok worked_contents) ≡ codes "letter make first second\n#26 pair a b\n\nvariable length word\nX 2 #26\nY 1 a\n"
listed = λ i. listing_with (decimal_digit 1 (lit< tt) i) (decimal_two i) (decimal_twenty_six i)
