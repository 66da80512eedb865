-- The number, the line and the detail of each refusal of a run. Assumes nothing.
use Rattle.std.specs.Prelude.{ℕ, Option, None}
use Rattle.systems.specs.declared.Detail.{Detail}
use Rattle.systems.specs.Refusals.{choice_detail, choice_number, load_number}
use Rattle.guarantee.specs.Closing.{close_detail, close_number}
use Rattle.length.specs.Limits.{length_number}
use Rattle.listing.specs.Refusals.{print_number}
use Rattle.tables.specs.Numbers.{line_number}
use Rattle.answers.specs.declared.errors.RunError.{RunError}
use Rattle.answers.specs.declared.errors.RunError.TheVariants.{Buffer, TooLong, Line, Load, Limits, Choice, Close}

abbrev pub run_number : RunError → ℕ
run_number (Buffer why) = print_number why
run_number TooLong = 44
run_number (Line line why) = line_number why
run_number (Load line why) = load_number why
run_number (Limits line why) = length_number why
run_number (Choice line why) = choice_number why
run_number (Close why) = close_number why

-- the line that is refused, from 1; 0 where no line is
abbrev pub run_line : RunError → ℕ
run_line (Buffer why) = 0
run_line TooLong = 0
run_line (Line line why) = line
run_line (Load line why) = line
run_line (Limits line why) = line
run_line (Choice line why) = line
run_line (Close why) = 0

-- the variable at 11, 31 and 33, the equation at 32
abbrev pub run_detail : RunError → Option Detail
run_detail (Buffer why) = None
run_detail TooLong = None
run_detail (Line line why) = None
run_detail (Load line why) = None
run_detail (Limits line why) = None
run_detail (Choice line why) = choice_detail why
run_detail (Close why) = close_detail why
