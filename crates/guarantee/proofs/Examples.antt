-- Closes at work, by computation. Assumes nothing.
use Rattle.std.proofs.Common.{refl}
use Rattle.writing.specs.Writer.{variables}
use Rattle.guarantee.specs.Worked.{WorkedCloses}

pub worked_closes : WorkedCloses
unfolding variables
worked_closes = record {
  no_equations = refl;
  empty = refl;
  not_asked = refl;
  erased = refl;
  empty_word = refl;
  differs = refl;
  accepted = refl;
  word_X = refl;
  word_Y = refl;
  lengths = refl;
  right_pops = refl;
  fails = refl;
  untouched = refl;
  still_live = refl;
  small_table = refl;
  entry_short = refl;
  numbers = refl;
  details = refl;
}
