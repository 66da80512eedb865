-- The writer at work, by computation. Assumes nothing.
use Rattle.std.proofs.Common.{[], ◌∷◌, refl, arith}
use Rattle.writing.specs.Worked.{WorkedLists}
use Rattle.writing.specs.Writer.{variables, ends_here, one_letter, by_pair, by_blocks}
use Rattle.writing.proofs.Lengths.{rows_counted}

pub worked_lists : WorkedLists
unfolding variables
worked_lists = record {
  pairs = by_pair 23 0 1 [] refl refl (λ e. omega arith) (one_letter 23 26 refl refl (ends_here refl));
  one_pop_each = by_pair 23 0 1 [] refl refl (λ e. omega arith) (one_letter 23 26 refl refl (one_letter 24 1 refl refl (ends_here refl)));
  blocks = by_blocks 23 0 [] (3 ∷ []) refl refl (rows_counted 0 _) (ends_here refl);
  block_of_two = by_blocks 23 0 [] (2 ∷ []) refl refl (rows_counted 0 _) (ends_here refl);
  given_words = refl;
  short_list = refl;
  capital = refl;
  outside = refl;
  empty_outside = refl;
  both_outside = refl;
  letters_512 = refl;
  letters_514 = refl;
  no_solution = refl;
  numbers = refl;
}
