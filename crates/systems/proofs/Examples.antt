-- The worked examples, by computation. Assumes nothing.
use Rattle.std.proofs.Common.{[], ◌∷◌, refl, inr}
use Rattle.systems.specs.declared.Place.TheVariants.{Letter, Variable}
use Rattle.systems.specs.declared.Choice.TheVariants.{Left, Right, Erase, Pair, Block}
use Rattle.systems.specs.Examples.{WorkedExamples}
use Rattle.systems.specs.Runs.{opening, choosing}

pub worked_examples : WorkedExamples
worked_examples = record {
  pairs = refl;
  no_pair_across = refl;
  no_longer_row = refl;
  exact_rows = refl;
  right_pops = choosing (choosing (choosing opening (Right 23 1)) (Right 23 0)) (Erase 23);
  right_word = refl;
  over_an_empty_word = record { before = Letter 0 ∷ []; behind = Variable 23 ∷ Letter 1 ∷ []; cut = refl; beside = inr (23, (Letter 1 ∷ [], refl)); ends = ([], refl); begins = ([], refl) };
  pair_of_none = refl;
  found = choosing (choosing (choosing (choosing (choosing opening (Pair 0 1)) (Left 23 26)) (Erase 23)) (Left 24 0)) (Erase 24);
  found_X = refl;
  found_Y = refl;
  rows = choosing (choosing (choosing (choosing opening (Left 23 0)) (Left 23 0)) (Erase 23)) (Block 0 3);
  too_early = choosing (choosing (choosing opening (Pair 0 1)) (Left 23 0)) (Erase 23);
  nothing = choosing opening (Erase 23);
  no_letter = refl;
  not_live_first = refl;
  unknown_first = refl;
  equal_letters = refl;
  short_block = refl;
  long_block = refl;
  too_many_places = refl;
  too_many_pops = refl;
}
