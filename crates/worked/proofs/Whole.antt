-- The worked systems, together. Assumes nothing.
use Rattle.systems.proofs.Examples.{worked_examples}
use Rattle.writing.proofs.Examples.{worked_lists}
use Rattle.worked.specs.Worked.{WorkedSystems}
use Rattle.worked.proofs.Tables.{answered, listed}

pub worked_systems : WorkedSystems
worked_systems = record {
  answered = answered;
  listed = listed;
  by_pair = worked_lists.pairs;
  by_block = worked_lists.blocks;
  longer_row = worked_examples.no_longer_row;
  both_pairs = worked_examples.pairs;
  variable_between = worked_examples.no_pair_across;
}
