-- Worked systems: a is 0 and b is 1, X is 23 and Y is 24. Assumes nothing.
use Rattle.std.specs.Prelude.{◌≡◌, [], ◌∷◌, Ok, codes}
use Rattle.model.specs.declared.Rule.TheVariants.{Pair as PairRule}
use Rattle.model.specs.Witnesses.{Contents}
use Rattle.systems.specs.declared.Choice.TheVariants.{Left, Right, Erase, Pair, Block}
use Rattle.systems.specs.declared.Place.TheVariants.{Letter}
use Rattle.systems.specs.Choices.{effect}
use Rattle.systems.specs.Examples.{one}
use Rattle.systems.specs.Loading.{side_of}
use Rattle.systems.specs.Runs.{opened}
use Rattle.writing.specs.Worked.{two_words}
use Rattle.writing.specs.Writer.{Writes}
use Rattle.text.specs.Pieces.{Bytes}
use Rattle.answers.specs.Answers.{Answers}
use Rattle.answers.specs.Printing.{printed}

-- Xa = abY, where X has two letters, and choices for it
abbrev pub worked_tables : Bytes
worked_tables = codes "left right\nXa abY\n\nvariable least most\nX 2 2\n\ndo name with\npair a b\nleft X #26\nerase X -\nleft Y a\nerase Y -\n"

-- #26 is ab, X is #26 and Y is a; the newest stands first
abbrev pub worked_contents : Contents
worked_contents = record { rules = PairRule 0 1 ∷ []; entries = (record { variable = 24; word = 0 ∷ [] }) ∷ (record { variable = 23; word = 26 ∷ [] }) ∷ [] }

pub record WorkedSystems : Type 0 where
  -- the answer to the worked tables, and what is printed of it
  pub answered : Answers worked_tables (Ok worked_contents)
  pub listed : printed (Ok worked_contents) ≡ codes "letter make first second\n#26 pair a b\n\nvariable length word\nX 2 #26\nY 1 a\n"
  -- the list that is written for it, where X = ab and Y = a: right Y a, erase Y, pair a b, left X #26, erase X
  pub by_pair : Writes (opened (one (codes "Xa") (codes "abY"))) (two_words (0 ∷ 1 ∷ []) (0 ∷ [])) (Right 24 0 ∷ Erase 24 ∷ Pair 0 1 ∷ Left 23 26 ∷ Erase 23 ∷ [])
  -- aX = Xa with X = aa: left X a, left X a, erase X, block a 3
  pub by_block : Writes (opened (one (codes "aX") (codes "Xa"))) (two_words (0 ∷ 0 ∷ []) []) (Left 23 0 ∷ Left 23 0 ∷ Erase 23 ∷ Block 0 3 ∷ [])
  -- block a 2 leaves aaa
  pub longer_row : effect (Block 0 2) 26 (side_of (codes "aaa")) ≡ side_of (codes "aaa")
  -- pair a b turns abab into #26 #26, and leaves aXb
  pub both_pairs : effect (Pair 0 1) 26 (side_of (codes "abab")) ≡ Letter 26 ∷ Letter 26 ∷ []
  pub variable_between : effect (Pair 0 1) 26 (side_of (codes "aXb")) ≡ side_of (codes "aXb")
