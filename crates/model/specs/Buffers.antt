-- What is written into a lent buffer. Assumes nothing.
use Rattle.std.specs.Prelude.{◌≡◌, ℕ, ◌+◌, List, ◌++◌, length, take, drop}

-- `new` is `old` with xs at the place `at`, and `end` is the place behind them
pub record Put {X : Type 0} (old : List X) (at : ℕ) (xs new : List X) (end : ℕ) : Type 0 where
  pub behind : end ≡ at + length xs
  pub front : take end new ≡ take at old ++ xs
  pub rest : drop end new ≡ drop end old
