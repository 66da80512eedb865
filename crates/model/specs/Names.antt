-- How messages name a variable. Assumes nothing.
use Rattle.std.specs.Prelude.{ℕ, ◌+◌, cond, Some, None, Option, nat_lt}

-- the capital of a variable, from A as 0
abbrev pub capital_of : ℕ → Option ℕ
capital_of x = cond (nat_lt x 26) (Some (65 + x)) None
