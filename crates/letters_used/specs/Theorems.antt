-- What the letters-used kind measures. Assumes nothing.
use Rattle.std.specs.Prelude.{◌≡◌, ℕ, ◌<◌, true, nat_eq}
use Rattle.std.specs.List.{AllByRecursion}
use Rattle.model.specs.Spelling.{Word}
use Rattle.systems.specs.Rows.{any}
use Rattle.systems.specs.Values.{word_value}
use Rattle.measure.specs.Sets.{holds}
use Rattle.letters_used.specs.LetterSets.{none, only, union, between}

-- the value of a word over a to z holds a letter exactly when the letter stands in the word
abbrev pub ValueIsLettersUsed : Type 0
ValueIsLettersUsed = (w : Word) → AllByRecursion (λ b. b < 26) w → (a : ℕ) → holds (word_value only none union w).bits a ≡ any (nat_eq a) w

-- every number of the small set is in the big one
abbrev pub Within : ℕ → ℕ → Type 0
Within small big = (a : ℕ) → holds small a ≡ true → holds big a ≡ true

-- a set passes exactly when it has every required letter and only allowed ones
pub record PassingIsByLetters : Type 0 where
  pub passing : (required allowed x : ℕ) → between required allowed x ≡ true → Within required x × Within x allowed
  pub within : (required allowed x : ℕ) → Within required x → Within x allowed → between required allowed x ≡ true
