-- What the length kind measures. Assumes nothing.
use Rattle.std.specs.Prelude.{◌≡◌, min, length}
use Rattle.model.specs.Spelling.{Word}
use Rattle.systems.specs.Values.{word_value}
use Rattle.length.specs.Capped.{capped, longer}

-- the value of a word is its length, up to 1,000,000
abbrev pub ValueIsCappedLength : Type 0
ValueIsCappedLength = (w : Word) → (word_value (λ _. capped 1) (capped 0) longer w).count ≡ min (length w) 1000000
