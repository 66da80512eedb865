-- What the machine kind measures. Assumes nothing.
use Rattle.std.specs.Prelude.{◌≡◌, ℕ, ◌<◌, List, [], ◌∷◌, slice_index}
use Rattle.std.specs.List.{AllByRecursion}
use Rattle.model.specs.Spelling.{Word}
use Rattle.systems.specs.Values.{word_value}
use Rattle.machine.specs.StateMaps.{by, next_state, stay, then}

-- the state that is reached from s by reading the word letter by letter
abbrev pub reading : List ℕ → ℕ → Word → ℕ
reading next s [] = s
reading next s (a ∷ w) = reading next (next_state next s a) w

-- the value of a word over a to z, at each state, is the state reached from there
abbrev pub ValueIsReading : Type 0
ValueIsReading = (next : List ℕ) → ((i : ℕ) → i < 208 → slice_index next i < 8) → (w : Word) → AllByRecursion (λ a. a < 26) w → (s : ℕ) → s < 8
    → slice_index (word_value (λ a. by (λ s. next_state next s a)) stay then w).to s ≡ reading next s w
