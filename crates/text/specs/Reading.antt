-- What it is to read something from its text. Assumes nothing.
use Rattle.std.specs.Prelude.{◌≡◌, ℕ, ◌<◌, ◌∷◌, ◌++◌, Some, None, Option, ◌≢◌}
use Rattle.text.specs.Pieces.{Bytes}

-- the answer is the good x whose text this is, or no good x has this text
abbrev pub Reads : {X T : Type 0} → (X → Type 0) → (X → T) → T → Option X → Type 0
Reads {X} good text_of text None = (x : X) → good x → text ≢ text_of x
Reads {X} good text_of text (Some x) = good x × (text ≡ text_of x)

abbrev pub Below : ℕ → ℕ → Type 0
Below bound n = n < bound

-- two things, each good, and their texts with the byte b between them
abbrev pub Both : {X Y : Type 0} → (X → Type 0) → (Y → Type 0) → X × Y → Type 0
Both P Q p = P p.0 × Q p.1

abbrev pub joining : {X Y : Type 0} → ℕ → (X → Bytes) → (Y → Bytes) → X × Y → Bytes
joining b f g p = f p.0 ++ b ∷ g p.1
