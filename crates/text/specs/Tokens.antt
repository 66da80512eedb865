-- What a token holds of its field. Assumes nothing.
use Rattle.std.specs.Prelude.{◌≡◌, ◌+◌, ◌∷◌, ◌≢◌, slice_index}
use Rattle.std.specs.Int.{IsInRange}
use Rattle.text.specs.declared.part.Part.{Part}
use Rattle.text.specs.declared.part.Token.{Token}
use Rattle.text.specs.declared.part.Token.TheVariants.{Word, Number, LetterName}

-- what follows a #, one place on; a field that begins with a digit; any other field
abbrev pub Holds : Token → Part → Type 0
Holds (LetterName part) field = (35 ∷ part.bytes.now ≡ field.bytes.now) × (part.place ≡ field.place + 1)
Holds (Number part) field = (part.bytes.now ≡ field.bytes.now) × (part.place ≡ field.place) × IsInRange 48 57 (slice_index field.bytes.now 0)
Holds (Word part) field = (part.bytes.now ≡ field.bytes.now) × (part.place ≡ field.place) × (slice_index field.bytes.now 0 ≢ 35) × (IsInRange 48 57 (slice_index field.bytes.now 0) → ⊥)
