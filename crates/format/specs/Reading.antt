-- What it means to read a listing and to refuse one at a line, and the laws of listings. Assumes nothing.
use Rattle.std.specs.Prelude.{◌≡◌, ℕ, ◌+◌, ◌≤◌, true, ◌⊎◌, List, [], ◌∷◌, ◌++◌, length, ◌≢◌}
use Rattle.std.specs.List.{AllByRecursion}
use Rattle.model.specs.Witnesses.{Contents, valid}
use Rattle.text.specs.Pieces.{Bytes, Line, lines_text}
use Rattle.format.specs.Listing.{listing}

-- a listing begins with these bytes
abbrev pub Begins : Bytes → Type 0
Begins bs = (c : Contents) × (valid c ≡ true) × ((rest : Bytes) × (listing c ≡ bs ++ rest))

-- the bytes are no listing, and k, from 1, is the first line that no listing has there: a listing begins with the lines before it,
-- and none with that line too; where the bytes have no such whole line, k is the line that is cut short or absent
pub record Refused (bs : Bytes) (k : ℕ) : Type 0 where
  pub good : List Bytes
  pub rest : Bytes
  pub split : bs ≡ lines_text good ++ rest
  pub plain : AllByRecursion Line good
  pub count : k ≡ length good + 1
  pub before : Begins (lines_text good)
  pub here : (l more : Bytes) → Line l → rest ≡ l ++ 10 ∷ more → Begins (lines_text good ++ (l ++ 10 ∷ [])) → ⊥
  pub never : (c : Contents) → valid c ≡ true → bs ≢ listing c

-- two different contents never have the same listing
abbrev pub OneContents : Type 0
OneContents = (c d : Contents) → valid c ≡ true → valid d ≡ true → listing c ≡ listing d → c ≡ d

-- only one line is the refused one
abbrev pub OneLine : Type 0
OneLine = (bs : Bytes) (j k : ℕ) → Refused bs j → Refused bs k → j ≡ k

-- any bytes are a listing, or are refused at a line
abbrev pub ListingOrLine : Type 0
ListingOrLine = (bs : Bytes) → ((c : Contents) × (valid c ≡ true) × (bs ≡ listing c)) ⊎ ((k : ℕ) × Refused bs k)

-- no listing is longer than 20,000 bytes
abbrev pub EveryListingFits : Type 0
EveryListingFits = (c : Contents) → valid c ≡ true → length (listing c) ≤ 20000
