-- The guarantee, whole: sound, complete and writable. Assumes nothing.
use Rattle.std.specs.Prelude.{◌≡◌, ℕ, ◌<◌, ◌≤◌, true, false, List, [], length, drop, Some, None, Option, slice_index_or}
use Rattle.model.specs.Spelling.{Word, spell}
use Rattle.model.specs.Witnesses.{Contents, valid, spelled}
use Rattle.systems.specs.declared.Choice.{Choice}
use Rattle.systems.specs.Fitting.{Fits}
use Rattle.systems.specs.Refusals.{choice_refusal}
use Rattle.systems.specs.Runs.{Load, loaded, OfSystem, Reaches, Follows}
use Rattle.systems.specs.Sides.{stands_in, Words, Solution}
use Rattle.systems.specs.Standings.{Standing, fresh, live, popped_word}
use Rattle.systems.specs.Theorems.{ByLimit}
use Rattle.systems.specs.Values.{Associative, Neutral, word_value}
use Rattle.writing.specs.declared.Span.{Span}
use Rattle.writing.specs.Counts.{side_letters}
use Rattle.writing.specs.Theorems.{start, Written, RefusedRightly}
use Rattle.guarantee.specs.Closing.{Meaning, value_of, found_word, fills, Closed, close}

-- the words that a witness spells, empty where it has none
abbrev pub or_empty : Option Word → Word
or_empty (Some w) = w
or_empty None = []

abbrev pub words_of : Contents → Words
words_of c x = or_empty (spelled c x)

-- every variable of the system passes on its word
abbrev pub AllPass : {V : Type 0} → Meaning V → List Load → Words → Type 0
AllPass m loads w = (x : ℕ) → OfSystem loads x → m.passes x (value_of m (w x)) ≡ true

-- no variable is live
abbrev pub NoneLive : Standing → Type 0
NoneLive S = (x : ℕ) → live S x ≡ false

-- the close accepts
abbrev pub Accepts : {V : Type 0} → Closed V → Type 0
Accepts r = r.answer ≡ None

-- Sound: what is accepted is a solution that passes
pub record SoundClose {V : Type 0} (m : Meaning V) (loads : List Load) (S : Standing) (r : Closed V) : Type 0 where
  pub accepted_words_solve : Accepts r → Solution (words_of r.written) (loaded loads)
  pub accepted_words_pass : Accepts r → AllPass m loads (words_of r.written)
  -- the witness keeps what every witness keeps, and has the word of each variable of the system and of no other
  pub witness_is_valid : Accepts r → valid r.written ≡ true
  pub witness_spells_each : Accepts r → (x : ℕ) → OfSystem loads x → spelled r.written x ≡ Some (found_word S x)
  pub witness_has_no_other : Accepts r → (x : ℕ) → stands_in (loaded loads) x ≡ false → spelled r.written x ≡ None

-- Complete, where the taken choices fit the solution σ and leave τ of it
pub record CompleteClose {V : Type 0} (m : Meaning V) (loads : List Load) (S : Standing) (table : List V) (r : Closed V) (σ τ : Words) : Type 0 where
  -- a choice that fits next is refused by none but 21 to 24
  pub no_needless_refusal : (choice : Choice) (τ' : Words) → Fits S τ choice τ' → ByLimit (choice_refusal S choice)
  -- where the table has room, the close accepts exactly if no variable is live and the solution passes
  pub accepts_exactly : fresh S ≤ length table → (Accepts r → NoneLive S × AllPass m loads σ) × (NoneLive S × AllPass m loads σ → Accepts r)
  -- the witness then spells the solution
  pub same_words : Accepts r → (x : ℕ) → OfSystem loads x → spelled r.written x ≡ Some (σ x)

-- what the value table holds behind a close
pub record TableFilled {V : Type 0} (m : Meaning V) (S : Standing) (table : List V) (r : Closed V) : Type 0 where
  pub as_long : length r.table ≡ length table
  -- on acceptance and at 33, at each known letter's number the value of what it spells; else the table is untouched
  pub known_letters : fills r.answer ≡ true → (c : ℕ) (v : V) → c < fresh S → slice_index_or r.table c v ≡ value_of m (spell S.rules c)
  pub further_untouched : drop (fresh S) r.table ≡ drop (fresh S) table
  pub else_untouched : fills r.answer ≡ false → r.table ≡ table
  -- so the value of a found word is the table's values of its letters, joined in order
  pub joins_to_words : (x : ℕ) → value_of m (found_word S x) ≡ word_value (λ c. value_of m (spell S.rules c)) m.empty m.join (popped_word S x)

-- what is promised of a close at S, after these loads and choices
pub record Promised {V : Type 0} (m : Meaning V) (loads : List Load) (choices : List Choice) (S : Standing) (table : List V) (r : Closed V) : Type 0 where
  pub sound : SoundClose m loads S r
  pub complete : (σ τ : Words) → Solution σ (loaded loads) → Follows loads σ choices S τ → CompleteClose m loads S table r σ τ
  pub writable : (σ : Words) → Solution σ (loaded loads) → side_letters (start loads σ) ≤ 512 → (list : List Choice) × Written loads σ list
  pub writer_refuses_rightly : (buffer : List ℕ) (spans : List Span) (room : ℕ) → RefusedRightly loads buffer spans room
  pub table_filled : TableFilled m S table r

-- The guarantee, for every measure with values in V that keeps the laws: whatever is loaded and chosen, with every refusal in it, whatever the table and the witness hold before
abbrev pub Guarantee : Type 0 → Type 0
Guarantee V =
    (m : Meaning V) → Associative m.join → Neutral m.empty m.join →
    (loads : List Load) (choices : List Choice) (S : Standing) → Reaches loads choices S →
    (table : List V) (old : Contents) → Promised m loads choices S table (close m (stands_in (loaded loads)) S table old)
