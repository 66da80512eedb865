-- How far a text is read. Assumes nothing.
use Rattle.std.specs.Prelude.{◌≡◌, ℕ, ◌+◌, List, [], ◌∷◌, ◌++◌, length}
use Rattle.model.specs.Witnesses.{Contents}
use Rattle.text.specs.Pieces.{Bytes, lines_text}
use Rattle.format.specs.Steps.{State, Start, Ruling, Gapped, Giving, contents, Run}
use Rattle.listing.specs.declared.reading.Stage.{Stage}
use Rattle.listing.specs.declared.reading.Stage.TheVariants.{Opening, Rules, Gap, Variables}

-- the stage with what is held by then
abbrev pub state_of : Stage → Contents → State
state_of Opening c = Start
state_of Rules c = Ruling c.rules
state_of Gap c = Gapped c.rules
state_of Variables c = Giving c.rules c.entries

-- what is held is what the lines so far have brought
abbrev pub Even : Stage → Contents → Type 0
Even stage c = contents (state_of stage c) ≡ c

-- the line leads on
pub record Led (stage : Stage) (c : Contents) (line : Bytes) (next : Stage) (d : Contents) : Type 0 where
  pub run : Run (state_of stage c) (line ∷ []) (state_of next d)
  pub even : Even next d

-- whole lines lead to t, and the rest comes, whose first line is the one of this number
pub record Passed (text : Bytes) (line : ℕ) (t : State) (rest : Bytes) : Type 0 where
  pub good : List Bytes
  pub run : Run Start good t
  pub split : text ≡ lines_text good ++ rest
  pub count : line ≡ length good + 1
