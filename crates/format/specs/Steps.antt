-- What stands after some lines of a listing, and which line may come next. Assumes nothing.
use Rattle.std.specs.Prelude.{◌≡◌, Bool, true, false, List, [], ◌∷◌, ◌++◌, Some, None, Option, ◌≢◌}
use Rattle.model.specs.declared.Rule.{Rule}
use Rattle.model.specs.Spelling.{known}
use Rattle.model.specs.Witnesses.{Contents, Entry, rule_fits, entry_fits}
use Rattle.text.specs.Pieces.{Bytes}
use Rattle.format.specs.Listing.{rule_line, entry_line, rule_head, entry_head, rule_lines, lines}

-- no line; the first table so far; the empty line too; the second table so far
pub data State : Type 0 where
  Start : State
  Ruling : List Rule → State
  Gapped : List Rule → State
  Giving : List Rule → List Entry → State

-- what the next line may bring: in the first table a rule, or its end
abbrev pub Move : State → Type 0
Move Start = Unit {0}
Move (Ruling rules) = Option Rule
Move (Gapped rules) = Unit {0}
Move (Giving rules entries) = Entry

-- what the line brings may come there
abbrev pub fits : (s : State) → Move s → Bool
fits Start m = true
fits (Ruling rules) None = true
fits (Ruling rules) (Some rule) = rule_fits rules rule
fits (Gapped rules) m = true
fits (Giving rules entries) e = entry_fits rules entries e

-- the line that brings it
abbrev pub line : (s : State) → Move s → Bytes
line Start m = rule_head
line (Ruling rules) None = []
line (Ruling rules) (Some rule) = rule_line (known rules) rule
line (Gapped rules) m = entry_head
line (Giving rules entries) e = entry_line rules e

-- what stands after that line
abbrev pub after : (s : State) → Move s → State
after Start m = Ruling []
after (Ruling rules) None = Gapped rules
after (Ruling rules) (Some rule) = Ruling (rule ∷ rules)
after (Gapped rules) m = Giving rules []
after (Giving rules entries) e = Giving rules (e ∷ entries)

-- what the lines have brought so far
abbrev pub contents : State → Contents
contents Start = record { rules = []; entries = [] }
contents (Ruling rules) = record { rules = rules; entries = [] }
contents (Gapped rules) = record { rules = rules; entries = [] }
contents (Giving rules entries) = record { rules = rules; entries = entries }

-- the lines so far
abbrev pub written : State → List Bytes
written Start = []
written (Ruling rules) = rule_head ∷ rule_lines rules
written (Gapped rules) = (rule_head ∷ rule_lines rules) ++ ([] ∷ [])
written (Giving rules entries) = lines (contents (Giving rules entries))

-- the lines lead from s to t
abbrev pub Run : State → List Bytes → State → Type 0
Run s [] t = s ≡ t
Run s (l ∷ ls) t = (m : Move s) × (fits s m ≡ true) × (l ≡ line s m) × Run (after s m) ls t

-- nothing that may come from s has the line l
abbrev pub Stuck : State → Bytes → Type 0
Stuck s l = (m : Move s) → fits s m ≡ true → l ≢ line s m

-- the second table has begun
abbrev pub giving : State → Bool
giving Start = false
giving (Ruling rules) = false
giving (Gapped rules) = false
giving (Giving rules entries) = true
