-- The writer's list: round by round, choices that fit the words of a solution. Assumes nothing.
use Rattle.std.specs.Prelude.{◌≡◌, ℕ, zero, suc, ◌+◌, ◌<◌, ◌≤◌, Bool, true, false, cond, ◌&&◌, ◌≢◌, ◌⊎◌, List, [], ◌∷◌, ◌++◌, map, length, replicate, Some, None, Option, ◌==◌, nat_eq}
use Rattle.std.specs.List.{AllByRecursion}
use Rattle.model.specs.Spelling.{Word}
use Rattle.systems.specs.declared.Choice.{Choice}
use Rattle.systems.specs.declared.Choice.TheVariants.{Left, Right, Erase, Pair, Block}
use Rattle.systems.specs.Choices.{taken}
use Rattle.systems.specs.Fitting.{EndsWith, BeginsWith}
use Rattle.systems.specs.Rows.{any}
use Rattle.systems.specs.Sides.{sides, Words, fill, word_pairs, word_blocks}
use Rattle.systems.specs.Standings.{Standing, fresh, live}

-- what stands, and the words that are followed beside it
pub record State : Type 0 where
  pub stands : Standing
  pub words : Words

abbrev pub beside : Standing → Words → State
beside S τ = record { stands = S; words = τ }

abbrev pub lives : State → ℕ → Bool
lives st = live st.stands

-- a word without its first letter, and without its last
abbrev pub rest : Word → Word
rest [] = []
rest (l ∷ w) = w

abbrev pub front : Word → Word
front [] = []
front (l ∷ []) = []
front (l ∷ (m ∷ w)) = l ∷ front (m ∷ w)

-- its first letter is a, its last is a, it has none
abbrev pub begins : ℕ → Word → Bool
begins a [] = false
begins a (l ∷ w) = l == a

abbrev pub ends : ℕ → Word → Bool
ends a [] = false
ends a (l ∷ []) = l == a
ends a (l ∷ (m ∷ w)) = ends a (m ∷ w)

abbrev pub empty : Word → Bool
empty [] = true
empty (l ∷ w) = false

-- the words with w for x
abbrev pub put : Words → ℕ → Word → Words
put τ x w y = cond (x == y) w (τ y)

-- what a choice that fits leaves of the words
abbrev pub leaves : Standing → Words → Choice → Words
leaves S τ (Left x a) = put τ x (rest (τ x))
leaves S τ (Right x a) = put τ x (front (τ x))
leaves S τ (Erase x) = τ
leaves S τ (Pair a b) = λ y. word_pairs a b (fresh S) (τ y)
leaves S τ (Block a n) = λ y. word_blocks a n (fresh S) (τ y)

-- the state behind one choice, and behind several
abbrev pub next : State → Choice → State
next st choice = beside (taken st.stands choice) (leaves st.stands st.words choice)

abbrev pub follow : State → List Choice → State
follow st [] = st
follow st (choice ∷ more) = follow (next st choice) more

-- a part of a round: the choices that it makes at a state
abbrev pub Part : Type 0
Part = State → List Choice

-- these choices, and then a part at the state behind them
abbrev pub onward : List Choice → Part → Part
onward [] q st = q st
onward (choice ∷ more) q st = choice ∷ onward more q (next st choice)

-- one part, and then another; a part n times; a part for each of some variables in turn
abbrev pub then : Part → Part → Part
then p q st = onward (p st) q st

abbrev pub again : ℕ → Part → Part
again zero p st = []
again (suc n) p st = then p (again n p) st

abbrev pub each : (ℕ → Part) → List ℕ → Part
each p [] st = []
each p (x ∷ xs) st = then (p x) (each p xs) st

-- n numbers, rising from k
abbrev pub from : ℕ → ℕ → List ℕ
from k zero = []
from k (suc n) = k ∷ from (suc k) n

-- A to Z
unfoldable pub variables : List ℕ
variables = from 0 26

-- where x is live: a first letter a is popped, a last letter a is popped, an empty word is erased
abbrev pub pop_first : ℕ → ℕ → Part
pop_first a x st = cond (lives st x && begins a (st.words x)) (Left x a ∷ []) []

abbrev pub pop_last : ℕ → ℕ → Part
pop_last a x st = cond (lives st x && ends a (st.words x)) (Right x a ∷ []) []

abbrev pub erase_empty : ℕ → Part
erase_empty x st = cond (lives st x && empty (st.words x)) (Erase x ∷ []) []

-- what x does before the pair ab is joined: one first b at most and one last a at most are popped, and x is erased if then empty
abbrev pub for_pair : ℕ → ℕ → ℕ → Part
for_pair a b x = then (pop_first b x) (then (pop_last a x) (erase_empty x))

-- what x does before blocks of a are joined: each leading a and each trailing a is popped, one by one, and x is erased if then empty
abbrev pub for_block : ℕ → ℕ → Part
for_block a x st = then (again (length (st.words x)) (pop_first a x)) (then (again (length (st.words x)) (pop_last a x)) (erase_empty x)) st

-- the sides with the words filled in, and how many letters words have together
abbrev pub filled_sides : State → List Word
filled_sides st = map (fill st.words) (sides st.stands.equations)

abbrev pub total : {A : Type 0} → (A → ℕ) → List A → ℕ
total f [] = 0
total f (x ∷ xs) = f x + total f xs

abbrev pub letters : List Word → ℕ
letters = total length

-- n times a stand in a row in a word, and no a stands right before them or right behind
pub record MaximalRow (a n : ℕ) (w : Word) : Type 0 where
  pub before : Word
  pub behind : Word
  pub is : w ≡ before ++ (replicate n a ++ behind)
  pub not_before : EndsWith a before → ⊥
  pub not_behind : BeginsWith a behind → ⊥

-- it is so of some of the words
abbrev pub InSome : (Word → Type 0) → List Word → Type 0
InSome P [] = ⊥
InSome P (w ∷ ws) = P w ⊎ InSome P ws

-- each number is below the later ones
abbrev pub Rising : List ℕ → Type 0
Rising [] = Unit {0}
Rising (n ∷ ns) = AllByRecursion (λ m. n < m) ns × Rising ns

-- the lengths, 2 or more, of the maximal rows of a in some words, rising: all of them, each once
pub record RowLengths (a : ℕ) (ws : List Word) (ns : List ℕ) : Type 0 where
  pub rising : Rising ns
  pub rows : (n : ℕ) → any (nat_eq n) ns ≡ true → (2 ≤ n) × InSome (MaximalRow a n) ws
  pub all_rows : (n : ℕ) → 2 ≤ n → InSome (MaximalRow a n) ws → any (nat_eq n) ns ≡ true

-- each live variable whose word is empty is erased
abbrev pub erasures : Part
erasures = each erase_empty variables

abbrev pub erased : State → State
erased st = follow st (erasures st)

-- the first live variable
abbrev pub first : (ℕ → Bool) → List ℕ → Option ℕ
first p [] = None
first p (x ∷ xs) = cond (p x) (Some x) (first p xs)

abbrev pub first_live : State → Option ℕ
first_live st = first (lives st) variables

-- the rest of a round where the first live variable's word begins with a and another letter b
abbrev pub join_pair : ℕ → ℕ → Part
join_pair a b = then (each (for_pair a b) variables) (λ _. Pair a b ∷ [])

-- and where it begins with a and a: the pops, and then a block for each length n
abbrev pub pop_rows : ℕ → Part
pop_rows a = each (for_block a) variables

abbrev pub join_blocks : ℕ → List ℕ → Part
join_blocks a ns = then (pop_rows a) (λ _. map (Block a) ns)

-- the list of the rounds from a state on, a constructor for each kind of round; each begins with the erasures
pub data Rounds : State → List Choice → Type 0 where
  -- no variable is live: the list ends
  ends_here : {st : State} → first_live (erased st) ≡ None → Rounds st (erasures st)
  -- the first live one has one letter left, which is popped left
  one_letter : {st : State} {more : List Choice} (x a : ℕ) → first_live (erased st) ≡ Some x → (erased st).words x ≡ a ∷ [] → Rounds (follow (erased st) (Left x a ∷ [])) more → Rounds st (erasures st ++ ((Left x a ∷ []) ++ more))
  -- its first two letters differ
  by_pair : {st : State} {more : List Choice} (x a b : ℕ) (w : Word) → first_live (erased st) ≡ Some x → (erased st).words x ≡ a ∷ b ∷ w → a ≢ b → Rounds (follow (erased st) (join_pair a b (erased st))) more → Rounds st (erasures st ++ (join_pair a b (erased st) ++ more))
  -- its first two letters are equal: the blocks have the lengths of the maximal rows in the sides, filled in behind the pops
  by_blocks : {st : State} {more : List Choice} (x a : ℕ) (w : Word) (ns : List ℕ) → first_live (erased st) ≡ Some x → (erased st).words x ≡ a ∷ a ∷ w → RowLengths a (filled_sides (follow (erased st) (pop_rows a (erased st)))) ns → Rounds (follow (erased st) (join_blocks a ns (erased st))) more → Rounds st (erasures st ++ (join_blocks a ns (erased st) ++ more))

-- the list that is written from what stands and the words
abbrev pub Writes : Standing → Words → List Choice → Type 0
Writes S τ list = Rounds (beside S τ) list
