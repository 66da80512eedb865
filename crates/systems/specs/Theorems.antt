-- The theorems. Assumes nothing.
use Rattle.std.specs.Prelude.{◌≡◌, ℕ, ◌<◌, ◌≤◌, true, false, ◌≢◌, List, [], ◌∷◌, ◌++◌, map, replicate, Some, None, Option}
use Rattle.std.specs.List.{AllByRecursion}
use Rattle.model.specs.declared.Rule.{Rule}
use Rattle.model.specs.Spelling.{Word, spell, spell_word, rule_of}
use Rattle.model.specs.Witnesses.{rules_fit}
use Rattle.systems.specs.declared.Place.TheVariants.{Letter}
use Rattle.systems.specs.declared.Choice.{Choice}
use Rattle.systems.specs.declared.ChoiceRefusal.{ChoiceRefusal}
use Rattle.systems.specs.Fitting.{EndsWith, BeginsWith, Crosses, Fits}
use Rattle.systems.specs.Invariants.{WellFormed}
use Rattle.systems.specs.Loading.{after_load}
use Rattle.systems.specs.Occurrences.{CrossingOccurrence}
use Rattle.systems.specs.Refusals.{choice_number, choice_refusal}
use Rattle.systems.specs.Runs.{Load, opened, loaded, OfSystem, Reaches, Follows}
use Rattle.systems.specs.Sides.{Side, sides, Words, fill, Solves, Below, Solution, SameSides, side_pairs, side_blocks}
use Rattle.systems.specs.Standings.{Standing, fresh, live, whole, popped_word}
use Rattle.systems.specs.Values.{Associative, Neutral, word_value, rule_value}

-- every S that a run reaches is well formed
abbrev pub RunsAreWellFormed : Type 0
RunsAreWellFormed = (loads : List Load) (choices : List Choice) (S : Standing) → Reaches loads choices S → WellFormed S

-- what stands is decided by the calls: they lead to some S and to no other, and each load goes on from the loads before it
pub record CallsDecideWhatStands : Type 0 where
  pub some : (loads : List Load) (choices : List Choice) → (S : Standing) × Reaches loads choices S
  pub same : (loads : List Load) (choices : List Choice) (S T : Standing) → Reaches loads choices S → Reaches loads choices T → S ≡ T
  pub one_load_more : (loads : List Load) (left right : List ℕ) → opened (loads ++ ((left, right) ∷ [])) ≡ after_load (opened loads) left right

-- replacing does what it says: these equations say of every side what becomes of it
pub record ReplacingIsExact : Type 0 where
  -- a and b in neighbouring places, two different letters, become c, whatever stands before and behind
  pub pair : (a b c : ℕ) (before behind : Side) → a ≢ b → side_pairs a b c (before ++ (Letter a ∷ Letter b ∷ behind)) ≡ side_pairs a b c before ++ (Letter c ∷ side_pairs a b c behind)
  -- and a side without them stays
  pub no_pair : (a b c : ℕ) (side : Side) → ((before behind : Side) → side ≢ before ++ (Letter a ∷ Letter b ∷ behind)) → side_pairs a b c side ≡ side
  -- a maximal row of n times a becomes c, one of another length stays
  pub row_of_n : (a n c : ℕ) (before behind : Side) → 1 ≤ n → (EndsWith (Letter a) before → ⊥) → (BeginsWith (Letter a) behind → ⊥) → side_blocks a n c (before ++ (replicate n (Letter a) ++ behind)) ≡ side_blocks a n c before ++ (Letter c ∷ side_blocks a n c behind)
  pub other_row : (a n c k : ℕ) (before behind : Side) → 1 ≤ n → k ≢ n → (EndsWith (Letter a) before → ⊥) → (BeginsWith (Letter a) behind → ⊥) → side_blocks a n c (before ++ (replicate k (Letter a) ++ behind)) ≡ side_blocks a n c before ++ (replicate k (Letter a) ++ side_blocks a n c behind)
  -- and a side without a stays
  pub no_row : (a n c : ℕ) (side : Side) → 1 ≤ n → AllByRecursion (λ place. place ≢ Letter a) side → side_blocks a n c side ≡ side

-- `Crosses` says what it should: some occurrence of ab in the filled-in side comes neither from one place nor from two letters in neighbouring places
abbrev pub CrossingIsAnOccurrence : Type 0
CrossingIsAnOccurrence = (a b : ℕ) (τ : Words) (side : Side) → (Crosses a b τ side → CrossingOccurrence a b τ side) × (CrossingOccurrence a b τ side → Crosses a b τ side)

-- nothing is left of a variable of the system that is no longer live
abbrev pub NothingLeft : List Load → Standing → Words → Type 0
NothingLeft loads S τ = (x : ℕ) → OfSystem loads x → live S x ≡ false → τ x ≡ []

-- Whatever was done, each side of what stands, filled in and spelled, is the loaded side filled with the whole words
abbrev pub Sound : Type 0
Sound =
    (loads : List Load) (choices : List Choice) (S : Standing) → Reaches loads choices S →
    (τ : Words) → NothingLeft loads S τ →
    map (λ side. spell_word S.rules (fill τ side)) (sides S.equations) ≡ map (fill (whole S τ)) (sides (loaded loads))

-- so where no variable is live and the two sides of each equation are the same, the popped letters spell a solution of what was loaded
abbrev pub SoundAtEnd : Type 0
SoundAtEnd =
    (loads : List Load) (choices : List Choice) (S : Standing) → Reaches loads choices S →
    ((x : ℕ) → live S x ≡ false) → AllByRecursion SameSides S.equations →
    Solution (λ x. spell_word S.rules (popped_word S x)) (loaded loads)

-- no refusal, or one of 21 to 24
abbrev pub ByLimit : Option ChoiceRefusal → Type 0
ByLimit None = Unit {0}
ByLimit (Some why) = (21 ≤ choice_number why) × (choice_number why ≤ 24)

-- what is so where the words σ of a solution were followed to τ
pub record SolutionKept (loads : List Load) (choices : List Choice) (S : Standing) (σ τ : Words) : Type 0 where
  pub reaches : Reaches loads choices S
  pub solves : Solves τ S.equations
  pub known_words : (x : ℕ) → Below (fresh S) (τ x)
  pub nothing_left : NothingLeft loads S τ
  pub whole_words : (x : ℕ) → whole S τ x ≡ σ x
  pub no_needless_refusal : (choice : Choice) (τ' : Words) → Fits S τ choice τ' → ByLimit (choice_refusal S choice)
  pub same_sides : ((x : ℕ) → live S x ≡ false) → AllByRecursion SameSides S.equations
  pub same_words : ((x : ℕ) → live S x ≡ false) → (x : ℕ) → OfSystem loads x → spell_word S.rules (popped_word S x) ≡ σ x

-- A run whose taken choices fit a solution keeps it
abbrev pub Complete : Type 0
Complete =
    (loads : List Load) (choices : List Choice) (S : Standing) (σ τ : Words) →
    Solution σ (loaded loads) → Follows loads σ choices S τ → SolutionKept loads choices S σ τ

-- the value of what a word spells is the values of what its letters spell, joined in order; a letter a to z has its own value, and a made letter the value by its rule
pub record ValuesOf {V : Type 0} (letter : ℕ → V) (empty : V) (join : V → V → V) : Type 0 where
  pub of_word : (rules : List Rule) (w : Word) → word_value letter empty join (spell_word rules w) ≡ word_value (λ a. word_value letter empty join (spell rules a)) empty join w
  pub of_a_to_z : (rules : List Rule) (a : ℕ) → a < 26 → word_value letter empty join (spell rules a) ≡ letter a
  pub of_made : (rules : List Rule) (a : ℕ) (rule : Rule) → rules_fit rules ≡ true → rule_of rules a ≡ Some rule → word_value letter empty join (spell rules a) ≡ rule_value (λ b. word_value letter empty join (spell rules b)) empty join rule

-- Values follow spelling, under every measure with values in V that keeps the laws
abbrev pub ValuesFollowSpelling : Type 0 → Type 0
ValuesFollowSpelling V = (letter : ℕ → V) (empty : V) (join : V → V → V) → Associative join → Neutral empty join → ValuesOf letter empty join
