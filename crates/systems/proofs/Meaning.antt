-- What a side means, with a word for each letter and for each variable, and that replacing keeps it. Assumes nothing.
use Rattle.std.proofs.Common.{◌≡◌, ℕ, ◌<◌, true, false, eqb, List, [], ◌∷◌, ◌++◌, sym, refl, ap, ◌∙◌, ap₂, append-nil}
use Rattle.std.specs.List.{flat_map, AllByRecursion}
use Rattle.std.proofs.ByRecursion.{All-weaker}
use Rattle.std.proofs.lemmas.Bool.{true≢false, eqb-true, cond_both}
use Rattle.model.specs.declared.Rule.{Rule}
use Rattle.model.specs.declared.Rule.TheVariants.{Pair as PairRule, Block as BlockRule}
use Rattle.model.specs.Spelling.{Word, known, spell}
use Rattle.model.proofs.Spelling.{spell_older, spell_newest}
use Rattle.systems.specs.declared.Place.{Place}
use Rattle.systems.specs.declared.Place.TheVariants.{Letter, Variable}
use Rattle.systems.specs.Choices.{swapped, swap}
use Rattle.systems.specs.Invariants.{KnownPlace}
use Rattle.systems.specs.Sides.{Side, is_letter, Words, side_pairs, side_blocks}
use Rattle.systems.proofs.Rows.{joined_same, all_each, joined_joined, joined_pairs, joined_blocks}

-- what a side means, with a word for each letter and for each variable

abbrev pub meaning : (ℕ → Word) → Words → Place → Word
meaning φ ψ (Letter a) = φ a
meaning φ ψ (Variable x) = ψ x

pub swap_means : (f g : Place → Word) (x : ℕ) (v : Side) → ((a : ℕ) → g (Letter a) ≡ f (Letter a)) → ((y : ℕ) → eqb x y ≡ false → g (Variable y) ≡ f (Variable y)) → flat_map g v ≡ f (Variable x) → (s : Side) → flat_map g (swap x v s) ≡ flat_map f s
swap_means f g x v same others new s = joined_joined g (swapped x v) s ∙ joined_same (λ p. flat_map g (swapped x v p)) f s (all_each (λ p. flat_map g (swapped x v p) ≡ f p) at s)
  where
    at : (p : Place) → flat_map g (swapped x v p) ≡ f p
    at (Letter a) = append-nil (g (Letter a)) ∙ same a
    at (Variable y) = cond_both (eqb x y) v (Variable y ∷ []) (λ r. flat_map g r ≡ f (Variable y)) (λ e. new ∙ ap (λ z. f (Variable z)) (eqb-true x y e)) (λ e. append-nil (g (Variable y)) ∙ others y e)

-- an older letter spells what it spelled

abbrev pub SpellsOlder : List Rule → List Rule → Type 0
SpellsOlder older rules = (l : ℕ) → l < known older → spell rules l ≡ spell older l

meaning_older : (older rules : List Rule) (ψ : Words) → SpellsOlder older rules → (p : Place) → KnownPlace (known older) p → meaning (spell rules) ψ p ≡ meaning (spell older) ψ p
meaning_older older rules ψ same (Letter l) h = same l h
meaning_older older rules ψ same (Variable x) h = refl

pub is_letter_true : (a : ℕ) (p : Place) → is_letter a p ≡ true → p ≡ Letter a
is_letter_true a (Letter l) e = ap Letter (eqb-true l a e)
is_letter_true a (Variable x) e = absurd (true≢false (sym e))

pub pair_means : (older : List Rule) (ψ : Words) (a b : ℕ) (s : Side) → AllByRecursion (KnownPlace (known older)) s → flat_map (meaning (spell (PairRule a b ∷ older)) ψ) (side_pairs a b (known older) s) ≡ flat_map (meaning (spell older) ψ) s
pair_means older ψ a b s h =
    let f : Place → Word = meaning (spell older) ψ in
    let g : Place → Word = meaning (spell (PairRule a b ∷ older)) ψ in
    joined_pairs (is_letter a) (is_letter b) (Letter (known older)) f g
    (λ x y ex ey. spell_newest (PairRule a b) older ∙ sym (ap₂ (λ u v. f u ++ f v) (is_letter_true a x ex) (is_letter_true b y ey)))
    s (All-weaker (KnownPlace (known older)) (λ p. g p ≡ f p) (meaning_older older (PairRule a b ∷ older) ψ (spell_older (PairRule a b) older)) s h)

pub block_means : (older : List Rule) (ψ : Words) (a n : ℕ) → a < known older → (s : Side) → AllByRecursion (KnownPlace (known older)) s → flat_map (meaning (spell (BlockRule a n ∷ older)) ψ) (side_blocks a n (known older) s) ≡ flat_map (meaning (spell older) ψ) s
block_means older ψ a n low s h =
    let f : Place → Word = meaning (spell older) ψ in
    let g : Place → Word = meaning (spell (BlockRule a n ∷ older)) ψ in
    joined_blocks (is_letter a) (Letter a) n (Letter (known older)) f g
    (spell_older (BlockRule a n) older a low) (spell_newest (BlockRule a n) older) (λ x e. ap f (is_letter_true a x e))
    s 0 (All-weaker (KnownPlace (known older)) (λ p. g p ≡ f p) (meaning_older older (BlockRule a n ∷ older) ψ (spell_older (BlockRule a n) older)) s h)
