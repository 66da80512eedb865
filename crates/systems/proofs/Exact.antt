-- What replacing makes of every side. Assumes nothing.
use Rattle.std.proofs.Common.{◌≡◌, ℕ, ◌≤◌, true, false, ◌&&◌, eqb, ◌≢◌, [], ◌∷◌, ◌++◌, replicate, sym, refl, ap, ◌∙◌, subst, ap₂}
use Rattle.std.proofs.ByRecursion.{All-weaker}
use Rattle.std.proofs.lemmas.Bool.{eq-eqb, ne_eqb, and_from, cond-true, cond-false}
use Rattle.systems.specs.declared.Place.{Place}
use Rattle.systems.specs.declared.Place.TheVariants.{Letter, Variable}
use Rattle.systems.specs.Fitting.{EndsWith, BeginsWith}
use Rattle.systems.specs.Rows.{row}
use Rattle.systems.specs.Sides.{Side, is_letter, side_pairs, side_blocks}
use Rattle.systems.specs.Theorems.{ReplacingIsExact}
use Rattle.systems.proofs.Meaning.{is_letter_true}
use Rattle.systems.proofs.Replacing.{pairs_apart, pairs_none, blocks_apart, row_alone, blocks_none}

no_letter : (a : ℕ) (place : Place) → place ≢ Letter a → is_letter a place ≡ false
no_letter a (Letter b) other = ne_eqb b a (λ e. other (ap Letter e))
no_letter a (Variable x) other = refl

same_letter : (a : ℕ) → is_letter a (Letter a) ≡ true
same_letter a = eq-eqb a a refl

-- a row of a with something else at both ends
module _ (a n c : ℕ) (some : 1 ≤ n) (before behind : Side) (no_end : EndsWith (Letter a) before → ⊥) (no_start : BeginsWith (Letter a) behind → ⊥) where
  around_row : (k : ℕ) → side_blocks a n c (before ++ (replicate k (Letter a) ++ behind)) ≡ side_blocks a n c before ++ (row (Letter a) n (Letter c) k ++ side_blocks a n c behind)
  around_row k =
      let middle : Side = replicate k (Letter a) in
      sym (blocks_apart (is_letter a) (Letter a) n (Letter c) some before (middle ++ behind) (λ x y ends _ ex _. no_end (subst (λ z. EndsWith z before) (is_letter_true a x ex) ends))) ∙
      ap (λ r. side_blocks a n c before ++ r)
      (sym (blocks_apart (is_letter a) (Letter a) n (Letter c) some middle behind (λ x y _ begins _ ey. no_start (subst (λ z. BeginsWith z behind) (is_letter_true a y ey) begins))) ∙
      ap (λ r. r ++ side_blocks a n c behind) (row_alone (is_letter a) (Letter a) n (Letter c) some (same_letter a) k))

pub replacing_is_exact : ReplacingIsExact
replacing_is_exact = record {
  pair = λ a b c before behind differ.
      pairs_apart (is_letter a) (is_letter b) (Letter c) before (Letter a ∷ Letter b ∷ behind) (λ x y _ begins _ ey. let same = begins.1 in let first : Letter a ≡ y = cc in differ (letters_same a b (first ∙ is_letter_true b y ey))) ∙
      ap (λ r. side_pairs a b c before ++ r) (cond-true (eqb a a && eqb b b) (Letter c ∷ side_pairs a b c behind) (Letter a ∷ side_pairs a b c (Letter b ∷ behind)) (and_from (eqb a a) (eqb b b) (same_letter a) (same_letter b)));
  no_pair = λ a b c side none. pairs_none (is_letter a) (is_letter b) (Letter c) side (λ u v x y e ex ey. none u v (e ∙ ap₂ (λ s t. u ++ (s ∷ t ∷ v)) (is_letter_true a x ex) (is_letter_true b y ey)));
  row_of_n = λ a n c before behind some no_end no_start.
      around_row a n c some before behind no_end no_start n ∙
      ap (λ r. side_blocks a n c before ++ (r ++ side_blocks a n c behind)) (cond-true (eqb n n) (Letter c ∷ []) (replicate n (Letter a)) (eq-eqb n n refl));
  other_row = λ a n c k before behind some differ no_end no_start.
      around_row a n c some before behind no_end no_start k ∙
      ap (λ r. side_blocks a n c before ++ (r ++ side_blocks a n c behind)) (cond-false (eqb k n) (Letter c ∷ []) (replicate k (Letter a)) (ne_eqb k n differ));
  no_row = λ a n c side some without. blocks_none (is_letter a) (Letter a) n (Letter c) some side (All-weaker (λ place. place ≢ Letter a) (λ place. is_letter a place ≡ false) (no_letter a) side without);
}
  where
    letters_same : (a b : ℕ) → Letter a ≡ Letter b → a ≡ b
    letters_same a b e = cc
