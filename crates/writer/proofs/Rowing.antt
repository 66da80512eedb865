-- The lengths that are noted are those of the maximal rows in the filled-in sides. Assumes nothing.
use Rattle.std.proofs.Common.{◌≡◌, ℕ, zero, suc, ◌+◌, ◌<◌, ◌≤◌, Bool, true, false, cond, ◌||◌, eqb, List, [], ◌∷◌, ◌++◌, map, get_or, sym, refl, ap, ◌∙◌, ap₂, subst, arith}
use Rattle.std.proofs.Math.Bool.{or_assoc}
use Rattle.std.proofs.lemmas.Bool.{cond-false, cond-true}
use Rattle.model.specs.Spelling.{Word}
use Rattle.systems.specs.declared.Choice.TheVariants.{Block}
use Rattle.systems.specs.declared.Place.TheVariants.{Letter}
use Rattle.systems.specs.Rows.{any}
use Rattle.systems.specs.Sides.{Words, Equation, sides}
use Rattle.systems.proofs.Rows.{cond_under}
use Rattle.sides.specs.declared.mark.Mark.{Mark}
use Rattle.sides.specs.declared.mark.Mark.TheVariants.{End, At}
use Rattle.sides.specs.Marks.{flat, marks_of}
use Rattle.writing.specs.Writer.{State, Part, each, filled_sides, follow, from, join_blocks, pop_rows, then}
use Rattle.writing.specs.Counting.{counted_lengths, has_row, keep, row_lengths}
use Rattle.writing.proofs.Lengths.{rows_counted, rows_up_to, same_rows}
use Rattle.writing.proofs.Limited.{Holds}
use Rattle.writing.proofs.Parts.{then_is}
use Rattle.writing.specs.Turns.{block_lengths}
use Rattle.writer.specs.declared.store.Draft.{Draft}
use Rattle.writer.specs.Following.{Follows, Ready, Does}
use Rattle.leftover.specs.Noting.{mark_rows, noted_lengths}
use Rattle.writer.proofs.Following.{does_none, same_does, same_ready, upto}

any-++ : (p : ℕ → Bool) (xs ys : List ℕ) → any p (xs ++ ys) ≡ (any p xs || any p ys)
any-++ p [] ys = refl
any-++ p (x ∷ xs) ys = ap (λ t. p x || t) (any-++ p xs ys) ∙ sym (or_assoc (p x) (any p xs) (any p ys))

module _ (a : ℕ) where
  side_rows : (w : Word) (k : ℕ) (ms : List Mark) → mark_rows a k (map At (map Letter w) ++ (End ∷ ms)) ≡ row_lengths a k w ++ mark_rows a 0 ms
  side_rows [] k ms = refl
  side_rows (l ∷ w) k ms =
      sym (cond_under (λ ns. ns ++ mark_rows a 0 ms) (eqb l a) (row_lengths a (suc k) w) (k ∷ row_lengths a 0 w) (mark_rows a (suc k) (map At (map Letter w) ++ (End ∷ ms))) (k ∷ mark_rows a 0 (map At (map Letter w) ++ (End ∷ ms)))
      (λ _. sym (side_rows w (suc k) ms)) (λ _. ap (λ ns. k ∷ ns) (sym (side_rows w 0 ms))))

  rows_of_sides : (n : ℕ) (ws : List Word) → any (eqb n) (mark_rows a 0 (flat (map (map Letter) ws))) ≡ any (has_row a n) ws
  rows_of_sides n [] = refl
  rows_of_sides n (w ∷ ws) =
      ap (any (eqb n)) (side_rows w 0 (flat (map (map Letter) ws))) ∙
      any-++ (eqb n) (row_lengths a 0 w) (mark_rows a 0 (flat (map (map Letter) ws))) ∙
      ap (λ t. has_row a n w || t) (rows_of_sides n ws)

  rows_of_marks : (n : ℕ) (E : List Equation) (ws : List Word) → sides E ≡ map (map Letter) ws → any (eqb n) (mark_rows a 0 (marks_of E)) ≡ any (has_row a n) ws
  unfolding marks_of
  rows_of_marks n E ws is = ap (λ ss. any (eqb n) (mark_rows a 0 (flat ss))) is ∙ rows_of_sides n ws

keep_same : (p q : ℕ → Bool) (count k bound : ℕ) → k + count ≤ bound → ((n : ℕ) → n < bound → p n ≡ q n) → keep p (from k count) ≡ keep q (from k count)
keep_same p q zero k bound le same = refl
keep_same p q (suc count) k bound le same = ap₂ (λ t ns. cond t (k ∷ ns) ns) (same k (omega arith)) (keep_same p q count (suc k) bound (omega arith) same)

-- what is noted from the marks of the filled-in sides
abbrev pub Noted : List Bool → ℕ → List Equation → Type 0
Noted noted a E = (n : ℕ) → n < 513 → get_or noted n false ≡ any (eqb n) (mark_rows a 0 (marks_of E))

pub noted_right : (noted : List Bool) (a : ℕ) (w : Draft) (st : State) (σ : Words) → Noted noted a w.left.now.filled → Follows w st → Holds σ st → noted_lengths noted ≡ counted_lengths a (filled_sides st)
noted_right noted a w st σ right follows holds =
    let ws : List Word = filled_sides st in
    keep_same (λ n. get_or noted n false) (λ n. any (has_row a n) ws) 511 2 513 (omega arith) (λ n low. right n low ∙ rows_of_marks a n w.left.now.filled ws follows.filled) ∙
    same_rows a ws (keep (λ n. any (has_row a n) ws) (from 2 511)) (counted_lengths a ws) (rows_up_to a ws 511 (omega (arith, holds.within.rules))) (rows_counted a ws)

-- blocks one after another, for each length that is noted
module _ (a : ℕ) (p : ℕ → Bool) where
  abbrev pub block_if : ℕ → Part
  block_if n st = cond (p n) (Block a n ∷ []) []

  blocks_kept : (count k : ℕ) (st : State) → each block_if (from k count) st ≡ map (Block a) (keep p (from k count))
  blocks_kept zero k st = refl
  blocks_kept (suc count) k st = then_is (block_if k) (each block_if (from (suc k) count)) st ∙ go (λ st'. blocks_kept count (suc k) st') (p k)
    where
      go : ((st' : State) → each block_if (from (suc k) count) st' ≡ map (Block a) (keep p (from (suc k) count))) → (t : Bool) → cond t (Block a k ∷ []) [] ++ each block_if (from (suc k) count) (follow st (cond t (Block a k ∷ []) [])) ≡ map (Block a) (cond t (k ∷ keep p (from (suc k) count)) (keep p (from (suc k) count)))
      go more true = ap (λ l. Block a k ∷ l) (more (follow st (Block a k ∷ [])))
      go more false = more st

  pub blocks_upto : (st : State) → upto block_if 2 513 st ≡ map (Block a) (keep p (from 2 511))
  blocks_upto st = blocks_kept 511 2 st

-- the rest of a round of blocks, as the pops and then the blocks of the rows that stand then
abbrev pub rows_part : ℕ → Part
rows_part a st = map (Block a) (counted_lengths a (filled_sides st))

abbrev pub blocks_part : ℕ → Part
blocks_part a st = join_blocks a (block_lengths a st) st

pub blocks_in_two : (a : ℕ) (st : State) → then (pop_rows a) (rows_part a) st ≡ blocks_part a st
blocks_in_two a st = then_is (pop_rows a) (rows_part a) st ∙ sym (then_is (pop_rows a) (λ _. map (Block a) (block_lengths a st)) st)

module _ (a : ℕ) (noted : List Bool) where
  abbrev pub block_at : ℕ → Part
  block_at = block_if a (λ n. get_or noted n false)

  pub blocks_ready : (w : Draft) → Ready (λ _. map (Block a) (noted_lengths noted)) w → Ready (upto block_at 2 513) w
  blocks_ready w = same_ready (λ _. map (Block a) (noted_lengths noted)) (upto block_at 2 513) w (λ _ st _ _. sym (blocks_upto a (λ n. get_or noted n false) st))

  pub blocks_done : (n : ℕ) (u v : Draft) → n ≡ 513 → Does (upto block_at 2 n) u v → Does (λ _. map (Block a) (noted_lengths noted)) u v
  blocks_done n u v all done = same_does (upto block_at 2 513) (λ _. map (Block a) (noted_lengths noted)) u v (λ _ st _ _. blocks_upto a (λ n. get_or noted n false) st) (subst (λ m. Does (upto block_at 2 m) u v) all done)

  module _ (n : ℕ) where
    pub block_ready : (w : Draft) → get_or noted n false ≡ true → Ready (block_at n) w → Ready (λ _. Block a n ∷ []) w
    block_ready w e = same_ready (block_at n) (λ _. Block a n ∷ []) w (λ _ _ _ _. cond-true (get_or noted n false) (Block a n ∷ []) [] e)

    pub block_done : (u v : Draft) → get_or noted n false ≡ true → Does (λ _. Block a n ∷ []) u v → Does (block_at n) u v
    block_done u v e = same_does (λ _. Block a n ∷ []) (block_at n) u v (λ _ _ _ _. sym (cond-true (get_or noted n false) (Block a n ∷ []) [] e))

    pub no_block : (w : Draft) → get_or noted n false ≡ false → Does (block_at n) w w
    no_block w e = does_none (block_at n) w (λ _ _. cond-false (get_or noted n false) (Block a n ∷ []) [] e)

-- the two halves of a round of blocks
module _ (a : ℕ) (noted : List Bool) where
  abbrev pub blocks_noted : Part
  blocks_noted _ = map (Block a) (noted_lengths noted)

  pub noted_ready : (w : Draft) → Noted noted a w.left.now.filled → Ready (rows_part a) w → Ready blocks_noted w
  noted_ready w right = same_ready (rows_part a) blocks_noted w (λ σ st follows holds. ap (map (Block a)) (sym (noted_right noted a w st σ right follows holds)))

  pub noted_done : (u v : Draft) → Noted noted a u.left.now.filled → Does blocks_noted u v → Does (rows_part a) u v
  noted_done u v right = same_does blocks_noted (rows_part a) u v (λ σ st follows holds. ap (map (Block a)) (noted_right noted a u st σ right follows holds))
