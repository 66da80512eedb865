-- Words of letters below a bound, and entries that fit. Assumes nothing.
use Rattle.std.proofs.Common.{◌≡◌, ℕ, zero, suc, ◌+◌, ◌<◌, ◌≤◌, true, ◌&&◌, ltb, leb, List, [], ◌∷◌, ◌++◌, length, get_or, refl, arith}
use Rattle.std.proofs.lemmas.Bool.{and_parts, and_from, leb-true, ltb-true, lt-ltb, le-leb}
use Rattle.model.specs.declared.Rule.{Rule}
use Rattle.model.specs.Spelling.{Word, known}
use Rattle.model.specs.Witnesses.{Entry, all_below, entry_fits, least, letters_in}

-- the first letter is below n, and so are the others
pub below_parts : (n a : ℕ) (w : Word) → all_below n (a ∷ w) ≡ true → (a < n) × (all_below n w ≡ true)
below_parts n a w h = let p = and_parts (ltb a n) (all_below n w) h in (ltb-true a n p.0, p.1)

pub below_at : (n : ℕ) (w : Word) (i : ℕ) → all_below n w ≡ true → i < length w → get_or w i 0 < n
below_at n [] i h lt = absurd (omega arith)
below_at n (a ∷ w) zero h lt = (below_parts n a w h).0
below_at n (a ∷ w) (suc i) h lt = below_at n w i (below_parts n a w h).1 (omega arith)

pub below_more : (m n : ℕ) (w : Word) → m ≤ n → all_below m w ≡ true → all_below n w ≡ true
below_more m n [] le h = refl
below_more m n (a ∷ w) le h =
    let p = below_parts m a w h in
    let head : a < m = p.0 in
    and_from (ltb a n) (all_below n w) (lt-ltb a n (omega arith)) (below_more m n w le p.1)

pub below_push : (n : ℕ) (w : Word) (a : ℕ) → all_below n w ≡ true → a < n → all_below n (w ++ (a ∷ [])) ≡ true
below_push n [] a h lt = and_from (ltb a n) true (lt-ltb a n lt) refl
below_push n (b ∷ w) a h lt =
    let p = below_parts n b w h in
    and_from (ltb b n) (all_below n (w ++ (a ∷ []))) (lt-ltb b n p.0) (below_push n w a p.1 lt)

-- what an entry that fits is
pub record EntryAfter (rules : List Rule) (older : List Entry) (e : Entry) : Type 0 where
  pub rises : least older ≤ e.variable
  pub named : e.variable < 26
  pub low : all_below (known rules) e.word ≡ true
  pub few : length e.word + letters_in older ≤ 1024

pub entry_after : (rules : List Rule) (older : List Entry) (e : Entry) → entry_fits rules older e ≡ true → EntryAfter rules older e
entry_after rules older e h =
    let p = and_parts (leb (least older) e.variable && ltb e.variable 26) (all_below (known rules) e.word && leb (length e.word + letters_in older) 1024) h in
    let v = and_parts (leb (least older) e.variable) (ltb e.variable 26) p.0 in
    let w = and_parts (all_below (known rules) e.word) (leb (length e.word + letters_in older) 1024) p.1 in
    record { rises = leb-true _ _ v.0; named = ltb-true _ _ v.1; low = w.0; few = leb-true _ _ w.1 }

pub from_after : (rules : List Rule) (older : List Entry) (e : Entry) → EntryAfter rules older e → entry_fits rules older e ≡ true
from_after rules older e f =
    and_from (leb (least older) e.variable && ltb e.variable 26) (all_below (known rules) e.word && leb (length e.word + letters_in older) 1024)
    (and_from (leb (least older) e.variable) (ltb e.variable 26) (le-leb _ _ f.rises) (lt-ltb _ _ f.named))
    (and_from (all_below (known rules) e.word) (leb (length e.word + letters_in older) 1024) f.low (le-leb _ _ f.few))
