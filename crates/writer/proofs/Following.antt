-- Parts of a round, one after another. Assumes nothing.
use Rattle.std.proofs.Common.{◌≡◌, ℕ, zero, suc, ◌+◌, ◌-◌, ◌<◌, ◌≤◌, List, [], ◌++◌, length, min, sym, refl, ap, ◌∙◌, subst, append-nil, append_assoc, arith}
use mathlib.Core.Logic.{∥∥₁_elim, ∥∥₁_map}
use mathlib.Core.Bool.{Bool-set}
use Rattle.std.proofs.lemmas.Bool.{lt-ltb, ltb-true}
use Rattle.std.proofs.lemmas.List.{length-map, map-append}
use Rattle.model.specs.Buffers.{Put}
use Rattle.model.proofs.Buffers.{put_none, put_then}
use Rattle.systems.specs.declared.Choice.{Choice}
use Rattle.systems.specs.Sides.{Words}
use Rattle.writing.specs.Records.{record_of}
use Rattle.writing.specs.Writer.{State, follow, Part, then, again, each, from, variables}
use Rattle.writing.specs.Counts.{weight}
use Rattle.writing.proofs.Falls.{all_variables}
use Rattle.writing.proofs.Limited.{Holds, holds_follow, run_falls}
use Rattle.writing.proofs.Parts.{AllSure, sure_front, then_is, follow-++}
use Rattle.writer.specs.declared.store.Draft.{Draft}
use Rattle.writer.specs.Following.{Follows, Wrote, At, Ready, Does}

pub wrote_none : (w : Draft) → Wrote w [] w
wrote_none w = record { long = refl; put = put_none w.list.now w.count }

wrote_then : (u v w : Draft) (xs ys : List Choice) → Wrote u xs v → Wrote v ys w → Wrote u (xs ++ ys) w
wrote_then u v w xs ys a b = record {
  long = b.long ∙ a.long;
  put = subst (λ rs. Put u.list.now u.count rs w.list.now w.count) (sym (map-append record_of xs ys)) (put_then a.put b.put);
}

-- a part that makes the same choices wherever the writer may stand is the same
pub same_does : (p q : Part) (u v : Draft) → ((σ : Words) (st : State) → Follows u st → Holds σ st → p st ≡ q st) → Does p u v → Does q u v
same_does p q u v same done = record { same = done.same; writes = writes }
  where
    writes : (σ : Words) (st : State) → At σ q u st → Wrote u (q st) v × Follows v (follow st (q st))
    writes σ st at =
        let is : p st ≡ q st = same σ st at.follows at.holds in
        subst (λ l. Wrote u l v × Follows v (follow st l)) is
        (done.writes σ st (record { follows = at.follows; holds = at.holds; sure = subst (AllSure st) (sym is) at.sure; room = at.room; list = at.list }))

pub same_ready : (p q : Part) (w : Draft) → ((σ : Words) (st : State) → Follows w st → Holds σ st → p st ≡ q st) → Ready p w → Ready q w
same_ready p q w same ready =
    ∥∥₁_map ready (λ h. (h.0, h.1, record { follows = h.2.follows; holds = h.2.holds; sure = subst (AllSure h.1) (same h.0 h.1 h.2.follows h.2.holds) h.2.sure; room = h.2.room; list = h.2.list }))

-- of two parts the first may be written, and then the second
pub at_front : (p q : Part) (σ : Words) (w : Draft) (st : State) → At σ (then p q) w st → At σ p w st
at_front p q σ w st at = record {
  follows = at.follows;
  holds = at.holds;
  sure = (sure_front st (p st) (q (follow st (p st))) (subst (AllSure st) (then_is p q st) at.sure)).0;
  room = at.room;
  list = at.list;
}

pub at_behind : (p q : Part) (σ : Words) (u v : Draft) (st : State) → At σ (then p q) u st → Wrote u (p st) v × Follows v (follow st (p st)) → At σ q v (follow st (p st))
at_behind p q σ u v st at done =
    let sure = sure_front st (p st) (q (follow st (p st))) (subst (AllSure st) (then_is p q st) at.sure) in
    let falls : length (p st) + weight (follow st (p st)) ≤ weight st = run_falls σ st (p st) at.holds sure.0 in
    record {
      follows = done.1;
      holds = holds_follow σ st (p st) sure.0 at.holds;
      sure = sure.1;
      room = omega (arith, falls, at.room, done.0.put.behind, length-map (p st) record_of);
      list = omega (arith, at.list, done.0.long);
    }

pub ready_front : (p q : Part) (w : Draft) → Ready (then p q) w → Ready p w
ready_front p q w ready = ∥∥₁_map ready (λ h. (h.0, h.1, at_front p q h.0 w h.1 h.2))

pub ready_behind : (p q : Part) (u v : Draft) → Ready (then p q) u → Does p u v → Ready q v
ready_behind p q u v ready done = ∥∥₁_map ready (λ h. (h.0, follow h.1 (p h.1), at_behind p q h.0 u v h.1 h.2 (done.writes h.0 h.1 (at_front p q h.0 u h.1 h.2))))

pub then_at : (p q : Part) (u v w : Draft) (st : State) → Wrote u (p st) v × Follows v (follow st (p st)) → Wrote v (q (follow st (p st))) w × Follows w (follow (follow st (p st)) (q (follow st (p st)))) → Wrote u (then p q st) w × Follows w (follow st (then p q st))
then_at p q u v w st first second =
    subst (λ l. Wrote u l w × Follows w (follow st l)) (sym (then_is p q st))
    (wrote_then u v w (p st) (q (follow st (p st))) first.0 second.0, subst (Follows w) (sym (follow-++ st (p st) (q (follow st (p st))))) second.1)

pub does_then : (p q : Part) (u v w : Draft) → Does p u v → Does q v w → Does (then p q) u w
does_then p q u v w first second = record {
  same = second.same ∙ first.same;
  writes = λ σ st at. let done = first.writes σ st (at_front p q σ u st at) in then_at p q u v w st done (second.writes σ (follow st (p st)) (at_behind p q σ u v st at done));
}

-- nothing is written
pub does_none : (p : Part) (w : Draft) → ((st : State) → Follows w st → p st ≡ []) → Does p w w
does_none p w none = record { same = refl; writes = λ σ st at. subst (λ l. Wrote w l w × Follows w (follow st l)) (sym (none st at.follows)) (wrote_none w, at.follows) }

-- there is room for a choice
pub room_left : (p : Part) (w : Draft) → ((st : State) → Follows w st → 1 ≤ length (p st)) → Ready p w → w.count < length w.list.now
room_left p w some ready =
    ltb-true w.count (length w.list.now)
    (∥∥₁_elim ready (Bool-set _ _) (λ h.
    let falls : length (p h.1) + weight (follow h.1 (p h.1)) ≤ weight h.1 = run_falls h.0 h.1 (p h.1) h.2.holds h.2.sure in
    lt-ltb w.count (length w.list.now) (omega (arith, falls, some h.1 h.2.follows, h.2.room, h.2.list))))

-- there is a number for the next letter
pub next_letter : (p : Part) (w : Draft) → Ready p w → (fresh : ℕ) → fresh ≡ min (w.left.now.fresh + 1) 65535 → fresh ≡ w.left.now.fresh + 1
next_letter p w ready fresh is =
    let small : w.left.now.fresh < 65535 =
    ltb-true w.left.now.fresh 65535
    (∥∥₁_elim ready (Bool-set _ _) (λ h. lt-ltb w.left.now.fresh 65535 (omega (arith, h.2.follows.next, h.2.holds.within.rules)))) in
    is ∙ grind (arith, small)

-- a part for each of some numbers in turn

each_more : (p : ℕ → Part) (k n : ℕ) (st : State) → each p (from k (suc n)) st ≡ then (each p (from k n)) (p (k + n)) st
each_more p k zero st = then_is (p k) (λ _. []) st ∙ append-nil (p k st) ∙ ap (λ i. p i st) (omega arith)
each_more p k (suc n) st =
    let st₁ : State = follow st (p k st) in
    let ys : List Choice = each p (from (suc k) n) st₁ in
    let here : each p (from k (suc n)) st ≡ p k st ++ ys = then_is (p k) (each p (from (suc k) n)) st in
    let same : suc k + n ≡ k + suc n = omega arith in
    then_is (p k) (each p (from (suc k) (suc n))) st ∙
    ap (λ r. p k st ++ r) (each_more p (suc k) n st₁ ∙ then_is (each p (from (suc k) n)) (p (suc k + n)) st₁) ∙
    sym (append_assoc (p k st) ys (p (suc k + n) (follow st₁ ys))) ∙
    ap (λ s. (p k st ++ ys) ++ p (suc k + n) s) (sym (follow-++ st (p k st) ys)) ∙
    ap (λ i. (p k st ++ ys) ++ p i (follow st (p k st ++ ys))) same ∙
    sym (then_is (each p (from k (suc n))) (p (k + suc n)) st ∙ ap (λ l. l ++ p (k + suc n) (follow st l)) here)

each_split : (p : ℕ → Part) (k m n : ℕ) (st : State) → each p (from k (m + n)) st ≡ then (each p (from k m)) (each p (from (k + m) n)) st
each_split p k zero n st =
    let none : 0 + n ≡ n = omega arith in
    let here : k ≡ k + 0 = omega arith in
    ap (λ i. each p (from k i) st) none ∙ ap (λ i. each p (from i n) st) here
each_split p k (suc m) n st =
    let st₁ : State = follow st (p k st) in
    let ys : List Choice = each p (from (suc k) m) st₁ in
    let same : suc k + m ≡ k + suc m = omega arith in
    let here : each p (from k (suc m)) st ≡ p k st ++ ys = then_is (p k) (each p (from (suc k) m)) st in
    let more : suc m + n ≡ suc (m + n) = omega arith in
    ap (λ i. each p (from k i) st) more ∙
    then_is (p k) (each p (from (suc k) (m + n))) st ∙
    ap (λ r. p k st ++ r) (each_split p (suc k) m n st₁ ∙ then_is (each p (from (suc k) m)) (each p (from (suc k + m) n)) st₁) ∙
    sym (append_assoc (p k st) ys (each p (from (suc k + m) n) (follow st₁ ys))) ∙
    ap (λ s. (p k st ++ ys) ++ each p (from (suc k + m) n) s) (sym (follow-++ st (p k st) ys)) ∙
    ap (λ i. (p k st ++ ys) ++ each p (from i n) (follow st (p k st ++ ys))) same ∙
    sym (then_is (each p (from k (suc m))) (each p (from (k + suc m) n)) st ∙ ap (λ l. l ++ each p (from (k + suc m) n) (follow st l)) here)

-- the part for each of the numbers from k on that are below j
abbrev pub upto : (ℕ → Part) → ℕ → ℕ → Part
upto p k j = each p (from k (j - k))

module _ (p : ℕ → Part) (k : ℕ) where
  pub upto_begins : (w : Draft) → Does (upto p k k) w w
  upto_begins w = let none : k - k ≡ 0 = omega arith in subst (λ n. Does (each p (from k n)) w w) (sym none) (does_none (each p (from k 0)) w (λ _ _. refl))

  pub upto_next : (j : ℕ) (u v w : Draft) → k ≤ j → Does (upto p k j) u v → Does (p j) v w → Does (upto p k (j + 1)) u w
  upto_next j u v w le done here =
      let one_more : suc (j - k) ≡ (j + 1) - k = omega arith in
      let last : k + (j - k) ≡ j = omega arith in
      subst (λ n. Does (each p (from k n)) u w) one_more
      (same_does (then (upto p k j) (p j)) (each p (from k (suc (j - k)))) u w (λ _ st _ _. ap (λ i. then (upto p k j) (p i) st) (sym last) ∙ sym (each_more p k (j - k) st)) (does_then (upto p k j) (p j) u v w done here))

  pub upto_ready : (j m : ℕ) (u v : Draft) → k ≤ j → j < m → Ready (upto p k m) u → Does (upto p k j) u v → Ready (p j) v
  upto_ready j m u v le less ready done =
      let n : ℕ = m - (j + 1) in
      let whole : m - k ≡ (j - k) + suc n = omega arith in
      let at : k + (j - k) ≡ j = omega arith in
      let rest : Ready (each p (from j (suc n))) v =
      ready_behind (upto p k j) (each p (from j (suc n))) u v
      (same_ready (upto p k m) (then (upto p k j) (each p (from j (suc n)))) u (λ _ st _ _. ap (λ i. each p (from k i) st) whole ∙ each_split p k (j - k) (suc n) st ∙ ap (λ i. then (upto p k j) (each p (from i (suc n))) st) at) ready) done in
      ready_front (p j) (each p (from (suc j) n)) v rest

-- over A to Z
module _ (p : ℕ → Part) where
  a_to_z : each p variables ≡ upto p 0 26
  a_to_z = let n : all_variables.0 ≡ 26 - 0 = omega (arith, all_variables.1.1) in ap (each p) (all_variables.1.0 ∙ ap (from 0) n)

  pub variables_ready : (x : ℕ) (u v : Draft) → x < 26 → Ready (each p variables) u → Does (upto p 0 x) u v → Ready (p x) v
  variables_ready x u v low ready = upto_ready p 0 x 26 u v (omega arith) low (subst (λ q. Ready q u) a_to_z ready)

  pub variables_done : (x : ℕ) (u v : Draft) → x ≡ 26 → Does (upto p 0 x) u v → Does (each p variables) u v
  variables_done x u v all done = subst (λ q. Does q u v) (sym a_to_z) (subst (λ i. Does (upto p 0 i) u v) all done)

-- a part again and again
module _ (p : Part) where
  again_each : (k n : ℕ) (st : State) → again n p st ≡ each (λ _. p) (from k n) st
  again_each k zero st = refl
  again_each k (suc n) st = then_is p (again n p) st ∙ ap (λ r. p st ++ r) (again_each (suc k) n (follow st (p st))) ∙ sym (then_is p (each (λ _. p) (from (suc k) n)) st)

  again_upto : (n : ℕ) (st : State) → again n p st ≡ upto (λ _. p) 0 n st
  again_upto n st = let same : n ≡ n - 0 = omega arith in again_each 0 n st ∙ ap (λ i. each (λ _. p) (from 0 i) st) same

  pub again_ready : (i n : ℕ) (u v : Draft) → i < n → Ready (again n p) u → Does (upto (λ _. p) 0 i) u v → Ready p v
  again_ready i n u v less ready = upto_ready (λ _. p) 0 i n u v (omega arith) less (same_ready (again n p) (upto (λ _. p) 0 n) u (λ _ st _ _. again_upto n st) ready)

  pub again_done : (i n : ℕ) (u v : Draft) → i ≡ n → Does (upto (λ _. p) 0 i) u v → Does (again n p) u v
  again_done i n u v all done = same_does (upto (λ _. p) 0 n) (again n p) u v (λ _ st _ _. sym (again_upto n st)) (subst (λ j. Does (upto (λ _. p) 0 j) u v) all done)
