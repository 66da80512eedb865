-- Turns, one after another. Assumes nothing.
use Rattle.std.proofs.Common.{◌≡◌, ℕ, zero, suc, ◌+◌, ◌<◌, ◌≤◌, Bool, true, false, cond, eqb, [], ◌∷◌, length, Some, None, Option, is_some, ◌≢◌, sym, refl, ap, ◌∙◌, subst, ap₂, arith}
use mathlib.Core.Logic.{∥∥₁_elim, ∥∥₁_map}
use mathlib.Core.Bool.{Bool-set}
use Rattle.std.proofs.lemmas.Bool.{cond-true, cond-false, eq-eqb, ne_eqb, lt-ltb, ltb-true, le-leb, leb-true}
use Rattle.std.proofs.lemmas.List.{length-map}
use Rattle.model.specs.Spelling.{Word}
use Rattle.systems.specs.declared.Choice.{Choice}
use Rattle.systems.specs.declared.Choice.TheVariants.{Left}
use Rattle.systems.specs.Sides.{Words}
use Rattle.writing.specs.declared.ChoiceRecord.{ChoiceRecord}
use Rattle.writing.specs.Writer.{State, Part, empty, erasures, first, first_live, follow, from, join_pair, lives, pop_first, then, variables}
use Rattle.writing.specs.Counts.{weight}
use Rattle.writing.proofs.Falls.{all_variables}
use Rattle.writing.proofs.Limited.{Holds, run_falls}
use Rattle.writing.proofs.Lists.{first_some}
use Rattle.writing.proofs.Parts.{AllSure}
use Rattle.writing.specs.Turns.{list_of, on_first, turn, turn_of, turns, turns_enough}
use Rattle.writing.proofs.Rounds.{Out, turns_are_enough, written}
use Rattle.writing.proofs.Turns.{erased_full, turn_sure}
use Rattle.writer.specs.declared.store.Draft.{Draft}
use Rattle.writer.specs.Following.{At, Starts, Does, Follows, Ready, Wrote}
use Rattle.leftover.specs.Leaving.{begins_with, two_of}
use Rattle.writer.proofs.Choosing.{first_made, word_at}
use Rattle.writer.proofs.Following.{at_behind, at_front, then_at, wrote_none}
use Rattle.writer.proofs.Rowing.{blocks_part}

-- the turn of x by the first two letters of its word
abbrev by_two : ℕ → Option (ℕ × Option ℕ) → Part
by_two x None st = []
by_two x (Some (a, None)) st = Left x a ∷ []
by_two x (Some (a, Some b)) st = cond (eqb a b) (blocks_part a st) (join_pair a b st)

turn_by_two : (x : ℕ) (u : Word) (st : State) → turn x u st ≡ by_two x (two_of (Some u)) st
turn_by_two x [] st = refl
turn_by_two x (a ∷ []) st = refl
turn_by_two x (a ∷ (b ∷ u)) st = refl

some_live : (t : Bool) (u : Word) → is_some (cond t (Some u) None) ≡ true → t ≡ true
some_live true u e = refl
some_live false u e = e

module _ (w : Draft) (x : ℕ) (low : x < 26) (live : is_some (word_at w x) ≡ true) where
  pub alive : (st : State) → Follows w st → lives st x ≡ true
  alive st follows = some_live (lives st x) (st.words x) (ap is_some (sym (follows.words x low)) ∙ live)

  word_is : (st : State) → Follows w st → word_at w x ≡ Some (st.words x)
  word_is st follows = follows.words x low ∙ cond-true (lives st x) (Some (st.words x)) None (alive st follows)

  turn_is : (st : State) → Follows w st → turn_of x st ≡ by_two x (two_of (word_at w x)) st
  turn_is st follows = turn_by_two x (st.words x) st ∙ ap (λ o. by_two x (two_of o) st) (sym (word_is st follows))

  abbrev letter_of : Option (ℕ × Option ℕ) → ℕ
  letter_of None = 0
  letter_of (Some p) = p.0

  begins_one : (a : ℕ) (o : Option Word) → Some (a, None) ≡ two_of o → begins_with a o ≡ true
  begins_one a None e = let z : ◌≡◌ {A = ℕ} 0 1 = cc in absurd (omega arith)
  begins_one a (Some []) e = let z : ◌≡◌ {A = ℕ} 0 1 = cc in absurd (omega arith)
  begins_one a (Some (l ∷ [])) e = eq-eqb l a (sym (ap letter_of e))
  begins_one a (Some (l ∷ (m ∷ u))) e = eq-eqb l a (sym (ap letter_of e))

  module _ (σ : Words) (st : State) (follows : Follows w st) (holds : Holds σ st) where
    pub one_turn : (a : ℕ) → Some (a, None) ≡ two_of (word_at w x) → turn_of x st ≡ pop_first a x st
    one_turn a read =
        turn_is st follows ∙ ap (λ o. by_two x o st) (sym read) ∙
        sym (first_made w x low a st follows ∙ cond-true (begins_with a (word_at w x)) (Left x a ∷ []) [] (begins_one a (word_at w x) read))

    pub blocks_turn : (a b : ℕ) → Some (a, Some b) ≡ two_of (word_at w x) → a ≡ b → turn_of x st ≡ blocks_part a st
    blocks_turn a b read same = turn_is st follows ∙ ap (λ o. by_two x o st) (sym read) ∙ cond-true (eqb a b) (blocks_part a st) (join_pair a b st) (eq-eqb a b same)

    pub pair_turn : (a b : ℕ) → Some (a, Some b) ≡ two_of (word_at w x) → a ≢ b → turn_of x st ≡ join_pair a b st
    pair_turn a b read other = turn_is st follows ∙ ap (λ o. by_two x o st) (sym read) ∙ cond-false (eqb a b) (blocks_part a st) (join_pair a b st) (ne_eqb a b other)

-- which variable is live first, as the writer has it
live_word : (t : Bool) (u : Word) → is_some (cond t (Some u) None) ≡ t
live_word true u = refl
live_word false u = refl

first_same : (p q : ℕ → Bool) (n k : ℕ) → ((y : ℕ) → y < k + n → p y ≡ q y) → first p (from k n) ≡ first q (from k n)
first_same p q zero k same = refl
first_same p q (suc n) k same = ap₂ (λ t o. cond t (Some k) o) (same k (omega arith)) (first_same p q n (suc k) (λ y low. same y (omega arith)))

pub first_followed : (w : Draft) (st : State) → Follows w st → first (λ x. is_some (word_at w x)) variables ≡ first_live st
first_followed w st follows =
    let n : ℕ = all_variables.0 in
    let is : n ≡ 26 = all_variables.1.1 in
    ap (first (λ x. is_some (word_at w x))) all_variables.1.0 ∙
    first_same (λ x. is_some (word_at w x)) (lives st) n 0 (λ y low. ap is_some (follows.words y (omega arith)) ∙ live_word (lives st y) (st.words y)) ∙
    ap (first (lives st)) (sym all_variables.1.0)

first_below : (p : ℕ → Bool) (n k x : ℕ) → first p (from k n) ≡ Some x → x < k + n
first_below p zero k x e = let z : ◌≡◌ {A = ℕ} 0 1 = cc in absurd (omega arith)
first_below p (suc n) k x e = go (λ f. first_below p n (suc k) x f) (p k) e
  where
    go : (first p (from (suc k) n) ≡ Some x → x < suc k + n) → (t : Bool) → cond t (Some k) (first p (from (suc k) n)) ≡ Some x → x < k + suc n
    go more true f = let same : k ≡ x = cc in omega arith
    go more false f = omega (arith, more f)

pub first_low : (p : ℕ → Bool) (x : ℕ) → first p variables ≡ Some x → x < 26
first_low p x e = omega (arith, first_below p all_variables.0 0 x (ap (first p) (sym all_variables.1.0) ∙ e), all_variables.1.1)

-- what is still to be written, and that it can be
pub record ToGo (σ : Words) (w : Draft) (st : State) (fuel : ℕ) : Type 0 where
  pub at : At σ (turns fuel) w st
  pub full : (y : ℕ) → y < 26 → lives st y ≡ true → empty (st.words y) ≡ false
  pub light : weight st < fuel

abbrev pub Going : Draft → Type 0
Going w = ∥ ((σ : Words) × (st : State) × (fuel : ℕ) × ToGo σ w st fuel) ∥₁

-- from u on what is still to be written is written at v
pub record Ends (u v : Draft) : Type 0 where
  pub same : v.list.ghost_name ≡ u.list.ghost_name
  pub writes : (σ : Words) (st : State) (fuel : ℕ) → ToGo σ u st fuel → Wrote u (turns fuel st) v × Follows v (follow st (turns fuel st))

-- no variable is live
pub ended : (w : Draft) → first (λ x. is_some (word_at w x)) variables ≡ None → Ends w w
ended w none = record { same = refl; writes = writes }
  where
    writes : (σ : Words) (st : State) (fuel : ℕ) → ToGo σ w st fuel → Wrote w (turns fuel st) w × Follows w (follow st (turns fuel st))
    writes σ st zero left = absurd (omega (arith, left.light))
    writes σ st (suc fuel) left =
        let is : turns (suc fuel) st ≡ [] = ap (λ o. on_first o (list_of fuel) st) (sym (first_followed w st left.at.follows) ∙ none) in
        subst (λ l. Wrote w l w × Follows w (follow st l)) (sym is) (wrote_none w, left.at.follows)

-- x is live first
module _ (w : Draft) (x : ℕ) (low : x < 26) (here : first (λ x. is_some (word_at w x)) variables ≡ Some x) where
  pub live_here : is_some (word_at w x) ≡ true
  live_here = first_some (λ x. is_some (word_at w x)) variables x here

  -- its turn and the erasures behind it come first
  record Next (σ : Words) (st : State) (fuel : ℕ) : Type 0 where
    pub less : ℕ
    pub one_less : fuel ≡ suc less
    pub is : turns fuel st ≡ then (turn_of x) (list_of less) st
    pub at : At σ (then (turn_of x) (list_of less)) w st

  next_turn : (σ : Words) (st : State) (fuel : ℕ) → ToGo σ w st fuel → Next σ st fuel
  next_turn σ st zero left = absurd (omega (arith, left.light))
  next_turn σ st (suc fuel) left =
      let is : turns (suc fuel) st ≡ then (turn_of x) (list_of fuel) st = ap (λ o. on_first o (list_of fuel) st) (sym (first_followed w st left.at.follows) ∙ here) in
      record {
        less = fuel;
        one_less = refl;
        is = is;
        at = record { follows = left.at.follows; holds = left.at.holds; sure = subst (AllSure st) is left.at.sure; room = left.at.room; list = left.at.list };
      }

  pub turn_ready : Going w → Ready (turn_of x) w
  turn_ready going = ∥∥₁_map going (λ h. let n = next_turn h.0 h.1 h.2 h.3 in (h.0, h.1, at_front (turn_of x) (list_of n.less) h.0 w h.1 n.at))

  module _ (u : Draft) (turned : Does (turn_of x) w u) where
    pub erasures_ready : Going w → Ready erasures u
    erasures_ready going =
        ∥∥₁_map going (λ h.
        let n = next_turn h.0 h.1 h.2 h.3 in
        let done = turned.writes h.0 h.1 (at_front (turn_of x) (list_of n.less) h.0 w h.1 n.at) in
        let behind = at_behind (turn_of x) (list_of n.less) h.0 w u h.1 n.at done in
        (h.0, follow h.1 (turn_of x h.1), at_front erasures (turns n.less) h.0 u (follow h.1 (turn_of x h.1)) behind))

    module _ (v : Draft) (erased : Does erasures u v) where
      -- one step
      record Step (σ : Words) (st : State) (fuel : ℕ) : Type 0 where
        pub next : Next σ st fuel
        pub turn_done : Wrote w (turn_of x st) u × Follows u (follow st (turn_of x st))
        pub erasures_done : Wrote u (erasures (follow st (turn_of x st))) v × Follows v (follow (follow st (turn_of x st)) (erasures (follow st (turn_of x st))))
        pub left : ToGo σ v (follow (follow st (turn_of x st)) (erasures (follow st (turn_of x st)))) next.less
        pub some : 1 ≤ length (turn_of x st)

      step : (σ : Words) (st : State) (fuel : ℕ) → ToGo σ w st fuel → Step σ st fuel
      step σ st fuel left =
          let n : Next σ st fuel = next_turn σ st fuel left in
          let st₁ : State = follow st (turn_of x st) in
          let st₂ : State = follow st₁ (erasures st₁) in
          let front : At σ (turn_of x) w st = at_front (turn_of x) (list_of n.less) σ w st n.at in
          let turn_done : Wrote w (turn_of x st) u × Follows u st₁ = turned.writes σ st front in
          let behind : At σ (list_of n.less) u st₁ = at_behind (turn_of x) (list_of n.less) σ w u st n.at turn_done in
          let here : At σ erasures u st₁ = at_front erasures (turns n.less) σ u st₁ behind in
          let erasures_done : Wrote u (erasures st₁) v × Follows v st₂ = erased.writes σ st₁ here in
          let last : At σ (turns n.less) v st₂ = at_behind erasures (turns n.less) σ u v st₁ behind erasures_done in
          let some : 1 ≤ length (turn_of x st) = (turn_sure σ st left.at.holds x (alive w x low live_here st left.at.follows) (st.words x) refl (left.full x low (alive w x low live_here st left.at.follows))).1 in
          let falls : length (turn_of x st) + weight st₁ ≤ weight st = run_falls σ st (turn_of x st) front.holds front.sure in
          let falls' : length (erasures st₁) + weight st₂ ≤ weight st₁ = run_falls σ st₁ (erasures st₁) here.holds here.sure in
          record {
            next = n;
            turn_done = turn_done;
            erasures_done = erasures_done;
            left = record { at = last; full = erased_full st₁; light = omega (arith, falls, falls', some, left.light, n.one_less) };
            some = some;
          }

      pub going_on : Going w → Going v
      going_on going = ∥∥₁_map going (λ h. let s = step h.0 h.1 h.2 h.3 in (h.0, follow (follow h.1 (turn_of x h.1)) (erasures (follow h.1 (turn_of x h.1))), s.next.less, s.left))

      pub ends_later : (z : Draft) → Ends v z → Ends w z
      ends_later z ends = record { same = ends.same ∙ erased.same ∙ turned.same; writes = writes }
        where
          writes : (σ : Words) (st : State) (fuel : ℕ) → ToGo σ w st fuel → Wrote w (turns fuel st) z × Follows z (follow st (turns fuel st))
          writes σ st fuel left =
              let s = step σ st fuel left in
              let st₁ : State = follow st (turn_of x st) in
              subst (λ l. Wrote w l z × Follows z (follow st l)) (sym s.next.is)
              (then_at (turn_of x) (list_of s.next.less) w u z st s.turn_done
              (then_at erasures (turns s.next.less) u v z st₁ s.erasures_done (ends.writes σ (follow st₁ (erasures st₁)) s.next.less s.left)))

      -- at least one choice more is written, and there is room for all
      pub longer : Going w → w.count < v.count
      longer going =
          ltb-true w.count v.count
          (∥∥₁_elim going (Bool-set _ _) (λ h.
          let s = step h.0 h.1 h.2 h.3 in
          lt-ltb w.count v.count (omega (arith, s.some, s.turn_done.0.put.behind, s.erasures_done.0.put.behind, length-map {A = Choice} {B = ChoiceRecord}))))

pub few : (w : Draft) → Going w → w.count ≤ 1050
few w going = leb-true w.count 1050 (∥∥₁_elim going (Bool-set _ _) (λ h. le-leb w.count 1050 (omega (arith, h.3.at.room))))

-- the loop as a whole
module _ (u v : Draft) (erased : Does erasures u v) where
  light_left : (σ : Words) (st : State) → At σ (list_of turns_enough) u st → ToGo σ v (follow st (erasures st)) turns_enough
  light_left σ st at =
      let last : At σ (turns turns_enough) v (follow st (erasures st)) = at_behind erasures (turns turns_enough) σ u v st at (erased.writes σ st (at_front erasures (turns turns_enough) σ u st at)) in
      record { at = last; full = erased_full st; light = omega (arith, last.room, turns_are_enough) }

  pub begins_going : Ready (list_of turns_enough) u → Going v
  begins_going ready = ∥∥₁_map ready (λ h. (h.0, follow h.1 (erasures h.1), turns_enough, light_left h.0 h.1 h.2))

  pub all_written : (z : Draft) → Ends v z → Does (list_of turns_enough) u z
  all_written z ends = record {
    same = ends.same ∙ erased.same;
    writes = λ σ st at. then_at erasures (turns turns_enough) u v z st (erased.writes σ st (at_front erasures (turns turns_enough) σ u st at)) (ends.writes σ (follow st (erasures st)) turns_enough (light_left σ st at));
  }

-- where the rounds begin
pub starts_at : (w : Draft) (σ : Words) (st : State) → w.count ≡ 0 → 1050 ≤ length w.list.now → Starts σ w.left.now st → At σ (list_of turns_enough) w st
starts_at w σ st none room begins =
    let out : Out turns_enough st = written σ turns_enough st begins.holds (omega (arith, begins.light, turns_are_enough)) in
    record { follows = begins.leaves; holds = begins.holds; sure = subst (AllSure st) (sym out.is) out.sure; room = omega (arith, none, begins.light); list = room }

pub starts_ready : (w : Draft) → w.count ≡ 0 → 1050 ≤ length w.list.now → ∥ ((σ : Words) × (st : State) × Starts σ w.left.now st) ∥₁ → Ready (list_of turns_enough) w
starts_ready w none room begins = ∥∥₁_map begins (λ h. (h.0, h.1, starts_at w h.0 h.1 none room h.2))
