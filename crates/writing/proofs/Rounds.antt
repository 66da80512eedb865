-- The rounds come to an end, and write one list. Assumes nothing.
use Rattle.std.proofs.Common.{◌≡◌, ℕ, zero, suc, ◌<◌, ◌≤◌, Bool, true, false, cond, eqb, ◌⊎◌, List, [], ◌∷◌, ◌++◌, length, Some, None, Option, sym, refl, ap, ◌∙◌, subst, ap₂, inl, inr, append-nil, arith, lit<}
use mathlib.Core.Bool.{Bool-set}
use mathlib.Core.Logic.{∥∥₁_elim, ∥∥₁_map}
use Rattle.std.proofs.lemmas.Bool.{cases_Bool, eqb-true, eqb-false, eq-eqb, ne_eqb, cond-true, cond-false, lt-ltb, ltb-true, true≢false}
use Rattle.model.specs.Spelling.{Word}
use Rattle.systems.specs.declared.Choice.{Choice}
use Rattle.systems.specs.declared.Choice.TheVariants.{Left}
use Rattle.systems.specs.Sides.{Words}
use Rattle.writing.specs.Writer.{State, lives, follow, variables, empty, filled_sides, pop_rows, join_pair, join_blocks, erasures, erased, first_live, Rounds, ends_here, one_letter, by_pair, by_blocks}
use Rattle.writing.specs.Counts.{weight}
use Rattle.writing.proofs.Falls.{in_variables}
use Rattle.writing.proofs.Lengths.{rows_counted, same_rows}
use Rattle.writing.proofs.Limited.{Holds, holds_follow, run_falls, live_low}
use Rattle.writing.proofs.Lists.{first_none, first_some}
use Rattle.writing.proofs.Parts.{AllSure, sure-++, follow-++, then_is}
use Rattle.writing.specs.Turns.{block_lengths, list_of, on_first, turn, turn_of, turns, turns_enough}
use Rattle.writing.proofs.Turns.{erased_full, erasures_sure, turn_sure}

pub turns_are_enough : 1050 < turns_enough
unfolding turns_enough
turns_are_enough = lit< tt

-- the list, with what is wanted of it
pub record Out (fuel : ℕ) (st : State) : Type 0 where
  pub list : List Choice
  pub is : list_of fuel st ≡ list
  pub writes : Rounds st list
  pub sure : AllSure st list
  pub dead : (x : ℕ) → lives (follow st list) x ≡ false

-- a round: its choices are sure, and what is left weighs less
record Round (σ : Words) (st : State) (x : ℕ) : Type 0 where
  pub erasures_are_sure : AllSure st (erasures st)
  pub turn_is_sure : AllSure (erased st) (turn_of x (erased st))
  pub holds : Holds σ (follow (erased st) (turn_of x (erased st)))
  pub full : empty ((erased st).words x) ≡ false
  pub lighter : weight (follow (erased st) (turn_of x (erased st))) < weight st

module _ (σ : Words) (st : State) (holds : Holds σ st) where
  holds₁ : Holds σ (erased st)
  holds₁ = holds_follow σ st (erasures st) (erasures_sure st) holds

  one_round : (x : ℕ) → first_live (erased st) ≡ Some x → Round σ st x
  one_round x e =
      let alive : lives (erased st) x ≡ true = first_some (lives (erased st)) variables x e in
      let choices : List Choice = turn_of x (erased st) in
      let sure₁ : AllSure st (erasures st) = erasures_sure st in
      let full : empty ((erased st).words x) ≡ false = erased_full st x (live_low (erased st).stands holds₁.formed x alive) alive in
      let both : AllSure (erased st) choices × (1 ≤ length choices) = turn_sure σ (erased st) holds₁ x alive ((erased st).words x) refl full in
      record {
        erasures_are_sure = sure₁;
        turn_is_sure = both.0;
        holds = holds_follow σ (erased st) choices both.0 holds₁;
        full = full;
        lighter = omega (arith, run_falls σ (erased st) choices holds₁ both.0, both.1, run_falls σ st (erasures st) holds sure₁);
      }

  none_lives : first_live (erased st) ≡ None → (x : ℕ) → lives (erased st) x ≡ false
  none_lives e x = split (cases_Bool (lives (erased st) x))
    where
      split : (lives (erased st) x ≡ true) ⊎ (lives (erased st) x ≡ false) → lives (erased st) x ≡ false
      split (inl alive) = first_none (lives (erased st)) variables e x (in_variables x (live_low (erased st).stands holds₁.formed x alive))
      split (inr dead) = dead

-- a round in front, by the word of the first live variable
round_on : (st : State) (x : ℕ) (more : List Choice) → first_live (erased st) ≡ Some x → (w : Word) → (erased st).words x ≡ w → empty w ≡ false → Rounds (follow (erased st) (turn x w (erased st))) more → Rounds st (erasures st ++ (turn x w (erased st) ++ more))
round_on st x more e [] is full rounds = absurd (true≢false full)
round_on st x more e (a ∷ []) is full rounds = one_letter x a e is rounds
round_on st x more e (a ∷ (b ∷ w)) is full rounds = go (eqb a b) refl rounds
  where
    go : (t : Bool) → eqb a b ≡ t → Rounds (follow (erased st) (cond t (join_blocks a (block_lengths a (erased st)) (erased st)) (join_pair a b (erased st)))) more → Rounds st (erasures st ++ (cond t (join_blocks a (block_lengths a (erased st)) (erased st)) (join_pair a b (erased st)) ++ more))
    go true same more_rounds = by_blocks x a w (block_lengths a (erased st)) e (is ∙ ap (λ l. a ∷ l ∷ w) (sym (eqb-true a b same))) (rows_counted a (filled_sides (follow (erased st) (pop_rows a (erased st))))) more_rounds
    go false other more_rounds = by_pair x a b w e is (eqb-false a b other) more_rounds

-- the list where no variable is live behind the erasures, and where x is the first
list_stops : (fuel : ℕ) (st : State) → first_live (erased st) ≡ None → list_of (suc fuel) st ≡ erasures st
list_stops fuel st e = then_is erasures (turns (suc fuel)) st ∙ ap (λ o. erasures st ++ on_first o (list_of fuel) (erased st)) e ∙ append-nil (erasures st)

list_goes : (fuel : ℕ) (st : State) (x : ℕ) → first_live (erased st) ≡ Some x → list_of (suc fuel) st ≡ erasures st ++ (turn_of x (erased st) ++ list_of fuel (follow (erased st) (turn_of x (erased st))))
list_goes fuel st x e =
    then_is erasures (turns (suc fuel)) st ∙ ap (λ o. erasures st ++ on_first o (list_of fuel) (erased st)) e ∙
    ap (λ r. erasures st ++ r) (then_is (turn_of x) (list_of fuel) (erased st))

pub written : (σ : Words) (fuel : ℕ) (st : State) → Holds σ st → weight st < fuel → Out fuel st
written σ zero st holds less = absurd (omega arith)
written σ (suc fuel) st holds less = go (λ st' h l. written σ fuel st' h l) (first_live (erased st)) refl
  where
    go : ((st' : State) → Holds σ st' → weight st' < fuel → Out fuel st') → (o : Option ℕ) → first_live (erased st) ≡ o → Out (suc fuel) st
    go more None e = record {
      list = erasures st;
      is = list_stops fuel st e;
      writes = ends_here e;
      sure = erasures_sure st;
      dead = none_lives σ st holds e;
    }
    go more (Some x) e =
        let choices : List Choice = turn_of x (erased st) in
        let r : Round σ st x = one_round σ st holds x e in
        let out : Out fuel (follow (erased st) choices) = more (follow (erased st) choices) r.holds (omega (arith, r.lighter)) in
        record {
          list = erasures st ++ (choices ++ out.list);
          is = list_goes fuel st x e ∙ ap (λ r. erasures st ++ (choices ++ r)) out.is;
          writes = round_on st x out.list e ((erased st).words x) refl r.full out.writes;
          sure = sure-++ st (erasures st) (choices ++ out.list) r.erasures_are_sure (sure-++ (erased st) choices out.list r.turn_is_sure out.sure);
          dead = λ y. ap (λ s. lives s y) (follow-++ st (erasures st) (choices ++ out.list) ∙ follow-++ (erased st) choices out.list) ∙ out.dead y;
        }

-- the rounds, where it is only known that the state is one that is reached
pub rounds_written : (σ : Words) (fuel : ℕ) (st : State) → ∥ Holds σ st ∥₁ → weight st < fuel → Rounds st (list_of fuel st)
rounds_written σ zero st some less = absurd (omega arith)
rounds_written σ (suc fuel) st some less = go (λ st' h l. rounds_written σ fuel st' h l) (first_live (erased st)) refl
  where
    go : ((st' : State) → ∥ Holds σ st' ∥₁ → weight st' < fuel → Rounds st' (list_of fuel st')) → (o : Option ℕ) → first_live (erased st) ≡ o → Rounds st (list_of (suc fuel) st)
    go more None e = subst (Rounds st) (sym (list_stops fuel st e)) (ends_here e)
    go more (Some x) e =
        let after : State = follow (erased st) (turn_of x (erased st)) in
        let full : empty ((erased st).words x) ≡ false = ∥∥₁_elim some (Bool-set _ _) (λ holds. (one_round σ st holds x e).full) in
        let lighter : weight after < weight st = ltb-true (weight after) (weight st) (∥∥₁_elim some (Bool-set _ _) (λ holds. lt-ltb (weight after) (weight st) (one_round σ st holds x e).lighter)) in
        subst (Rounds st) (sym (list_goes fuel st x e)) (round_on st x (list_of fuel after) e ((erased st).words x) refl full (more after (∥∥₁_map some (λ holds. (one_round σ st holds x e).holds)) (omega (arith, lighter))))

-- only one list: the rounds by the turn of the first live variable
data ByTurns : State → List Choice → Type 0 where
  stops : {st : State} {list : List Choice} → first_live (erased st) ≡ None → list ≡ erasures st → ByTurns st list
  goes_on : {st : State} {list : List Choice} (x : ℕ) (more : List Choice) → first_live (erased st) ≡ Some x → ByTurns (follow (erased st) (turn_of x (erased st))) more → list ≡ erasures st ++ (turn_of x (erased st) ++ more) → ByTurns st list

turned : (st : State) (x : ℕ) (choices more : List Choice) → first_live (erased st) ≡ Some x → turn_of x (erased st) ≡ choices → ByTurns (follow (erased st) choices) more → ByTurns st (erasures st ++ (choices ++ more))
turned st x choices more e same rounds = goes_on x more e (subst (λ l. ByTurns (follow (erased st) l) more) (sym same) rounds) (ap (λ l. erasures st ++ (l ++ more)) (sym same))

by_turns : {st : State} {list : List Choice} → Rounds st list → ByTurns st list
by_turns (ends_here e) = stops e refl
by_turns {st} (one_letter {more = more} x a e is rounds) = turned st x (Left x a ∷ []) more e (ap (λ w. turn x w (erased st)) is) (by_turns rounds)
by_turns {st} (by_pair {more = more} x a b w e is d rounds) =
    turned st x (join_pair a b (erased st)) more e (ap (λ v. turn x v (erased st)) is ∙ cond-false (eqb a b) (join_blocks a (block_lengths a (erased st)) (erased st)) (join_pair a b (erased st)) (ne_eqb a b d)) (by_turns rounds)
by_turns {st} (by_blocks {more = more} x a w ns e is rows rounds) =
    let same : block_lengths a (erased st) ≡ ns = same_rows a (filled_sides (follow (erased st) (pop_rows a (erased st)))) (block_lengths a (erased st)) ns (rows_counted a (filled_sides (follow (erased st) (pop_rows a (erased st))))) rows in
    turned st x (join_blocks a ns (erased st)) more e
    (ap (λ v. turn x v (erased st)) is ∙ cond-true (eqb a a) (join_blocks a (block_lengths a (erased st)) (erased st)) (join_pair a a (erased st)) (eq-eqb a a refl) ∙ ap (λ l. join_blocks a l (erased st)) same)
    (by_turns rounds)

same_turns : {st : State} {list other : List Choice} → ByTurns st list → ByTurns st other → other ≡ list
same_turns (stops e p) (stops f q) = q ∙ sym p
same_turns (stops e p) (goes_on y more' f w' q) = let z : ◌≡◌ {A = ℕ} 0 1 = cc in absurd (omega arith)
same_turns (goes_on x more e w p) (stops f q) = let z : ◌≡◌ {A = ℕ} 0 1 = cc in absurd (omega arith)
same_turns {st} (goes_on x more e w p) (goes_on y more' f w' q) =
    let same : y ≡ x = cc in
    let w'' : ByTurns (follow (erased st) (turn_of x (erased st))) more' = subst (λ z. ByTurns (follow (erased st) (turn_of z (erased st))) more') same w' in
    q ∙ ap₂ (λ z r. erasures st ++ (turn_of z (erased st) ++ r)) same (same_turns w w'') ∙ sym p

pub unique : {st : State} {list other : List Choice} → Rounds st list → Rounds st other → other ≡ list
unique rounds others = same_turns (by_turns rounds) (by_turns others)
