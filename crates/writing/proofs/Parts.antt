-- Parts of the writing whose choices fit, and how they come one after another. Assumes nothing.
use Rattle.std.proofs.Common.{◌≡◌, ℕ, zero, suc, ◌+◌, ◌<◌, true, false, ◌&&◌, ◌≢◌, ◌⊎◌, List, [], ◌∷◌, ◌++◌, map, length, sym, refl, ap, ◌∙◌, subst, inl, inr, arith}
use Rattle.std.proofs.lemmas.Bool.{cond_both, and_parts, cases_Bool, both_ways, cases_order}
use Rattle.model.specs.Spelling.{Word}
use Rattle.systems.specs.declared.Choice.{Choice}
use Rattle.systems.specs.declared.Choice.TheVariants.{Left, Right, Erase, Pair, Block}
use Rattle.systems.specs.Fitting.{Fits}
use Rattle.systems.specs.Sides.{word_pairs, word_blocks}
use Rattle.systems.specs.Standings.{fresh}
use Rattle.systems.proofs.Living.{gone_taken}
use Rattle.writing.specs.Writer.{State, lives, leaves, next, follow, Part, onward, then, again, each, from, pop_first, pop_last, erase_empty, for_pair, for_block, filled_sides, letters, rest, front, begins, ends, empty}
use Rattle.writing.proofs.Lists.{begins_true, ends_true, is_empty, put_here, put_there}

-- a rule makes the filled-in sides shorter
abbrev pub Shortens : State → Choice → Type 0
Shortens st (Left x a) = Unit {0}
Shortens st (Right x a) = Unit {0}
Shortens st (Erase x) = Unit {0}
Shortens st (Pair a b) = letters (map (word_pairs a b (fresh st.stands)) (filled_sides st)) < letters (filled_sides st)
Shortens st (Block a n) = letters (map (word_blocks a n (fresh st.stands)) (filled_sides st)) < letters (filled_sides st)

abbrev pub Sure : State → Choice → Type 0
Sure st choice = Fits st.stands st.words choice (leaves st.stands st.words choice) × Shortens st choice

abbrev pub AllSure : State → List Choice → Type 0
AllSure st [] = Unit {0}
AllSure st (choice ∷ more) = Sure st choice × AllSure (next st choice) more

pub follow-++ : (st : State) (xs ys : List Choice) → follow st (xs ++ ys) ≡ follow (follow st xs) ys
follow-++ st [] ys = refl
follow-++ st (choice ∷ xs) ys = follow-++ (next st choice) xs ys

pub sure-++ : (st : State) (xs ys : List Choice) → AllSure st xs → AllSure (follow st xs) ys → AllSure st (xs ++ ys)
sure-++ st [] ys h k = k
sure-++ st (choice ∷ xs) ys h k = (h.0, sure-++ (next st choice) xs ys h.1 k)

pub sure_front : (st : State) (xs ys : List Choice) → AllSure st (xs ++ ys) → AllSure st xs × AllSure (follow st xs) ys
sure_front st [] ys sure = (tt, sure)
sure_front st (choice ∷ xs) ys sure = let h = sure_front (next st choice) xs ys sure.1 in ((sure.0, h.0), h.1)

onward_is : (list : List Choice) (q : Part) (st : State) → onward list q st ≡ list ++ q (follow st list)
onward_is [] q st = refl
onward_is (choice ∷ more) q st = ap (λ r. choice ∷ r) (onward_is more q (next st choice))

pub then_is : (p q : Part) (st : State) → then p q st ≡ p st ++ q (follow st (p st))
then_is p q st = onward_is (p st) q st

-- what comes behind a part that makes no choice, and such a part again and again
pub then_none : (p q : Part) (st : State) → p st ≡ [] → then p q st ≡ q st
then_none p q st none = then_is p q st ∙ ap (λ l. l ++ q (follow st l)) none

pub again_none : (p : Part) (n : ℕ) (st : State) → p st ≡ [] → again n p st ≡ []
again_none p zero st none = refl
again_none p (suc n) st none = then_none p (again n p) st none ∙ again_none p n st none

abbrev pub AlwaysSure : Part → Type 0
AlwaysSure p = (st : State) → AllSure st (p st)

then_sure : (p q : Part) → AlwaysSure p → AlwaysSure q → AlwaysSure (then p q)
then_sure p q h k st = subst (AllSure st) (sym (then_is p q st)) (sure-++ st (p st) (q (follow st (p st))) (h st) (k (follow st (p st))))

again_sure : (p : Part) → AlwaysSure p → (n : ℕ) → AlwaysSure (again n p)
again_sure p h zero st = tt
again_sure p h (suc n) st = then_sure p (again n p) h (again_sure p h n) st

pub each_sure : (p : ℕ → Part) → ((x : ℕ) → AlwaysSure (p x)) → (xs : List ℕ) → AlwaysSure (each p xs)
each_sure p h [] st = tt
each_sure p h (x ∷ xs) st = then_sure (p x) (each p xs) (h x) (each_sure p h xs) st

-- what a part makes, and what it keeps

pub then_makes : (p q : Part) (Q : State → Type 0) (st : State) → Q (follow (follow st (p st)) (q (follow st (p st)))) → Q (follow st (then p q st))
then_makes p q Q st h = subst Q (sym (ap (follow st) (then_is p q st) ∙ follow-++ st (p st) (q (follow st (p st))))) h

abbrev pub Keeps : (State → Type 0) → Part → Type 0
Keeps Q p = (st : State) → Q st → Q (follow st (p st))

then_keeps : (Q : State → Type 0) (p q : Part) → Keeps Q p → Keeps Q q → Keeps Q (then p q)
then_keeps Q p q h k st now = then_makes p q Q st (k (follow st (p st)) (h st now))

pub again_keeps : (Q : State → Type 0) (p : Part) → Keeps Q p → (n : ℕ) → Keeps Q (again n p)
again_keeps Q p h zero st now = now
again_keeps Q p h (suc n) st now = then_keeps Q p (again n p) h (again_keeps Q p h n) st now

pub each_makes : (p : ℕ → Part) (P : ℕ → State → Type 0) → ((x : ℕ) (st : State) → P x (follow st (p x st))) → ((x y : ℕ) → x ≢ y → Keeps (P x) (p y)) → (n k : ℕ) (st : State) → ((x : ℕ) → x < k → P x st) → (x : ℕ) → x < k + n → P x (follow st (each p (from k n) st))
each_makes p P makes keeps zero k st so_far x lt = so_far x (omega arith)
each_makes p P makes keeps (suc n) k st so_far x lt =
    then_makes (p k) (each p (from (suc k) n)) (P x) st
    (each_makes p P makes keeps n (suc k) (follow st (p k st)) (λ y l. at y l (cases_order y k)) x (omega arith))
  where
    at : (y : ℕ) → y < suc k → (y ≡ k) ⊎ ((y < k) ⊎ (k < y)) → P y (follow st (p k st))
    at y l (inl e) = subst (λ z. P z (follow st (p k st))) (sym e) (makes k st)
    at y l (inr (inl less)) = keeps y k (λ e. omega arith) st (so_far y less)
    at y l (inr (inr more)) = absurd (omega arith)

-- the three smallest parts are sure

first_sure : (a x : ℕ) → AlwaysSure (pop_first a x)
first_sure a x st =
    let w : Word = st.words x in
    cond_both (lives st x && begins a w) (Left x a ∷ []) [] (AllSure st)
    (λ e. let parts = and_parts (lives st x) (begins a w) e in
    ((((parts.0, begins_true a w parts.1 ∙ ap (λ r. a ∷ r) (sym (put_here st.words x (rest w))), put_there st.words x (rest w))), tt), tt))
    (λ _. tt)

last_sure : (a x : ℕ) → AlwaysSure (pop_last a x)
last_sure a x st =
    let w : Word = st.words x in
    cond_both (lives st x && ends a w) (Right x a ∷ []) [] (AllSure st)
    (λ e. let parts = and_parts (lives st x) (ends a w) e in
    ((((parts.0, ends_true a w parts.1 ∙ ap (λ r. r ++ (a ∷ [])) (sym (put_here st.words x (front w))), put_there st.words x (front w))), tt), tt))
    (λ _. tt)

pub erase_sure : (x : ℕ) → AlwaysSure (erase_empty x)
erase_sure x st =
    let w : Word = st.words x in
    cond_both (lives st x && empty w) (Erase x ∷ []) [] (AllSure st)
    (λ e. let parts = and_parts (lives st x) (empty w) e in ((((parts.0, is_empty w parts.1, λ _. refl)), tt), tt))
    (λ _. tt)

pub for_pair_sure : (a b x : ℕ) → AlwaysSure (for_pair a b x)
for_pair_sure a b x = then_sure (pop_first b x) (then (pop_last a x) (erase_empty x)) (first_sure b x) (then_sure (pop_last a x) (erase_empty x) (last_sure a x) (erase_sure x))

pub for_block_sure : (a x : ℕ) → AlwaysSure (for_block a x)
for_block_sure a x st =
    let n : ℕ = length (st.words x) in
    then_sure (again n (pop_first a x)) (then (again n (pop_last a x)) (erase_empty x)) (again_sure (pop_first a x) (first_sure a x) n)
    (then_sure (again n (pop_last a x)) (erase_empty x) (again_sure (pop_last a x) (last_sure a x) n) (erase_sure x)) st

-- a variable that lives lived before
pub lives_before : (st : State) (choice : Choice) (x : ℕ) → lives (next st choice) x ≡ true → lives st x ≡ true
lives_before st choice x e = split (cases_Bool (lives st x))
  where
    split : (lives st x ≡ true) ⊎ (lives st x ≡ false) → lives st x ≡ true
    split (inl h) = h
    split (inr h) = absurd (both_ways (lives (next st choice) x) (gone_taken st.stands choice x h) e)
