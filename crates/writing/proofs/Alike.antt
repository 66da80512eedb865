-- What is written depends on the words of live variables only. Assumes nothing.
use Rattle.std.proofs.Common.{◌≡◌, ℕ, zero, suc, ◌≤◌, Bool, true, false, cond, ◌&&◌, eqb, ◌⊎◌, List, [], ◌∷◌, map, length, Some, None, Option, sym, refl, ap, ap₂, ◌∙◌, subst, inl, inr}
use Rattle.std.specs.List.{AllByRecursion}
use Rattle.std.proofs.lemmas.Bool.{and_left, cases_Bool, cond-false, cond-true, eqb-true}
use Rattle.model.specs.Spelling.{Word}
use Rattle.systems.specs.declared.Choice.{Choice}
use Rattle.systems.specs.declared.Choice.TheVariants.{Left, Right, Erase, Pair, Block}
use Rattle.systems.specs.Choices.{taken}
use Rattle.systems.specs.Runs.{Load, loaded, opened}
use Rattle.systems.specs.Sides.{Side, Solution, Words, fill, sides, word_blocks, word_pairs}
use Rattle.systems.specs.Standings.{Standing, fresh, live}
use Rattle.systems.proofs.Living.{fill_same}
use Rattle.writing.specs.declared.Span.{Span}
use Rattle.writing.specs.Counting.{counted_lengths}
use Rattle.writing.specs.Counts.{side_letters}
use Rattle.writing.specs.Refusals.{given}
use Rattle.writing.specs.Theorems.{StandInBuffer, Written, start}
use Rattle.writing.specs.Turns.{block_lengths, list_of, on_first, turn, turn_of, turns, turns_enough}
use Rattle.writing.specs.Writer.{Part, again, begins, beside, each, empty, ends, erase_empty, erasures, filled_sides, first_live, follow, for_block, for_pair, front, join_blocks, join_pair, leaves, onward, pop_first, pop_last, pop_rows, put, rest, then, variables}
use Rattle.writing.proofs.Final.{list_written}
use Rattle.writing.proofs.Lists.{first_some}
use Rattle.writing.proofs.Parts.{again_none, lives_before, then_none}
use Rattle.writing.proofs.Refusing.{writer_refuses_rightly}

-- the words of the live variables are the same
abbrev Alike : Standing → Words → Words → Type 0
Alike S τ τ' = (x : ℕ) → live S x ≡ true → τ x ≡ τ' x

-- behind a choice, and behind several

put_alike : (τ τ' : Words) (f : Word → Word) (y x : ℕ) → τ x ≡ τ' x → put τ y (f (τ y)) x ≡ put τ' y (f (τ' y)) x
put_alike τ τ' f y x same = split (cases_Bool (eqb y x))
  where
    split : (eqb y x ≡ true) ⊎ (eqb y x ≡ false) → put τ y (f (τ y)) x ≡ put τ' y (f (τ' y)) x
    split (inl e) =
        let is : y ≡ x = eqb-true y x e in
        cond-true (eqb y x) (f (τ y)) (τ x) e ∙ ap f (ap τ is ∙ same ∙ ap τ' (sym is)) ∙ sym (cond-true (eqb y x) (f (τ' y)) (τ' x) e)
    split (inr e) = cond-false (eqb y x) (f (τ y)) (τ x) e ∙ same ∙ sym (cond-false (eqb y x) (f (τ' y)) (τ' x) e)

next_alike : (S : Standing) (τ τ' : Words) (choice : Choice) → Alike S τ τ' → Alike (taken S choice) (leaves S τ choice) (leaves S τ' choice)
next_alike S τ τ' choice same x alive = at choice (same x (lives_before (beside S τ) choice x alive))
  where
    at : (c : Choice) → τ x ≡ τ' x → leaves S τ c x ≡ leaves S τ' c x
    at (Left y a) e = put_alike τ τ' rest y x e
    at (Right y a) e = put_alike τ τ' front y x e
    at (Erase y) e = e
    at (Pair a b) e = ap (word_pairs a b (fresh S)) e
    at (Block a n) e = ap (word_blocks a n (fresh S)) e

map_same : (τ τ' : Words) (ss : List Side) → AllByRecursion (λ s. fill τ s ≡ fill τ' s) ss → map (fill τ) ss ≡ map (fill τ') ss
map_same τ τ' [] h = refl
map_same τ τ' (s ∷ ss) h = ap₂ (λ u v. u ∷ v) h.0 (map_same τ τ' ss h.1)

filled_alike : (list : List Choice) (S : Standing) (τ τ' : Words) → Alike S τ τ' → filled_sides (follow (beside S τ) list) ≡ filled_sides (follow (beside S τ') list)
filled_alike [] S τ τ' same = map_same τ τ' (sides S.equations) (fill_same τ τ' S.equations same)
filled_alike (choice ∷ more) S τ τ' same = filled_alike more (taken S choice) (leaves S τ choice) (leaves S τ' choice) (next_alike S τ τ' choice same)

-- a part makes the same choices

abbrev SameAt : Part → Standing → Words → Words → Type 0
SameAt p S τ τ' = p (beside S τ) ≡ p (beside S τ')

abbrev Same : Part → Type 0
Same p = (S : Standing) (τ τ' : Words) → Alike S τ τ' → SameAt p S τ τ'

onward_same : (list : List Choice) (q : Part) → Same q → Same (onward list q)
onward_same [] q more S τ τ' same = more S τ τ' same
onward_same (choice ∷ list) q more S τ τ' same = ap (λ r. choice ∷ r) (onward_same list q more (taken S choice) (leaves S τ choice) (leaves S τ' choice) (next_alike S τ τ' choice same))

then_at : (p q : Part) (S : Standing) (τ τ' : Words) → SameAt p S τ τ' → Same q → Alike S τ τ' → SameAt (then p q) S τ τ'
then_at p q S τ τ' here more same = ap (λ l. onward l q (beside S τ)) here ∙ onward_same (p (beside S τ')) q more S τ τ' same

then_same : (p q : Part) → Same p → Same q → Same (then p q)
then_same p q first more S τ τ' same = then_at p q S τ τ' (first S τ τ' same) more same

again_same : (p : Part) → Same p → (n : ℕ) → Same (again n p)
again_same p one zero S τ τ' same = refl
again_same p one (suc n) S τ τ' same = then_same p (again n p) one (again_same p one n) S τ τ' same

each_same : (p : ℕ → Part) → ((x : ℕ) → Same (p x)) → (xs : List ℕ) → Same (each p xs)
each_same p one [] S τ τ' same = refl
each_same p one (x ∷ xs) S τ τ' same = then_same (p x) (each p xs) (one x) (each_same p one xs) S τ τ' same

-- a choice that is made where x is live and its word passes a test

test_same : (f : Word → Bool) (x : ℕ) (choice : Choice) → Same (λ st. cond (live st.stands x && f (st.words x)) (choice ∷ []) [])
test_same f x choice S τ τ' same = ap (λ b. cond b (choice ∷ []) []) (split (cases_Bool (live S x)))
  where
    split : (live S x ≡ true) ⊎ (live S x ≡ false) → (live S x && f (τ x)) ≡ (live S x && f (τ' x))
    split (inl alive) = ap (λ w. live S x && f w) (same x alive)
    split (inr gone) = and_left (live S x) (f (τ x)) gone ∙ sym (and_left (live S x) (f (τ' x)) gone)

test_none : (f : Word → Bool) (x : ℕ) (choice : Choice) (S : Standing) (τ : Words) → live S x ≡ false → cond (live S x && f (τ x)) (choice ∷ []) [] ≡ []
test_none f x choice S τ gone = cond-false (live S x && f (τ x)) (choice ∷ []) [] (and_left (live S x) (f (τ x)) gone)

erasures_same : Same erasures
erasures_same = each_same erase_empty (λ x. test_same empty x (Erase x)) variables

-- the parts of a round

for_pair_same : (a b x : ℕ) → Same (for_pair a b x)
for_pair_same a b x = then_same (pop_first b x) (then (pop_last a x) (erase_empty x)) (test_same (begins b) x (Left x b)) (then_same (pop_last a x) (erase_empty x) (test_same (ends a) x (Right x a)) (test_same empty x (Erase x)))

join_pair_same : (a b : ℕ) → Same (join_pair a b)
join_pair_same a b = then_same (each (for_pair a b) variables) (λ _. Pair a b ∷ []) (each_same (for_pair a b) (for_pair_same a b) variables) (λ _ _ _ _. refl)

module _ (a x : ℕ) where
  -- pops for a word of so many letters
  abbrev pops : ℕ → Part
  pops n = then (again n (pop_first a x)) (then (again n (pop_last a x)) (erase_empty x))

  pops_same : (n : ℕ) → Same (pops n)
  pops_same n =
      then_same (again n (pop_first a x)) (then (again n (pop_last a x)) (erase_empty x)) (again_same (pop_first a x) (test_same (begins a) x (Left x a)) n)
      (then_same (again n (pop_last a x)) (erase_empty x) (again_same (pop_last a x) (test_same (ends a) x (Right x a)) n) (test_same empty x (Erase x)))

  pops_none : (n : ℕ) (S : Standing) (τ : Words) → live S x ≡ false → pops n (beside S τ) ≡ []
  pops_none n S τ gone =
      then_none (again n (pop_first a x)) (then (again n (pop_last a x)) (erase_empty x)) (beside S τ) (again_none (pop_first a x) n (beside S τ) (test_none (begins a) x (Left x a) S τ gone)) ∙
      then_none (again n (pop_last a x)) (erase_empty x) (beside S τ) (again_none (pop_last a x) n (beside S τ) (test_none (ends a) x (Right x a) S τ gone)) ∙
      test_none empty x (Erase x) S τ gone

  for_block_same : Same (for_block a x)
  for_block_same S τ τ' same = split (cases_Bool (live S x))
    where
      split : (live S x ≡ true) ⊎ (live S x ≡ false) → SameAt (for_block a x) S τ τ'
      split (inl alive) = pops_same (length (τ x)) S τ τ' same ∙ ap (λ w. pops (length w) (beside S τ')) (same x alive)
      split (inr gone) = pops_none (length (τ x)) S τ gone ∙ sym (pops_none (length (τ' x)) S τ' gone)

pop_rows_same : (a : ℕ) → Same (pop_rows a)
pop_rows_same a = each_same (for_block a) (for_block_same a) variables

lengths_alike : (a : ℕ) (S : Standing) (τ τ' : Words) → Alike S τ τ' → block_lengths a (beside S τ) ≡ block_lengths a (beside S τ')
lengths_alike a S τ τ' same =
    ap (λ l. counted_lengths a (filled_sides (follow (beside S τ) l))) (pop_rows_same a S τ τ' same) ∙
    ap (counted_lengths a) (filled_alike (pop_rows a (beside S τ')) S τ τ' same)

blocks_same : (a : ℕ) → Same (λ st. join_blocks a (block_lengths a st) st)
blocks_same a S τ τ' same =
    ap (λ ns. join_blocks a ns (beside S τ)) (lengths_alike a S τ τ' same) ∙
    then_same (pop_rows a) (λ _. map (Block a) (block_lengths a (beside S τ'))) (pop_rows_same a) (λ _ _ _ _. refl) S τ τ' same

-- the turns, and the list

turn_same : (x : ℕ) (w : Word) → Same (turn x w)
turn_same x [] S τ τ' same = refl
turn_same x (a ∷ []) S τ τ' same = refl
turn_same x (a ∷ (b ∷ w)) S τ τ' same = ap₂ (cond (eqb a b)) (blocks_same a S τ τ' same) (join_pair_same a b S τ τ' same)

turns_same : (fuel : ℕ) → Same (turns fuel)
turns_same zero S τ τ' same = refl
turns_same (suc fuel) S τ τ' same = go (then_same erasures (turns fuel) erasures_same (turns_same fuel)) (first_live (beside S τ)) refl
  where
    go : Same (then erasures (turns fuel)) → (o : Option ℕ) → first_live (beside S τ) ≡ o → on_first o (then erasures (turns fuel)) (beside S τ) ≡ on_first o (then erasures (turns fuel)) (beside S τ')
    go more None e = refl
    go more (Some x) e =
        let alive : live S x ≡ true = first_some (live S) variables x e in
        then_at (turn_of x) (then erasures (turns fuel)) S τ τ' (ap (λ w. turn x w (beside S τ)) (same x alive) ∙ turn_same x (τ' x) S τ τ' same) more same

list_same : (fuel : ℕ) → Same (list_of fuel)
list_same fuel = then_same erasures (turns fuel) erasures_same (turns_same fuel)

-- the list of the words that are given is the list of each small solution that stands in the buffer, whatever that has for other variables
pub given_written : (loads : List Load) (buffer : List ℕ) (spans : List Span) (σ : Words) → Solution σ (loaded loads) → StandInBuffer loads σ buffer spans → side_letters (start loads σ) ≤ 512 → Written loads σ (list_of turns_enough (start loads (given (opened loads) buffer spans)))
given_written loads buffer spans σ solution stand few =
    let same : list_of turns_enough (start loads σ) ≡ list_of turns_enough (start loads (given (opened loads) buffer spans)) =
    list_same turns_enough (opened loads) σ (given (opened loads) buffer spans) (λ x of. sym ((writer_refuses_rightly loads buffer spans 1050).that_is_given σ stand x of)) in
    subst (Written loads σ) same (list_written loads σ solution few)
