-- Tables that are filled rule by rule. Assumes nothing.
use Rattle.std.proofs.Common.{◌≡◌, ℕ, zero, suc, ◌+◌, ◌-◌, ◌<◌, ◌≤◌, Bool, true, false, ◌&&◌, cond, leb, ◌≢◌, List, [], ◌∷◌, ◌++◌, Some, None, reverse, length, get_or, take, drop, set, sym, refl, ap, ◌∙◌, subst, ⊎_elim, append-nil, append_assoc, add-one, zero-add, arith, length-take, get_or-set_other, get_or-set_same, below_more}
use Rattle.std.specs.List.{AllByRecursion, enumerate_from, list_all}
use Rattle.std.proofs.Math.Bool.{and-true, and_comm, and_assoc}
use Rattle.std.proofs.lemmas.List.FromFn.{length-enumerate_from, get_or-enumerate_from}
use Rattle.std.proofs.lemmas.List.Recursion.{and_at}
use Rattle.std.proofs.lemmas.List.{take_more, length-reverse, reverse-append, drop-set-lt, drop-drop}
use Rattle.std.proofs.lemmas.Bool.{and_from, cases_lt, le-leb, leb-true}
use Rattle.model.specs.declared.Rule.{Rule}
use Rattle.model.specs.declared.Rule.TheVariants.{Pair, Block}
use Rattle.model.specs.Spelling.{Word, copies, known, expand, spell, spell_word}
use Rattle.model.specs.Witnesses.{lower, rules_fit}
use Rattle.model.proofs.Spelling.{spell_older, spell_newest}
use Rattle.model.proofs.Fitting.{newest_fits, pair_lower, block_lower, newest_reverse}
use Rattle.systems.specs.Values.{Associative, Neutral, word_value, times, rule_value}
use Rattle.systems.proofs.Values.{values_of}
use Rattle.measure.specs.declared.values.FillRefusal.TheVariants.{SmallTable, OutOfTurn}
use Rattle.measure.specs.Tables.{table_value, Filled, in_turn, fillable, fill_refusal}

-- lists that are the same from a place on are the same from any later place on
pub same_later : {X : Type 0} (m n : ℕ) (xs ys : List X) → m ≤ n → drop m xs ≡ drop m ys → drop n xs ≡ drop n ys
same_later m n xs ys le same =
    let on : m + (n - m) ≡ n = omega arith in
    ap (λ k. drop k xs) (sym on) ∙ sym (drop-drop (n - m) m xs) ∙ ap (drop (n - m)) same ∙ drop-drop (n - m) m ys ∙ ap (λ k. drop k ys) on

-- one letter of a to z more
pub letters_more : {V : Type 0} (letter : ℕ → V) (empty : V) (old t new : List V) (n : ℕ) (v : V) → n < 26 → n < length t → new ≡ set t n v → v ≡ letter n
    → ((a : ℕ) → a < n → get_or t a empty ≡ letter a) × (drop 26 t ≡ drop 26 old)
    → ((a : ℕ) → a < n + 1 → get_or new a empty ≡ letter a) × (drop 26 new ≡ drop 26 old)
letters_more letter empty old t new n v low room is value inv = (
  below_more (λ a. get_or new a empty ≡ letter a) n
      (λ a lt. let ne : a ≢ n = omega arith in ap (λ l. get_or l a empty) is ∙ get_or-set_other t n a v empty ne ∙ inv.0 a lt)
      (ap (λ l. get_or l n empty) is ∙ get_or-set_same t n v empty room ∙ value),
  ap (drop 26) is ∙ drop-set-lt 26 t n v low ∙ inv.1,
)

-- rules that fit are made in turn
pub fit_in_turn : (rules : List Rule) → rules_fit rules ≡ true → in_turn rules ≡ true
fit_in_turn [] h = refl
fit_in_turn (rule ∷ older) h =
    let p = newest_fits rule older h in
    and_from (lower (known older) rule) (in_turn older) p.0.low (fit_in_turn older p.1)

-- one more rule of those that are stored oldest first
pub stored_more : (stored : List Rule) (i : ℕ) (d : Rule) → i < length stored → reverse (take (i + 1) stored) ≡ get_or stored i d ∷ reverse (take i stored)
stored_more stored i d lt = ap reverse (take_more stored i d lt) ∙ newest_reverse (take i stored) (get_or stored i d)

pub stored_known : (stored : List Rule) (i : ℕ) → i ≤ length stored → known (reverse (take i stored)) ≡ 26 + i
stored_known stored i le = omega (arith, length-reverse (take i stored), length-take i stored)

-- whether a stored rule is made of letters known before it, by its place
abbrev pub in_its_turn : ℕ × Rule → Bool
in_its_turn (i, rule) = lower (26 + i) rule

turns_onto : (stored older : List Rule) → (list_all in_its_turn (enumerate_from (length older) stored) && in_turn older) ≡ in_turn (reverse stored ++ older)
turns_onto [] older = refl
turns_onto (rule ∷ stored) older =
    let here = lower (known older) rule in
    let later = list_all in_its_turn (enumerate_from (length (rule ∷ older)) stored) in
    let moved : reverse (rule ∷ stored) ++ older ≡ reverse stored ++ (rule ∷ older) = ap (λ l. l ++ older) (reverse-append (rule ∷ []) stored) ∙ append_assoc (reverse stored) (rule ∷ []) older in
    ap (λ n. (here && list_all in_its_turn (enumerate_from n stored)) && in_turn older) (add-one (length older)) ∙ ap (λ b. b && in_turn older) (and_comm here later)
    ∙ and_assoc later here (in_turn older) ∙ turns_onto stored (rule ∷ older) ∙ ap in_turn (sym moved)

-- all are made in turn where each is
pub turns_by_place : (stored : List Rule) → list_all in_its_turn (enumerate_from 0 stored) ≡ in_turn (reverse stored)
turns_by_place stored = sym (and-true (list_all in_its_turn (enumerate_from 0 stored))) ∙ turns_onto stored [] ∙ ap in_turn (append-nil (reverse stored))

pub in_turn_lower : (stored : List Rule) (i : ℕ) (d : Rule) → i < length stored → in_turn (reverse stored) ≡ true → lower (26 + i) (get_or stored i d) ≡ true
in_turn_lower stored i d lt h =
    let long : i < length (enumerate_from 0 stored) = omega (arith, length-enumerate_from 0 stored) in
    let here : get_or (enumerate_from 0 stored) i (0, d) ≡ (i, get_or stored i d) = get_or-enumerate_from 0 stored i (0, d) lt ∙ ap (λ k. (k, get_or stored i d)) (zero-add i) in
    ap in_its_turn (sym here) ∙ and_at (list_all in_its_turn) in_its_turn refl (λ _ _. refl) (enumerate_from 0 stored) i (0, d) long (turns_by_place stored ∙ h)

-- whether a table can be filled by rules that are stored oldest first, and why not
pub fillable_room : (stored : List Rule) (size : ℕ) → 26 + length stored ≤ size → in_turn (reverse stored) ≡ fillable (reverse stored) size
fillable_room stored size le =
    let room : known (reverse stored) ≤ size = omega (arith, length-reverse stored) in
    ap (λ b. b && in_turn (reverse stored)) (sym (le-leb (known (reverse stored)) size room))

no_refusal : (room turn : Bool) → None ≡ cond room (cond turn None (Some OutOfTurn)) (Some SmallTable) → (room ≡ true) × (turn ≡ true)
no_refusal true true e = (refl, refl)
no_refusal true false e = cc
no_refusal false turn e = cc

pub taken_parts : (stored : List Rule) (size : ℕ) → None ≡ fill_refusal (reverse stored) size → (26 + length stored ≤ size) × (in_turn (reverse stored) ≡ true)
taken_parts stored size h =
    let p = no_refusal (leb (known (reverse stored)) size) (in_turn (reverse stored)) h in
    (omega (arith, length-reverse stored, leb-true (known (reverse stored)) size p.0), p.1)

-- the word that a rule stands for
abbrev word_for : Rule → Word
word_for (Pair a b) = a ∷ b ∷ []
word_for (Block a n) = copies n (a ∷ [])

spell_copies : (older : List Rule) (a n : ℕ) → copies n (spell older a) ≡ spell_word older (copies n (a ∷ []))
spell_copies older a zero = refl
spell_copies older a (suc n) = ap (λ w. spell older a ++ w) (spell_copies older a n)

spell_for : (older : List Rule) (rule : Rule) → expand (spell older) rule ≡ spell_word older (word_for rule)
spell_for older (Pair a b) = ap (λ w. spell older a ++ w) (sym (append-nil (spell older b)))
spell_for older (Block a n) = spell_copies older a n

module _ {V : Type 0} (letter : ℕ → V) {empty : V} {join : V → V → V} (assoc : Associative join) (neutral : Neutral empty join) where
  value_copies : (f : ℕ → V) (a n : ℕ) → word_value f empty join (copies n (a ∷ [])) ≡ times empty join n (f a)
  value_copies f a zero = refl
  value_copies f a (suc n) = ap (join (f a)) (value_copies f a n)

  value_for : (f : ℕ → V) (rule : Rule) → word_value f empty join (word_for rule) ≡ rule_value f empty join rule
  value_for f (Pair a b) = ap (join (f a)) (neutral.right (f b))
  value_for f (Block a n) = value_copies f a n

  -- the values in a filled table are those of what known letters spell
  table_word : (rules : List Rule) (t : List V) (w : Word) → Filled letter empty join rules t → AllByRecursion (λ a. a < known rules) w → table_value empty join t w ≡ word_value (λ a. word_value letter empty join (spell rules a)) empty join w
  table_word rules t [] filled all = refl
  table_word rules t (a ∷ w) filled all =
      ap (λ x. join x (table_value empty join t w)) (filled a all.0) ∙ ap (join (word_value letter empty join (spell rules a))) (table_word rules t w filled all.1)

  pub table_spells : (rules : List Rule) (t : List V) (w : Word) → Filled letter empty join rules t → AllByRecursion (λ a. a < known rules) w → table_value empty join t w ≡ word_value letter empty join (spell_word rules w)
  table_spells rules t w filled all = table_word rules t w filled all ∙ sym ((values_of letter empty join assoc neutral).of_word rules w)

  low_copies : (k a n : ℕ) → a < k → AllByRecursion (λ b. b < k) (copies n (a ∷ []))
  low_copies k a zero lt = tt
  low_copies k a (suc n) lt = (lt, low_copies k a n lt)

  low_for : (k : ℕ) (rule : Rule) → lower k rule ≡ true → AllByRecursion (λ b. b < k) (word_for rule)
  low_for k (Pair a b) low = let p = pair_lower k a b low in (p.0, (p.1, tt))
  low_for k (Block a n) low = low_copies k a n (block_lower k a n low)

  -- one rule more
  pub filled_more : (rule : Rule) (older : List Rule) (t : List V) (v : V) → known older < length t → lower (known older) rule ≡ true
      → v ≡ rule_value (λ a. get_or t a empty) empty join rule → Filled letter empty join older t → Filled letter empty join (rule ∷ older) (set t (known older) v)
  filled_more rule older t v room low is filled a lt =
      let here : v ≡ word_value letter empty join (spell (rule ∷ older) (known older)) =
      is ∙ sym (value_for (λ a. get_or t a empty) rule) ∙ table_spells older t (word_for rule) filled (low_for (known older) rule low)
      ∙ ap (word_value letter empty join) (sym (spell_newest rule older ∙ spell_for older rule)) in
      ⊎_elim
      (λ (l : a < known older).
      let ne : a ≢ known older = omega arith in
      get_or-set_other t (known older) a v empty ne ∙ filled a l ∙ ap (word_value letter empty join) (sym (spell_older rule older a l)))
      (λ (l : known older ≤ a).
      let same : a ≡ known older = omega arith in
      ap (λ b. get_or (set t (known older) v) b empty) same ∙ get_or-set_same t (known older) v empty room ∙ here ∙ ap (λ b. word_value letter empty join (spell (rule ∷ older) b)) (sym same))
      (cases_lt a (known older))

  -- one turn: the next stored rule
  pub fill_more : (stored : List Rule) (i : ℕ) (d : Rule) (t : List V) (v : V) → i < length stored → 26 + length stored ≤ length t → in_turn (reverse stored) ≡ true
      → v ≡ rule_value (λ a. get_or t a empty) empty join (get_or stored i d) → Filled letter empty join (reverse (take i stored)) t → Filled letter empty join (reverse (take (i + 1) stored)) (set t (26 + i) v)
  fill_more stored i d t v lt room turn is filled =
      let older = reverse (take i stored) in
      let rule = get_or stored i d in
      let next : known older ≡ 26 + i = stored_known stored i (omega arith) in
      let low : lower (known older) rule ≡ true = ap (λ n. lower n rule) next ∙ in_turn_lower stored i d lt turn in
      subst (λ rules. Filled letter empty join rules (set t (26 + i) v)) (sym (stored_more stored i d lt))
      (subst (λ n. Filled letter empty join (rule ∷ older) (set t n v)) next (filled_more rule older t v (omega arith) low is filled))
