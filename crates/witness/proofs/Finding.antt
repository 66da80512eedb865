-- Letters in a row: where a place is found, and what a rule puts in a row. Assumes nothing.
use Rattle.std.proofs.Common.{◌≡◌, ℕ, zero, suc, ◌+◌, ◌-◌, ◌*◌, ◌/◌, ◌%◌, ◌<◌, ◌≤◌, max, true, ◌&&◌, ltb, List, [], ◌∷◌, ◌++◌, length, get_or, take, drop, replicate, Some, None, Option, unwrap_or, sym, refl, ap, ◌∙◌, ⊎_elim, append-nil, mod-lt, suc-mul, mul_comm, div-add-mod', zero-mul, div-le_self, arith}
use native.Mathlib.Nat.{div-le_of_le-mul}
use lib.Seq.{drop-append-add}
use Rattle.std.proofs.lemmas.List.{take_all, drop_more, drop_all, get_or-drop, get_or_append_left, get_or-replicate, length-replicate, length-drop}
use Rattle.std.proofs.lemmas.Bool.{and_parts, and_from, ltb-true, lt-ltb, le-ltb, cond-false, cases_lt}
use Rattle.letters.specs.Holding.{length_of}
use Rattle.letters.proofs.Judging.{length_known}
use Rattle.model.specs.declared.Rule.{Rule}
use Rattle.model.specs.declared.Rule.TheVariants.{Pair, Block}
use Rattle.model.specs.Spelling.{Word, copies, known, expand, spell, spell_word, rule_of}
use Rattle.model.specs.Witnesses.{lower, rules_fit, all_below}
use Rattle.model.proofs.Spelling.{length_copies}
use Rattle.model.proofs.Entries.{below_at, below_more}
use Rattle.model.proofs.Fitting.{made_by, pair_lower, block_lower, spell_some}
use Rattle.witness.specs.Rows.{parts, Found}

-- the letters of a word from a place on
pub rest_read : (w : Word) (i k : ℕ) → get_or (take (length w - i) (drop i w)) k 0 ≡ get_or w (i + k) 0
rest_read w i k = ap (λ l. get_or l k 0) (take_all (length w - i) (drop i w) (omega (arith, length-drop i w))) ∙ get_or-drop i w k 0

pub rest_long : (w : Word) (i : ℕ) → length (take (length w - i) (drop i w)) ≡ length w - i
rest_long w i = ap length (take_all (length w - i) (drop i w) (omega (arith, length-drop i w))) ∙ length-drop i w

-- the length of a known letter, with any default
pub length_read : (rules : List Rule) (a d : ℕ) (o : Option ℕ) (n : ℕ) → a < known rules → o ≡ length_of rules a → n ≡ unwrap_or o d → n ≡ length (spell rules a)
length_read rules a d o n lt found is = is ∙ ap (λ x. unwrap_or x d) (found ∙ length_known rules a lt)

-- a number above each letter
abbrev pub highest : Word → ℕ
highest [] = 0
highest (a ∷ w) = max (suc a) (highest w)

pub under_highest : (w : Word) (i : ℕ) → i < length w → get_or w i 0 < highest w
under_highest [] i lt = absurd (omega arith)
under_highest (a ∷ w) zero lt = omega arith
under_highest (a ∷ w) (suc i) lt = let h : get_or w i 0 < highest w = under_highest w i (omega arith) in omega arith

-- what letters in a row spell, from one of them on
pub spell_from : (rules : List Rule) (w : Word) (i : ℕ) → i < length w → spell_word rules (drop i w) ≡ spell rules (get_or w i 0) ++ spell_word rules (drop (i + 1) w)
spell_from rules w i lt = ap (spell_word rules) (drop_more w i 0 lt)

pub drop_past : {X : Type 0} (k : ℕ) (u v : List X) → length u ≤ k → drop k (u ++ v) ≡ drop (k - length u) v
drop_past k u v le = let is : length u + (k - length u) ≡ k = omega arith in sym (ap (λ n. drop n (u ++ v)) is) ∙ drop-append-add u v (k - length u)

-- the place lies past the letter at i
pub past_letter : (rules : List Rule) (w : Word) (place skip i : ℕ) → i < length w → length (spell rules (get_or w i 0)) ≤ skip → drop place (spell_word rules w) ≡ drop skip (spell_word rules (drop i w)) → drop place (spell_word rules w) ≡ drop (skip - length (spell rules (get_or w i 0))) (spell_word rules (drop (i + 1) w))
past_letter rules w place skip i lt le inv =
    inv ∙ ap (drop skip) (spell_from rules w i lt) ∙ drop_past skip (spell rules (get_or w i 0)) (spell_word rules (drop (i + 1) w)) le

-- what a rule puts in a row
pub spell_replicate : (rules : List Rule) (n a : ℕ) → spell_word rules (replicate n a) ≡ copies n (spell rules a)
spell_replicate rules zero a = refl
spell_replicate rules (suc n) a = ap (λ w. spell rules a ++ w) (spell_replicate rules n a)

pub spell_parts : (rules : List Rule) (rule : Rule) → expand (spell rules) rule ≡ spell_word rules (parts rule)
spell_parts rules (Pair a b) = ap (λ w. spell rules a ++ w) (sym (append-nil (spell rules b)))
spell_parts rules (Block a n) = sym (spell_replicate rules n a)

below_replicate : (n a k : ℕ) → a < n → all_below n (replicate k a) ≡ true
below_replicate n a zero lt = refl
below_replicate n a (suc k) lt = and_from (ltb a n) (all_below n (replicate k a)) (lt-ltb a n lt) (below_replicate n a k lt)

below_parts : (n : ℕ) (rule : Rule) → lower n rule ≡ true → all_below n (parts rule) ≡ true
below_parts n (Pair a b) low = let p = pair_lower n a b low in and_from (ltb a n) (ltb b n && true) (lt-ltb a n p.0) (and_from (ltb b n) true (lt-ltb b n p.1) refl)
below_parts n (Block a k) low = below_replicate n a k (block_lower n a k low)

pub highest_below : (n : ℕ) (w : Word) → all_below n w ≡ true → highest w ≤ n
highest_below n [] h = omega arith
highest_below n (a ∷ w) h =
    let p = and_parts (ltb a n) (all_below n w) h in
    let head : a < n = ltb-true a n p.0 in
    let tail : highest w ≤ n = highest_below n w p.1 in
    omega arith

-- the row that stands for a made letter
pub record RowOf (rules : List Rule) (c : ℕ) (w : Word) : Type 0 where
  pub known_letters : all_below (known rules) w ≡ true
  pub spells : spell rules c ≡ spell_word rules w
  pub lowers : highest w ≤ c

pub row_of : (rules : List Rule) (c : ℕ) (rule : Rule) → rules_fit rules ≡ true → rule_of rules c ≡ Some rule → RowOf rules c (parts rule)
row_of rules c rule fit is =
    let m = made_by rules c rule fit is in
    let under : c < known rules = m.under in
    let low = below_parts c rule m.low in
    record { known_letters = below_more c (known rules) (parts rule) (omega arith) low; spells = m.spells ∙ spell_parts rules rule; lowers = highest_below c (parts rule) low }

-- a place in a block: the letters before it are gone over by a division
block_drop : (rules : List Rule) (a q r n : ℕ) → q ≤ n → drop (q * length (spell rules a) + r) (spell_word rules (replicate n a)) ≡ drop r (spell_word rules (drop q (replicate n a)))
block_drop rules a zero r n le = ap (λ k. drop k (spell_word rules (replicate n a))) (omega (arith, zero-mul (length (spell rules a))))
block_drop rules a (suc q) r zero le = absurd (omega arith)
block_drop rules a (suc q) r (suc n) le =
    let l = length (spell rules a) in
    let is : suc q * l + r ≡ l + (q * l + r) = omega (arith, suc-mul q l) in
    ap (λ k. drop k (spell rules a ++ spell_word rules (replicate n a))) is
    ∙ drop-append-add (spell rules a) (spell_word rules (replicate n a)) (q * l + r)
    ∙ block_drop rules a q r n (omega arith)

pub block_found : (rules : List Rule) (a n place l : ℕ) → l ≡ length (spell rules a) → 0 < l → place ≤ length (spell_word rules (replicate n a)) → Found rules (replicate n a) place (place / l) (place % l)
block_found rules a n place l is some within =
    let all : length (spell_word rules (replicate n a)) ≡ n * l = ap length (spell_replicate rules n a) ∙ length_copies n (spell rules a) ∙ ap (λ k. n * k) (sym is) in
    let index : place / l ≤ n = div-le_of_le-mul l {m = place} {n = n} (omega (arith, mul_comm n l)) in
    record {
      within = omega (arith, length-replicate n a);
      left = ap (λ k. drop k (spell_word rules (replicate n a))) (sym (div-add-mod' place l) ∙ ap (λ k. place / l * k + place % l) is) ∙ block_drop rules a (place / l) (place % l) n index;
      inside = λ lt. let few : place / l < n = omega (arith, length-replicate n a) in omega (arith, mod-lt place some, ap (λ c. length (spell rules c)) (get_or-replicate n (place / l) a 0 few));
    }

-- a length that is read with the default 1 is not 0
pub some_length : (rules : List Rule) (a : ℕ) (o : Option ℕ) (l : ℕ) → rules_fit rules ≡ true → o ≡ length_of rules a → l ≡ unwrap_or o 1 → 0 < l
some_length rules a o l fit found is =
    ⊎_elim
    (λ (lt : a < known rules). omega (arith, length_read rules a 1 o l lt found is, spell_some rules fit a))
    (λ (ge : known rules ≤ a). omega (arith, is ∙ ap (λ x. unwrap_or x 1) (found ∙ cond-false (ltb a (known rules)) (Some (length (spell rules a))) None (le-ltb a (known rules) ge))))
    (cases_lt a (known rules))

block_empty : (rules : List Rule) (a place l : ℕ) → place ≤ length (spell_word rules (replicate 0 a)) → 0 < l → Found rules (replicate 0 a) place (place / l) (place % l)
block_empty rules a place l within some =
    let none : place ≡ 0 = omega arith in
    record {
      within = omega (arith, div-le_self place l);
      left = drop_all {X = ℕ} place [] (omega arith) ∙ sym (ap (λ w. drop (place % l) (spell_word rules w)) (drop_all {X = ℕ} (place / l) [] (omega arith)) ∙ drop_all {X = ℕ} (place % l) [] (omega arith));
      inside = λ lt. absurd (omega arith);
    }

pub block_read : (rules : List Rule) (a n place l : ℕ) (o : Option ℕ) → 0 < l → all_below (known rules) (replicate n a) ≡ true → place ≤ length (spell_word rules (replicate n a)) → o ≡ length_of rules a → l ≡ unwrap_or o 1 → Found rules (replicate n a) place (place / l) (place % l)
block_read rules a zero place l o some low within found is = block_empty rules a place l within some
block_read rules a (suc n) place l o some low within found is =
    block_found rules a (suc n) place l (length_read rules a 1 o l (ltb-true a (known rules) (and_parts (ltb a (known rules)) (all_below (known rules) (replicate n a)) low).0) found is) some within

-- a place within is found at a letter
pub found_inside : (rules : List Rule) (w : Word) (place index skip : ℕ) → Found rules w place index skip → place < length (spell_word rules w) → index < length w
found_inside rules w place index skip f lt =
    ⊎_elim
    (λ (l : index < length w). l)
    (λ (l : length w ≤ index).
    let left : length (spell_word rules w) - place ≡ length (drop skip (spell_word rules (drop index w))) = sym (length-drop place (spell_word rules w)) ∙ ap length f.left in
    let none : length (drop skip (spell_word rules (drop index w))) ≡ 0 = ap (λ v. length (drop skip (spell_word rules v))) (drop_all index w l) ∙ ap length (drop_all {X = ℕ} skip [] (omega arith)) in
    absurd (omega arith))
    (cases_lt index (length w))

pub found_letter : (rules : List Rule) (w : Word) (place index skip : ℕ) → Found rules w place index skip → index < length w → get_or (spell_word rules w) place 0 ≡ get_or (spell rules (get_or w index 0)) skip 0
found_letter rules w place index skip f lt =
    let u = spell rules (get_or w index 0) in
    let v = spell_word rules (drop (index + 1) w) in
    let zero_off : place + 0 ≡ place = omega arith in
    let zero_on : skip + 0 ≡ skip = omega arith in
    sym (get_or-drop place (spell_word rules w) 0 0 ∙ ap (λ k. get_or (spell_word rules w) k 0) zero_off)
    ∙ ap (λ l. get_or l 0 0) (f.left ∙ ap (drop skip) (spell_from rules w index lt))
    ∙ get_or-drop skip (u ++ v) 0 0
    ∙ ap (λ k. get_or (u ++ v) k 0) zero_on
    ∙ get_or_append_left u v 0 skip (f.inside lt)

pub made_inside : (rules : List Rule) (c : ℕ) (rule : Rule) (place index skip : ℕ) → rules_fit rules ≡ true → rule_of rules c ≡ Some rule → Found rules (parts rule) place index skip → place < length (spell rules c) → index < length (parts rule)
made_inside rules c rule place index skip fit is f lt =
    found_inside rules (parts rule) place index skip f (omega (arith, ap length (row_of rules c rule fit is).spells))

-- a part of the row that stands for the made letter c
pub record Part (rules : List Rule) (c a : ℕ) : Type 0 where
  pub known_letter : a < known rules
  pub lowers : a < c

pub part_of : (rules : List Rule) (c : ℕ) (rule : Rule) (i a : ℕ) → rules_fit rules ≡ true → rule_of rules c ≡ Some rule → i < length (parts rule) → a ≡ get_or (parts rule) i 0 → Part rules c a
part_of rules c rule i a fit is lt e =
    let row = row_of rules c rule fit is in
    record {
      known_letter = omega (arith, below_at (known rules) (parts rule) i row.known_letters lt);
      lowers = omega (arith, under_highest (parts rule) i lt, row.lowers);
    }

-- as far as k goes: from the first part, and then from the second
pub take_both : {X : Type 0} (k : ℕ) (u v : List X) → take k (u ++ v) ≡ take k u ++ take (k - length (take k u)) v
take_both zero u v = refl
take_both (suc k) [] v = let same : suc k ≡ suc k - 0 = omega arith in ap (λ n. take n v) same
take_both (suc k) (x ∷ u) v = let same : k - length (take k u) ≡ suc k - suc (length (take k u)) = omega arith in ap (λ l. x ∷ l) (take_both k u v ∙ ap (λ n. take k u ++ take n v) same)
