-- How many letters the letters before a place spell: with one letter or one rule more, in a word, and searched by halves. Assumes nothing.
use Rattle.std.proofs.Common.{◌≡◌, ℕ, zero, suc, ◌+◌, ◌-◌, ◌<◌, ◌≤◌, true, false, ltb, leb, List, [], ◌∷◌, ◌++◌, length, get_or, take, drop, Some, Ok, Err, Option, sym, refl, ap, ◌∙◌, subst, ap₂, ⊎_elim, arith, length-append}
use lib.Seq.{drop-append-add, take-append-le}
use Rattle.std.proofs.lemmas.List.{take_all, take-append-drop, take_more, take-take, length-take-le, length_push, nil_from_length, get_or-take, get_or_push, get_or_default, get_or_append_left, get_or-append-add}
use Rattle.std.proofs.lemmas.Bool.{and_parts, and_from, leb-true, leb-false, eqb-true, cases_lt, lt-leb, lt-ltb, le-ltb, cond-true, cond-false}
use Rattle.std.specs.List.Sorted.{IsNonDecreasingBy, IsPartitionPoint}
use Rattle.std.specs.Option.{IfSome, option_map}
use Rattle.std.specs.declared.ops.Range.{Range}
use Rattle.std.proofs.lemmas.List.Sorted.{IsNonDecreasingBy-from_default}
use Rattle.model.specs.declared.Rule.{Rule}
use Rattle.model.specs.Spelling.{Word, known, spell, spell_word}
use Rattle.model.specs.Witnesses.{Entry, all_below, entries_fit, entry_fits}
use Rattle.model.specs.Buffers.{Put}
use Rattle.model.proofs.Entries.{below_at, below_parts, entry_after}
use Rattle.model.proofs.Spelling.{joined-++, spell_older, length_spell_push}
use Rattle.witness.specs.Answers.{as_text, fill_answer, filled, length_answer, letter_answer}
use Rattle.witness.specs.Refusals.{refusal_number}
use Rattle.witness.specs.Rows.{Found}
use Rattle.witness.specs.Seats.{Counted, cut_out, entries, tight}
use Rattle.witness.specs.declared.refusals.WitnessRefusal.TheVariants.{PastWord}
use Rattle.witness.specs.declared.seats.Seat.{Seat}
use Rattle.witness.proofs.Filling.{filled_whole}
use Rattle.witness.proofs.Finding.{drop_past, found_inside, found_letter}

-- how many letters the letters before i spell
abbrev pub before : List Rule → Word → ℕ → ℕ
before rules letters i = length (spell_word rules (take i letters))

pub counted_before : (rules : List Rule) (letters : Word) (ends : List ℕ) (i : ℕ) → Counted rules letters ends → 0 < i → i ≤ length letters → get_or ends (i - 1) 0 ≡ before rules letters i
counted_before rules letters ends i counted some le =
    let back : (i - 1) + 1 ≡ i = omega arith in
    counted (i - 1) (omega arith) ∙ ap (before rules letters) back

before_more : (rules : List Rule) (letters : Word) (i : ℕ) → i < length letters → before rules letters (i + 1) ≡ before rules letters i + length (spell rules (get_or letters i 0))
before_more rules letters i lt = ap (λ w. length (spell_word rules w)) (take_more letters i 0 lt) ∙ length_spell_push rules (take i letters) (get_or letters i 0)

-- one letter more
pub counted_push : (rules : List Rule) (letters letters' : Word) (ends ends' : List ℕ) (a total : ℕ) → letters' ≡ letters ++ (a ∷ []) → ends' ≡ ends ++ (total ∷ []) → length ends ≡ length letters → total ≡ length (spell_word rules letters) + length (spell rules a) → Counted rules letters ends → Counted rules letters' ends'
counted_push rules letters letters' ends ends' a total pushed put level is counted i lt =
    ap (λ l. get_or l i 0) put
    ∙ ⊎_elim
    (λ (l : i < length letters).
    let within : i < length ends = omega arith in
    let upto : i + 1 ≤ length letters = omega arith in
    get_or_append_left ends (total ∷ []) 0 i within ∙ counted i l ∙ ap (λ w. length (spell_word rules w)) (sym (take-append-le (i + 1) letters (a ∷ []) upto)))
    (λ (l : length letters ≤ i).
    let long : length letters' ≡ length letters + 1 = ap length pushed ∙ length_push letters a in
    let here : length ends ≡ i = omega arith in
    let whole : length (letters ++ (a ∷ [])) ≤ i + 1 = omega (arith, length_push letters a) in
    get_or_push ends total 0 i here ∙ is ∙ sym (length_spell_push rules letters a) ∙ ap (λ w. length (spell_word rules w)) (sym (take_all (i + 1) (letters ++ (a ∷ [])) whole)))
    (cases_lt i (length letters))
    ∙ ap (λ l. length (spell_word rules (take (i + 1) l))) (sym pushed)

-- one rule more
spell_word_older : (rule : Rule) (rules : List Rule) (w : Word) → all_below (known rules) w ≡ true → spell_word (rule ∷ rules) w ≡ spell_word rules w
spell_word_older rule rules [] low = refl
spell_word_older rule rules (a ∷ w) low =
    let p = below_parts (known rules) a w low in
    ap₂ (λ u v. u ++ v) (spell_older rule rules a p.0) (spell_word_older rule rules w p.1)

pub below_take : (n i : ℕ) (w : Word) → all_below n w ≡ true → all_below n (take i w) ≡ true
below_take n zero w h = refl
below_take n (suc i) [] h = refl
below_take n (suc i) (a ∷ w) h =
    let p = and_parts (ltb a n) (all_below n w) h in
    and_from (ltb a n) (all_below n (take i w)) p.0 (below_take n i w p.1)

below_append : (n : ℕ) (v w : Word) → all_below n v ≡ true → all_below n w ≡ true → all_below n (v ++ w) ≡ true
below_append n [] w hv hw = hw
below_append n (a ∷ v) w hv hw =
    let p = and_parts (ltb a n) (all_below n v) hv in
    and_from (ltb a n) (all_below n (v ++ w)) p.0 (below_append n v w p.1 hw)

-- the letters of all words are known
pub letters_known : (rules : List Rule) (seats : List Seat) (letters : Word) → tight (length letters) seats ≡ true → entries_fit rules (entries seats letters) ≡ true → all_below (known rules) letters ≡ true
letters_known rules [] letters whole fit = ap (all_below (known rules)) (nil_from_length letters (eqb-true (length letters) 0 whole))
letters_known rules (seat ∷ older) letters whole fit =
    let p = and_parts (leb seat.start (length letters)) (tight seat.start older) whole in
    let le : seat.start ≤ length letters = leb-true seat.start (length letters) p.0 in
    let front = take seat.start letters in
    let newest : Entry = record { variable = seat.variable; word = drop seat.start letters } in
    let q = and_parts (entry_fits rules (entries older front) newest) (entries_fit rules (entries older front)) fit in
    let tight_front : tight (length front) older ≡ true = ap (λ n. tight n older) (length-take-le seat.start letters le) ∙ p.1 in
    ap (all_below (known rules)) (sym (take-append-drop seat.start letters))
    ∙ below_append (known rules) front (drop seat.start letters) (letters_known rules older front tight_front q.1) (entry_after rules (entries older front) newest q.0).low

pub counted_rule : (rule : Rule) (rules : List Rule) (letters : Word) (ends : List ℕ) → all_below (known rules) letters ≡ true → Counted rules letters ends → Counted (rule ∷ rules) letters ends
counted_rule rule rules letters ends low counted i lt = counted i lt ∙ ap length (sym (spell_word_older rule rules (take (i + 1) letters) (below_take (known rules) (i + 1) letters low)))

-- a word between two places of the letters
pub word_between : (rules : List Rule) (letters : Word) (start end : ℕ) → start ≤ end → spell_word rules (take end letters) ≡ spell_word rules (take start letters) ++ spell_word rules (drop start (take end letters))
word_between rules letters start end le =
    ap (spell_word rules) (sym (take-append-drop start (take end letters)))
    ∙ joined-++ (spell rules) (take start (take end letters)) (drop start (take end letters))
    ∙ ap (λ w. spell_word rules w ++ spell_word rules (drop start (take end letters))) (take-take start end letters le)

pub length_between : (rules : List Rule) (letters : Word) (start end : ℕ) → start ≤ end → before rules letters end ≡ before rules letters start + length (spell_word rules (drop start (take end letters)))
length_between rules letters start end le = ap length (word_between rules letters start end le) ∙ length-append (spell_word rules (take start letters)) (spell_word rules (drop start (take end letters)))

pub drop_between : (rules : List Rule) (letters : Word) (start end place : ℕ) → start ≤ end → drop (before rules letters start + place) (spell_word rules (take end letters)) ≡ drop place (spell_word rules (drop start (take end letters)))
drop_between rules letters start end place le =
    ap (drop (before rules letters start + place)) (word_between rules letters start end le)
    ∙ drop-append-add (spell_word rules (take start letters)) (spell_word rules (drop start (take end letters))) place

-- the place lies between the letters before `low` and those before `high`
pub record Between (rules : List Rule) (letters : Word) (end place low high : ℕ) : Type 0 where
  pub order : low ≤ high
  pub within : high ≤ end
  pub from : before rules letters low ≤ place
  pub to : high < end → place < before rules letters (high + 1)

pub between_found : (rules : List Rule) (letters : Word) (end place low high : ℕ) → end ≤ length letters → high ≤ low → Between rules letters end place low high → Found rules (take end letters) place low (place - before rules letters low)
between_found rules letters end place low high le met b =
    let order : low ≤ high = b.order in
    let under : high ≤ end = b.within in
    let long : length (take end letters) ≡ end = length-take-le end letters le in
    let front : take low (take end letters) ≡ take low letters = take-take low end letters (omega arith) in
    let same : high ≡ low = omega arith in
    record {
      within = omega arith;
      left =
          ap (drop place) (ap (spell_word rules) (sym (take-append-drop low (take end letters))) ∙ joined-++ (spell rules) (take low (take end letters)) (drop low (take end letters)) ∙ ap (λ w. spell_word rules w ++ spell_word rules (drop low (take end letters))) front)
          ∙ drop_past place (spell_word rules (take low letters)) (spell_word rules (drop low (take end letters))) b.from;
      inside = λ lt.
          let here : low < end = omega arith in
          let in_letters : low < length letters = omega arith in
          let past : place < before rules letters (high + 1) = b.to (omega arith) in
          omega (arith, ap (λ n. before rules letters (n + 1)) same, before_more rules letters low in_letters, ap (λ a. length (spell rules a)) (get_or-take end letters low 0 here), b.from);
    }

-- the counts rise, so that a place is found among those of the first letters by halves
module _ (rules : List Rule) (letters : Word) (ends : List ℕ) (end place : ℕ) (level : length ends ≡ length letters) (counted : Counted rules letters ends) (le : end ≤ length letters) where
  end_read : (i d : ℕ) → i < end → get_or (take end ends) i d ≡ before rules letters (i + 1)
  end_read i d lt = get_or-take end ends i d lt ∙ get_or_default ends i d 0 (omega arith) ∙ counted i (omega arith)

  pub ends_rise : IsNonDecreasingBy (λ n. n) (take end ends)
  ends_rise = IsNonDecreasingBy-from_default (λ n. n) (take end ends) 0 (λ i j order within.
      let long : length (take end ends) ≡ end = length-take-le end ends (omega arith) in
      omega (arith, end_read i 0 (omega arith), end_read j 0 (omega arith), length_between rules letters (i + 1) (j + 1) (omega arith)))

  pub point_found : (i : ℕ) → i ≤ length (take end ends) → IsPartitionPoint (λ n. leb n place ≡ true) (λ n. leb n place ≡ false) (take end ends) i → (before rules letters i ≤ place) × Found rules (take end letters) place i (place - before rules letters i)
  point_found i upto point = (from, between_found rules letters end place i i le (omega arith) (record { order = omega arith; within = within; from = from; to = to }))
    where
      long : length (take end ends) ≡ end
      long = length-take-le end ends (omega arith)

      within : i ≤ end
      within = omega (arith, long)

      from : before rules letters i ≤ place
      from = ⊎_elim
          (λ (none : i < 1). let first : i ≡ 0 = omega arith in omega (arith, ap (before rules letters) first))
          (λ (some : 1 ≤ i).
          let last : i - 1 < end = omega (arith, within) in
          let back : (i - 1) + 1 ≡ i = omega arith in
          omega (arith, leb-true (get_or (take end ends) (i - 1) 0) place (point.0 (i - 1) 0 (omega arith) (omega arith)), end_read (i - 1) 0 last, ap (before rules letters) back))
          (cases_lt i 1)

      to : i < end → place < before rules letters (i + 1)
      to lt = omega (arith, leb-false (get_or (take end ends) i 0) place (point.1 i 0 (omega arith) (omega (arith, long))), end_read i 0 lt)

-- the letter at a place of a word
pub letter_between : (rules : List Rule) (letters : Word) (start end place index skip : ℕ) → start ≤ end → place < length (spell_word rules (drop start (take end letters))) → Found rules (take end letters) (before rules letters start + place) index skip → (index < length (take end letters)) × (get_or (spell_word rules (drop start (take end letters))) place 0 ≡ get_or (spell rules (get_or (take end letters) index 0)) skip 0)
letter_between rules letters start end place index skip le lt f =
    let inside = found_inside rules (take end letters) (before rules letters start + place) index skip f (omega (arith, length_between rules letters start end le)) in (
      inside,
      sym (get_or-append-add (spell_word rules (take start letters)) (spell_word rules (drop start (take end letters))) place 0)
          ∙ ap (λ w. get_or w (before rules letters start + place) 0) (sym (word_between rules letters start end le))
          ∙ found_letter rules (take end letters) (before rules letters start + place) index skip f inside,
    )

-- of all letters
pub upto_all : (rules : List Rule) (letters : Word) (n r : ℕ) → n ≡ length letters → r ≡ before rules letters n → r ≡ length (spell_word rules letters)
upto_all rules letters n r long is = is ∙ ap (λ w. length (spell_word rules w)) (take_all n letters (omega arith))

-- the word of a variable that has one
pub stood : (letters : Word) (o : Option Word) (r : Option (Range ℕ)) (span : Range ℕ) → r ≡ Some span → option_map (λ s. cut_out s letters) r ≡ o → IfSome r (λ s. (s.start ≤ s.end) × (s.end ≤ length letters)) → (Some (drop span.start (take span.end letters)) ≡ o) × ((span.start ≤ span.end) × (span.end ≤ length letters))
stood letters o r span is word within = (ap (option_map (λ s. cut_out s letters)) (sym is) ∙ word, subst (λ x. IfSome x (λ s. (s.start ≤ s.end) × (s.end ≤ length letters))) is within)

-- the answers about a word between two places of the letters
module _ (rules : List Rule) (letters : Word) (start end : ℕ) (le : start ≤ end) (o : Option Word) (is : Some (drop start (take end letters)) ≡ o) where
  pub told : option_map (spell_word rules) o ≡ Some (spell_word rules (drop start (take end letters)))
  told = ap (option_map (spell_word rules)) (sym is)

  pub length_answered : (a b : ℕ) → a ≡ before rules letters end → b ≡ before rules letters start → Ok (a - b) ≡ length_answer (option_map (spell_word rules) o)
  length_answered a b to from =
      let n : a - b ≡ length (spell_word rules (drop start (take end letters))) = omega (arith, length_between rules letters start end le) in
      ap Ok n ∙ sym (ap length_answer told)

  pub past_answered : (place a b : ℕ) → a ≡ before rules letters end → b ≡ before rules letters start → a - b ≤ place → (Err PastWord ≡ letter_answer (option_map (spell_word rules) o) place) × (62 ≡ refusal_number (option_map (spell_word rules) o))
  past_answered place a b to from past =
      let w = spell_word rules (drop start (take end letters)) in
      let over : ltb place (length w) ≡ false = le-ltb place (length w) (omega (arith, length_between rules letters start end le)) in
      (sym (ap (λ x. letter_answer x place) told ∙ cond-false (ltb place (length w)) (Ok (get_or w place 0)) (Err PastWord) over), sym (ap refusal_number told))

  pub letter_answered : (place a b index skip letter : ℕ) → a ≡ before rules letters end → b ≡ before rules letters start → place < a - b → Found rules (take end letters) (b + place) index skip → letter ≡ get_or (spell rules (get_or (take end letters) index 0)) skip 0 → Ok letter ≡ letter_answer (option_map (spell_word rules) o) place
  letter_answered place a b index skip letter to from lt f found =
      let w = spell_word rules (drop start (take end letters)) in
      let within : place < length w = omega (arith, length_between rules letters start end le) in
      let under : ltb place (length w) ≡ true = lt-ltb place (length w) within in
      let at = letter_between rules letters start end place index skip le within (subst (λ n. Found rules (take end letters) (n + place) index skip) from f) in
      ap Ok (found ∙ sym at.1) ∙ sym (ap (λ x. letter_answer x place) told ∙ cond-true (ltb place (length w)) (Ok (get_or w place 0)) (Err PastWord) under)

  -- the letter at which the place is found
  pub index_there : (place a b index skip : ℕ) → end ≤ length letters → a ≡ before rules letters end → b ≡ before rules letters start → place < a - b → Found rules (take end letters) (b + place) index skip → index < end
  index_there place a b index skip under to from lt f =
      let within : place < length (spell_word rules (drop start (take end letters))) = omega (arith, length_between rules letters start end le) in
      let inside : index < length (take end letters) = (letter_between rules letters start end place index skip le within (subst (λ n. Found rules (take end letters) (n + place) index skip) from f)).0 in
      omega (arith, length-take-le end letters under)

  pub letter_there : (place index skip letter : ℕ) → end ≤ length letters → all_below (known rules) letters ≡ true → index < end → Found rules (take end letters) place index skip → letter ≡ get_or letters index 0 → (letter ≡ get_or (take end letters) index 0) × ((letter < known rules) × (skip < length (spell rules letter)))
  letter_there place index skip letter under low lt f read =
      let in_letters : index < length letters = omega arith in
      let inside : index < length (take end letters) = omega (arith, length-take-le end letters under) in
      let here : letter ≡ get_or (take end letters) index 0 = read ∙ sym (get_or-take end letters index 0 lt) in
      (here, (omega (arith, below_at (known rules) letters index low in_letters), omega (arith, f.inside inside, ap (λ c. length (spell rules c)) here)))

  pub fill_refused : (from_place a b : ℕ) (old : List ℕ) → a ≡ before rules letters end → b ≡ before rules letters start → a - b < from_place + length old → (Err PastWord ≡ fill_answer (option_map (spell_word rules) o) from_place (length old)) × ((62 ≡ refusal_number (option_map (spell_word rules) o)) × (old ≡ filled (option_map (spell_word rules) o) from_place old))
  fill_refused from_place a b old to from over =
      let w = spell_word rules (drop start (take end letters)) in
      let past : leb (from_place + length old) (length w) ≡ false = lt-leb (from_place + length old) (length w) (omega (arith, length_between rules letters start end le)) in (
        sym (ap (λ x. fill_answer x from_place (length old)) told ∙ cond-false (leb (from_place + length old) (length w)) (Ok tt) (Err PastWord) past),
        (sym (ap refusal_number told), sym (ap (λ x. filled x from_place old) told ∙ cond-false (leb (from_place + length old) (length w)) (as_text (take (length old) (drop from_place w))) old past)),
      )

  pub fill_granted : (from_place a b : ℕ) (prefix old new : List ℕ) (stop : ℕ) → a ≡ before rules letters end → b ≡ before rules letters start → from_place + length old ≤ a - b → prefix ≡ take end letters → length new ≡ length old → Put old 0 (as_text (take (length old) (drop (b + from_place) (spell_word rules prefix)))) new stop → (Ok tt ≡ fill_answer (option_map (spell_word rules) o) from_place (length old)) × (new ≡ filled (option_map (spell_word rules) o) from_place old)
  fill_granted from_place a b prefix old new stop to from fits front same put =
      let w = spell_word rules (drop start (take end letters)) in
      let text : drop (b + from_place) (spell_word rules prefix) ≡ drop from_place w = ap₂ (λ n l. drop (n + from_place) (spell_word rules l)) from front ∙ drop_between rules letters start end from_place le in
      filled_whole (option_map (spell_word rules) o) w from_place old new stop told (omega (arith, length_between rules letters start end le)) same (subst (λ t. Put old 0 (as_text (take (length old) t)) new stop) text put)
