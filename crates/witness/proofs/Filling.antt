-- A buffer that is filled letter by letter with what letters in a row spell. Assumes nothing.
use Rattle.std.proofs.Common.{◌≡◌, ℕ, suc, ◌+◌, ◌-◌, ◌<◌, ◌≤◌, true, leb, ◌⊎◌, List, [], ◌∷◌, ◌++◌, length, get_or, take, drop, set, Some, Ok, Err, Option, sym, ap, ◌∙◌, subst, inl, inr, append_assoc, append-nil, arith}
use lib.Seq.{drop-append-le}
use Rattle.std.proofs.lemmas.List.{drop_all, length-drop, length-map, length-take, length-take-le, map-append, nil_from_length}
use Rattle.std.proofs.lemmas.Bool.{cond-true, le-leb}
use Rattle.model.specs.declared.Rule.{Rule}
use Rattle.model.specs.Buffers.{Put}
use Rattle.model.specs.Spelling.{Word, spell, spell_word, rule_of}
use Rattle.model.specs.Witnesses.{rules_fit}
use Rattle.model.proofs.Buffers.{put_none, put_one, put_then, put_whole}
use Rattle.model.proofs.Spelling.{spell_low}
use Rattle.model.proofs.Fitting.{spell_some}
use Rattle.witness.specs.Answers.{as_text, fill_answer, filled}
use Rattle.witness.specs.Rows.{Found, parts}
use Rattle.witness.specs.declared.refusals.WitnessRefusal.TheVariants.{PastWord}
use Rattle.witness.proofs.Finding.{spell_from, take_both, row_of}

-- from the place `start` on, the letters of w before i are written behind `at`, and those from i on are not, of the first of which `skip` letters are to be left out
pub record Filling (rules : List Rule) (w : Word) (start : ℕ) (old : List ℕ) (at i skip : ℕ) (out : List ℕ) (end : ℕ) : Type 0 where
  pub within : end ≤ length out
  pub done : List ℕ
  pub put : Put old at done out end
  pub left : as_text (take (length old - at) (drop start (spell_word rules w))) ≡ done ++ as_text (take (length out - end) (drop skip (spell_word rules (drop i w))))
  pub inside : i < length w → skip < length (spell rules (get_or w i 0))

pub filling_start : (rules : List Rule) (w : Word) (start : ℕ) (old : List ℕ) (at i skip : ℕ) → at ≤ length old → Found rules w start i skip → Filling rules w start old at i skip old at
filling_start rules w start old at i skip le f = record {
  within = le;
  done = [];
  put = put_none old at;
  left = ap (λ v. as_text (take (length old - at) v)) f.left;
  inside = f.inside;
}

pub filling_more : (rules : List Rule) (w : Word) (start : ℕ) (old : List ℕ) (at i skip : ℕ) (out : List ℕ) (end : ℕ) (new : List ℕ) (end' : ℕ) → rules_fit rules ≡ true → Filling rules w start old at i skip out end → i < length w → length new ≡ length out → Put out end (as_text (take (length out - end) (drop skip (spell rules (get_or w i 0))))) new end' → Filling rules w start old at (i + 1) 0 new end'
filling_more rules w start old at i skip out end new end' fit f lt same put =
    let u = spell rules (get_or w i 0) in
    let v = spell_word rules (drop (i + 1) w) in
    let k = length out - end in
    let part = take k (drop skip u) in
    let long : length (as_text part) ≡ length part = length-map part (λ a. 97 + a) in
    let few : length part ≤ k = omega (arith, length-take k (drop skip u)) in
    let inside : skip < length u = f.inside lt in
    let room : k - length part ≡ length new - end' = omega (arith, put.behind) in
    record {
      within = omega (arith, put.behind, f.within);
      done = f.done ++ as_text part;
      put = put_then f.put put;
      left =
          f.left
          ∙ ap (λ l. f.done ++ as_text (take k l)) (ap (drop skip) (spell_from rules w i lt) ∙ drop-append-le skip u v (omega arith))
          ∙ ap (λ l. f.done ++ as_text l) (take_both k (drop skip u) v ∙ ap (λ n. part ++ take n v) room)
          ∙ ap (λ l. f.done ++ l) (map-append (λ a. 97 + a) part (take (length new - end') v))
          ∙ sym (append_assoc f.done (as_text part) (as_text (take (length new - end') v)));
      inside = λ _. omega (arith, spell_some rules fit (get_or w (i + 1) 0));
    }

nothing_left : (rules : List Rule) (w : Word) (i skip : ℕ) → length w ≤ i → drop skip (spell_word rules (drop i w)) ≡ []
nothing_left rules w i skip le = ap (λ v. drop skip (spell_word rules v)) (drop_all i w le) ∙ drop_all {X = ℕ} skip [] (omega arith)

take_none : {X : Type 0} (n : ℕ) (xs : List X) → n ≡ 0 → take n xs ≡ []
take_none n xs e = ap (λ k. take k xs) e

take_nothing : {X : Type 0} (n : ℕ) (xs : List X) → xs ≡ [] → take n xs ≡ []
take_nothing {X} n xs e = ap (take n) e ∙ nil_from_length (take n []) (omega (arith, length-take {A = X} n []))

pub filling_end : (rules : List Rule) (w : Word) (start : ℕ) (old : List ℕ) (at i skip : ℕ) (out : List ℕ) (end : ℕ) → Filling rules w start old at i skip out end → (length w ≤ i) ⊎ (length out ≤ end) → Put old at (as_text (take (length old - at) (drop start (spell_word rules w)))) out end
filling_end rules w start old at i skip out end f stop =
    subst (λ bs. Put old at bs out end) (sym (f.left ∙ ap (λ l. f.done ++ as_text l) (none stop) ∙ append-nil f.done)) f.put
  where
    none : (length w ≤ i) ⊎ (length out ≤ end) → take (length out - end) (drop skip (spell_word rules (drop i w))) ≡ []
    none (inl le) = take_nothing (length out - end) (drop skip (spell_word rules (drop i w))) (nothing_left rules w i skip le)
    none (inr le) = let full : length out - end ≡ 0 = omega arith in take_none (length out - end) (drop skip (spell_word rules (drop i w))) full

-- what a made letter spells is what its row spells
pub made_filled : (rules : List Rule) (c : ℕ) (rule : Rule) (start : ℕ) (old : List ℕ) (at i skip : ℕ) (out : List ℕ) (end : ℕ) → rules_fit rules ≡ true → rule_of rules c ≡ Some rule → Filling rules (parts rule) start old at i skip out end → (length (parts rule) ≤ i) ⊎ (length out ≤ end) → Put old at (as_text (take (length old - at) (drop start (spell rules c)))) out end
made_filled rules c rule start old at i skip out end fit is f stop =
    subst (λ w. Put old at (as_text (take (length old - at) (drop start w))) out end) (sym (row_of rules c rule fit is).spells) (filling_end rules (parts rule) start old at i skip out end f stop)

-- a letter of a to z is written as one byte
pub basic_filled : (rules : List Rule) (c start : ℕ) (old : List ℕ) (at : ℕ) → c < 26 → start < length (spell rules c) → at < length old → Put old at (as_text (take (length old - at) (drop start (spell rules c)))) (set old at (97 + c)) (at + 1)
basic_filled rules c start old at basic within room =
    let is = spell_low rules c basic in
    let first : start ≡ 0 = omega (arith, ap length is) in
    let some : length old - at ≡ suc (length old - at - 1) = omega arith in
    let text : as_text (take (length old - at) (drop start (spell rules c))) ≡ (97 + c) ∷ [] =
    ap (λ w. as_text (take (length old - at) (drop start w))) is
    ∙ ap (λ k. as_text (take (length old - at) (drop k (c ∷ [])))) first
    ∙ ap (λ k. as_text (take k (c ∷ []))) some
    ∙ ap (λ l. (97 + c) ∷ as_text l) (nil_from_length (take (length old - at - 1) []) (omega (arith, length-take {A = ℕ} (length old - at - 1) []))) in
    subst (λ bs. Put old at bs (set old at (97 + c)) (at + 1)) (sym text) (put_one old at (97 + c) room)

-- a stretch that lies within the word fills the buffer whole
pub filled_whole : (o : Option Word) (w : Word) (start : ℕ) (old new : List ℕ) (end : ℕ) → o ≡ Some w → start + length old ≤ length w → length new ≡ length old → Put old 0 (as_text (take (length old) (drop start w))) new end → (Ok tt ≡ fill_answer o start (length old)) × (new ≡ filled o start old)
filled_whole o w start old new end is within same put =
    let text = as_text (take (length old) (drop start w)) in
    let fits : leb (start + length old) (length w) ≡ true = le-leb (start + length old) (length w) within in
    let long : length text ≡ length old = length-map (take (length old) (drop start w)) (λ a. 97 + a) ∙ length-take-le (length old) (drop start w) (omega (arith, length-drop start w)) in (
      sym (ap (λ x. fill_answer x start (length old)) is ∙ cond-true (leb (start + length old) (length w)) (Ok tt) (Err PastWord) fits),
      put_whole put (omega arith) ∙ sym (ap (λ x. filled x start old) is ∙ cond-true (leb (start + length old) (length w)) text old fits),
    )
