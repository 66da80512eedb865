-- The lines of the variables below a bound. Assumes nothing.
use Rattle.std.proofs.Common.{◌≡◌, ℕ, ◌+◌, ◌<◌, ◌≤◌, true, eqb, ltb, List, [], ◌∷◌, ◌++◌, length, Some, None, Ok, codes, decimal, Option, sym, refl, ap, ◌∙◌, ⊎_elim, append-nil, arith, length-append}
use Rattle.std.specs.Option.{option_map}
use Rattle.std.proofs.lemmas.Bool.{and_parts, cond-true, cond-false, cond_both, cases_lt, cases_eq, eq-eqb, ne_eqb, lt-ltb, le-ltb}
use Rattle.model.specs.declared.Rule.{Rule}
use Rattle.model.specs.Spelling.{Word, spell_word}
use Rattle.model.specs.Witnesses.{Contents, Entry, entry_fits, entries_fit, least, spelled, word_of}
use Rattle.text.specs.Names.{variable_name}
use Rattle.text.specs.Pieces.{Bytes, lines_text}
use Rattle.text.proofs.Cuts.{lines_append}
use Rattle.format.specs.Listing.{entry_line, entry_lines, word_text}
use Rattle.format.proofs.Lengths.{push_length}
use Rattle.model.proofs.Entries.{entry_after}
use Rattle.witness.specs.Answers.{length_answer}
use Rattle.listing.specs.Tables.{entry_of, line_of, variable_text, below}
use Rattle.listing.proofs.Texts.{entry_text}

-- an entry that fits is above the older ones
newest : (rules : List Rule) (e : Entry) (older : List Entry) → entries_fit rules (e ∷ older) ≡ true → (least older ≤ e.variable) × (entries_fit rules older ≡ true)
newest rules e older h = let p = and_parts (entry_fits rules older e) (entries_fit rules older) h in ((entry_after rules older e p.0).rises, p.1)

-- a variable above all has no word
no_word : (rules : List Rule) (entries : List Entry) (n : ℕ) → entries_fit rules entries ≡ true → least entries ≤ n → word_of entries n ≡ None
no_word rules [] n h le = refl
no_word rules (e ∷ older) n h le =
    let p = newest rules e older h in
    cond-false (eqb n e.variable) (Some e.word) (word_of older n) (ne_eqb n e.variable (λ x. omega arith)) ∙ no_word rules older n p.1 (omega (arith, p.0))

pub below_all : (entries : List Entry) (n : ℕ) → least entries ≤ n → below n entries ≡ entries
below_all [] n le = refl
below_all (e ∷ older) n le = cond-true (ltb e.variable n) (e ∷ older) (below n older) (lt-ltb e.variable n (omega arith))

above : (e : Entry) (older : List Entry) (n : ℕ) → n ≤ e.variable → below n (e ∷ older) ≡ below n older
above e older n le = cond-false (ltb e.variable n) (e ∷ older) (below n older) (le-ltb e.variable n le)

pub below_none : (entries : List Entry) → below 0 entries ≡ []
below_none [] = refl
below_none (e ∷ older) = above e older 0 (omega arith) ∙ below_none older

-- one more variable
abbrev onto : ℕ → Option Word → List Entry → List Entry
onto n None entries = entries
onto n (Some w) entries = entry_of n w ∷ entries

below_more : (rules : List Rule) (entries : List Entry) (n : ℕ) → entries_fit rules entries ≡ true → below (n + 1) entries ≡ onto n (word_of entries n) (below n entries)
below_more rules [] n h = refl
below_more rules (e ∷ older) n h =
    let p = newest rules e older h in
    ⊎_elim
    (λ (lt : e.variable < n).
    below_all (e ∷ older) (n + 1) (omega arith) ∙ sym (ap (λ o. onto n o (below n (e ∷ older))) (no_word rules (e ∷ older) n h (omega arith)) ∙ below_all (e ∷ older) n (omega arith)))
    (λ (ge : n ≤ e.variable). ⊎_elim
    (λ (is : n ≡ e.variable).
    let found : word_of (e ∷ older) n ≡ Some e.word = cond-true (eqb n e.variable) (Some e.word) (word_of older n) (eq-eqb n e.variable is) in
    let rest : below n (e ∷ older) ≡ older = above e older n ge ∙ below_all older n (omega (arith, p.0)) in
    below_all (e ∷ older) (n + 1) (omega arith) ∙ (λ i. record { variable = sym is i; word = e.word } ∷ sym rest i) ∙ sym (ap (λ o. onto n o (below n (e ∷ older))) found))
    (λ (ne : n ≡ e.variable → ⊥).
    let past : word_of (e ∷ older) n ≡ word_of older n = cond-false (eqb n e.variable) (Some e.word) (word_of older n) (ne_eqb n e.variable ne) in
    above e older (n + 1) (omega arith) ∙ below_more rules older n p.1 ∙ (λ i. onto n (sym past i) (sym (above e older n ge) i)))
    (cases_eq n e.variable))
    (cases_lt e.variable n)

-- the lines of the variables below n
abbrev pub table : Contents → ℕ → Bytes
table c n = lines_text (entry_lines c.rules (below n c.entries))

onto_text : (c : Contents) (n : ℕ) (o : Option Word) (entries : List Entry) → lines_text (entry_lines c.rules (onto n o entries)) ≡ lines_text (entry_lines c.rules entries) ++ line_of c n o
onto_text c n None entries = sym (append-nil (lines_text (entry_lines c.rules entries)))
onto_text c n (Some w) entries = lines_append (entry_lines c.rules entries) (entry_line c.rules (entry_of n w) ∷ [])

pub table_more : (c : Contents) (n : ℕ) → entries_fit c.rules c.entries ≡ true → table c (n + 1) ≡ table c n ++ line_of c n (word_of c.entries n)
table_more c n h = ap (λ es. lines_text (entry_lines c.rules es)) (below_more c.rules c.entries n h) ∙ onto_text c n (word_of c.entries n) (below n c.entries)

below_room : (rules : List Rule) (entries : List Entry) (n : ℕ) → length (lines_text (entry_lines rules (below n entries))) ≤ length (lines_text (entry_lines rules entries))
below_room rules [] n = omega arith
below_room rules (e ∷ older) n =
    cond_both (ltb e.variable n) (e ∷ older) (below n older) (λ es. length (lines_text (entry_lines rules es)) ≤ length (lines_text (entry_lines rules (e ∷ older))))
    (λ _. omega arith)
    (λ _. omega (arith, below_room rules older n, push_length (entry_lines rules older) (entry_line rules e)))

-- there is room for the line of each variable
pub table_fits : (c : Contents) (n : ℕ) → entries_fit c.rules c.entries ≡ true → length (table c n) + length (variable_text c n) ≤ length (lines_text (entry_lines c.rules c.entries))
table_fits c n h = omega (arith, below_room c.rules c.entries (n + 1), ap length (table_more c n h), length-append (table c n) (variable_text c n))

-- the line of a variable whose word and length are known
pub found_text : (c : Contents) (x : ℕ) (w : Word) (n : ℕ) → Some w ≡ word_of c.entries x → Ok n ≡ length_answer (spelled c x) → variable_name x ++ (codes " " ++ (decimal n ++ (codes " " ++ (word_text w ++ 10 ∷ [])))) ≡ variable_text c x
found_text c x w n e f =
    let is : Ok n ≡ length_answer (Some (spell_word c.rules w)) = f ∙ ap (λ o. length_answer (option_map (spell_word c.rules) o)) (sym e) in
    let same : n ≡ length (spell_word c.rules w) = cc in
    ap (λ k. variable_name x ++ (codes " " ++ (decimal k ++ (codes " " ++ (word_text w ++ 10 ∷ []))))) same ∙ entry_text c.rules x w ∙ ap (line_of c x) e
