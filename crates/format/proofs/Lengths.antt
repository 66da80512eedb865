-- No listing is longer than 20,000 bytes. Assumes nothing.
use Rattle.std.proofs.Common.{◌≡◌, ℕ, ◌+◌, ◌*◌, ◌^◌, ◌<◌, ◌≤◌, true, ltb, List, [], ◌∷◌, ◌++◌, length, codes, decimal, ap, ◌∙◌, arith, lit<, lit≤, length-append}
use Rattle.std.proofs.lemmas.Fmt.{length-decimal-le}
use Rattle.std.proofs.lemmas.Bool.{and_parts, cond_both}
use Rattle.model.specs.declared.Rule.{Rule}
use Rattle.model.specs.declared.Rule.TheVariants.{Pair, Block}
use Rattle.model.specs.Spelling.{Word, known, spell_word}
use Rattle.model.specs.Witnesses.{Contents, Entry, rule_fits, rules_fit, all_below, letters_in, least, entry_fits, entries_fit}
use Rattle.model.proofs.Fitting.{rules_few}
use Rattle.text.specs.Names.{letter_name}
use Rattle.text.specs.Pieces.{Bytes, between, lines_text}
use Rattle.text.proofs.Cuts.{lines_append}
use Rattle.format.specs.Bounds.{Within}
use Rattle.format.specs.Listing.{letter_names, word_text, rule_line, rule_lines, entry_line, entry_head, entry_lines, listing}
use Rattle.format.specs.Reading.{EveryListingFits}
use Rattle.model.proofs.Entries.{below_parts, entry_after}
use Rattle.format.proofs.Lines.{rule_within, spelled_short}

name_le : (a : ℕ) → a < 1000 → length (letter_name a) ≤ 4
name_le a lt =
    cond_both (ltb a 26) ((97 + a) ∷ []) (35 ∷ decimal a) (λ l. length l ≤ 4) (λ _. lit≤ tt)
    (λ _. let three : length (decimal a) ≤ 3 = length-decimal-le 3 a (lit< tt) (omega arith) (omega arith) in omega arith)

-- a rule's line without its newline
pub rule_length : (name make first last : Bytes) → length (name ++ (make ++ (first ++ 32 ∷ last))) ≡ length name + (length make + (length first + (1 + length last)))
rule_length name make first last =
    omega (arith, length-append name (make ++ (first ++ 32 ∷ last)), length-append make (first ++ 32 ∷ last), length-append first (32 ∷ last))

rule_le : (c : ℕ) (rule : Rule) → c < 1000 → Within c 1000001 rule → length (rule_line c rule) ≤ 23
rule_le c (Pair a b) lt w = omega (arith, rule_length (letter_name c) (codes " pair ") (letter_name a) (letter_name b), name_le c lt, name_le a (omega (arith, w.0)), name_le b (omega (arith, w.1)))
rule_le c (Block a n) lt w =
    let few : n < 1000001 = w.1 in
    let seven : length (decimal n) ≤ 7 = length-decimal-le 7 n (lit< tt) (omega arith) (omega arith) in
    omega (arith, rule_length (letter_name c) (codes " block ") (letter_name a) (decimal n), name_le c lt, name_le a (omega (arith, w.0)))

-- one more line
pub push_length : (ls : List Bytes) (l : Bytes) → length (lines_text (ls ++ (l ∷ []))) ≡ length (lines_text ls) + (length l + 1)
push_length ls l = ap length (lines_append ls (l ∷ [])) ∙ length-append (lines_text ls) (l ++ 10 ∷ []) ∙ omega (arith, length-append l (10 ∷ []))

rules_le : (rules : List Rule) → rules_fit rules ≡ true → length (lines_text (rule_lines rules)) ≤ 24 * length rules
rules_le [] h = lit≤ tt
rules_le (rule ∷ older) h =
    let p = and_parts (rule_fits older rule) (rules_fit older) h in
    let w = rule_within older rule p.0 in
    let few : length older < 512 = w.0 in
    let mine : length (rule_line (known older) rule) ≤ 23 = rule_le (known older) rule (omega arith) w.1 in
    omega (arith, push_length (rule_lines older) (rule_line (known older) rule), rules_le older p.1)

names_le : (n a : ℕ) (w : Word) → n < 1000 → all_below n (a ∷ w) ≡ true → length (between 44 (letter_name a) (letter_names w)) ≤ 5 * length w + 4
names_le n a [] lt h = name_le a (omega (arith, (below_parts n a [] h).0))
names_le n a (b ∷ w) lt h =
    let p = below_parts n a (b ∷ w) h in
    omega (arith, length-append (letter_name a) (44 ∷ between 44 (letter_name b) (letter_names w)), name_le a (omega (arith, p.0)), names_le n b w lt p.1)

word_le : (n : ℕ) (w : Word) → n < 1000 → all_below n w ≡ true → length (word_text w) ≤ 5 * length w + 1
word_le n [] lt h = lit≤ tt
word_le n (a ∷ w) lt h = omega (arith, names_le n a w lt h)

-- an entry's line without its newline
entry_length : (rules : List Rule) (e : Entry) → length (entry_line rules e) ≡ 2 + (length (decimal (length (spell_word rules e.word))) + (1 + length (word_text e.word)))
entry_length rules e = omega (arith, length-append (decimal (length (spell_word rules e.word))) (32 ∷ word_text e.word))

entries_le : (rules : List Rule) (entries : List Entry) → rules_fit rules ≡ true → entries_fit rules entries ≡ true → length (lines_text (entry_lines rules entries)) ≤ 21 * length entries + 5 * letters_in entries
entries_le rules [] hr h = lit≤ tt
entries_le rules (e ∷ older) hr h =
    let p = and_parts (entry_fits rules older e) (entries_fit rules older) h in
    let g = entry_after rules older e p.0 in
    let many : length rules ≤ 512 = rules_few rules hr in
    let short : length (spell_word rules e.word) < 10 ^ 16 = spelled_short rules older e hr g in
    let digits : length (decimal (length (spell_word rules e.word))) ≤ 16 = length-decimal-le 16 (length (spell_word rules e.word)) (lit< tt) short (omega arith) in
    let word : length (word_text e.word) ≤ 5 * length e.word + 1 = word_le (known rules) e.word (omega arith) g.low in
    omega (arith, push_length (entry_lines rules older) (entry_line rules e), entry_length rules e, entries_le rules older hr p.1)

-- there are no more entries than variables
pub entries_few : (rules : List Rule) (entries : List Entry) → entries_fit rules entries ≡ true → (length entries ≤ least entries) × (least entries ≤ 26) × (letters_in entries ≤ 1024)
entries_few rules [] h = (lit≤ tt, lit≤ tt, lit≤ tt)
entries_few rules (e ∷ older) h =
    let p = and_parts (entry_fits rules older e) (entries_fit rules older) h in
    let g = entry_after rules older e p.0 in
    (omega (arith, (entries_few rules older p.1).0, g.rises), g.named, g.few)

-- the two heads, the empty line and the two tables
pub listing_length : (c : Contents) → length (listing c) ≡ 25 + (length (lines_text (rule_lines c.rules)) + (22 + length (lines_text (entry_lines c.rules c.entries))))
listing_length c =
    let tables = ap length (lines_append (rule_lines c.rules) ([] ∷ entry_head ∷ entry_lines c.rules c.entries)) in
    omega (arith, length-append (lines_text (rule_lines c.rules)) (lines_text ([] ∷ entry_head ∷ entry_lines c.rules c.entries)))

pub listing_fits : EveryListingFits
listing_fits c h =
    let p = and_parts (rules_fit c.rules) (entries_fit c.rules c.entries) h in
    let few = entries_few c.rules c.entries p.1 in
    omega (arith, listing_length c, rules_le c.rules p.0, rules_few c.rules p.0, entries_le c.rules c.entries p.0 p.1, few.0, few.1, few.2)
