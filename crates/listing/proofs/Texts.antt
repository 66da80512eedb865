-- The lines of a listing, part by part as they are printed. Assumes nothing.
use Rattle.std.proofs.Common.{◌≡◌, ℕ, ◌+◌, ◌<◌, ◌≤◌, List, [], ◌∷◌, ◌++◌, reverse, length, get_or, take, drop, codes, decimal, sym, refl, ap, ◌∙◌, subst, append_assoc, append-nil, arith, length-append}
use Rattle.std.proofs.lemmas.List.{take_more, take-append-drop, reverse-append, length-reverse, length-take-le}
use Rattle.model.specs.declared.Rule.{Rule}
use Rattle.model.specs.Spelling.{Word, known, spell_word}
use Rattle.model.specs.Witnesses.{Contents}
use Rattle.text.specs.Names.{letter_name, variable_name}
use Rattle.text.specs.Pieces.{Bytes, lines_text}
use Rattle.text.proofs.Cuts.{lines_append}
use Rattle.format.specs.Listing.{word_text, rule_line, rule_lines, rule_head, entry_line, entry_head, entry_lines, listing}
use Rattle.format.proofs.Lengths.{push_length}
use Rattle.listing.specs.Tables.{entry_of}
use Rattle.listing.specs.Words.{names_after}

pub entry_text : (rules : List Rule) (x : ℕ) (w : Word) → variable_name x ++ (codes " " ++ (decimal (length (spell_word rules w)) ++ (codes " " ++ (word_text w ++ 10 ∷ [])))) ≡ entry_line rules (entry_of x w) ++ 10 ∷ []
entry_text rules x w = ap (λ t. (65 + x) ∷ 32 ∷ t) (sym (append_assoc (decimal (length (spell_word rules w))) (32 ∷ word_text w) (10 ∷ [])))

pub listing_text : (c : Contents) → (rule_head ++ 10 ∷ []) ++ (lines_text (rule_lines c.rules) ++ ((10 ∷ (entry_head ++ 10 ∷ [])) ++ lines_text (entry_lines c.rules c.entries))) ≡ listing c
listing_text c = ap (λ t. rule_head ++ 10 ∷ t) (sym (lines_append (rule_lines c.rules) ([] ∷ entry_head ∷ entry_lines c.rules c.entries)))

-- the lines of the first i rules, where the oldest is the first
abbrev pub front : List Rule → ℕ → Bytes
front rules i = lines_text (rule_lines (reverse (take i rules)))

pub front_more : (rules : List Rule) (i : ℕ) (d : Rule) → i < length rules → front rules (i + 1) ≡ front rules i ++ (rule_line (26 + i) (get_or rules i d) ++ 10 ∷ [])
front_more rules i d lt =
    let older = reverse (take i rules) in
    let long : length older ≡ i = length-reverse (take i rules) ∙ length-take-le i rules (omega arith) in
    let more : reverse (take (i + 1) rules) ≡ get_or rules i d ∷ older = ap reverse (take_more rules i d lt) ∙ reverse-append (take i rules) (get_or rules i d ∷ []) in
    ap (λ l. lines_text (rule_lines l)) more
    ∙ lines_append (rule_lines older) (rule_line (known older) (get_or rules i d) ∷ [])
    ∙ ap (λ n. front rules i ++ (rule_line (26 + n) (get_or rules i d) ++ 10 ∷ [])) long

older_room : (newer older : List Rule) → length (lines_text (rule_lines older)) ≤ length (lines_text (rule_lines (newer ++ older)))
older_room [] older = omega arith
older_room (rule ∷ newer) older = omega (arith, older_room newer older, push_length (rule_lines (newer ++ older)) (rule_line (known (newer ++ older)) rule))

front_room : (rules : List Rule) (i : ℕ) → length (front rules i) ≤ length (lines_text (rule_lines (reverse rules)))
front_room rules i =
    let is : reverse (drop i rules) ++ reverse (take i rules) ≡ reverse rules = sym (reverse-append (take i rules) (drop i rules)) ∙ ap reverse (take-append-drop i rules) in
    subst (λ l. length (front rules i) ≤ length (lines_text (rule_lines l))) is (older_room (reverse (drop i rules)) (reverse (take i rules)))

-- there is room for the line of each rule
pub front_fits : (rules : List Rule) (i : ℕ) (d : Rule) → i < length rules → length (front rules i) + (length (rule_line (26 + i) (get_or rules i d)) + 1) ≤ length (lines_text (rule_lines (reverse rules)))
front_fits rules i d lt =
    let line = rule_line (26 + i) (get_or rules i d) in
    omega (arith, front_room rules (i + 1), ap length (front_more rules i d lt), length-append (front rules i) (line ++ 10 ∷ []), length-append line (10 ∷ []))

-- the letters with commas before them
after_append : (v w : Word) → names_after (v ++ w) ≡ names_after v ++ names_after w
after_append [] w = refl
after_append (a ∷ v) w = ap (λ t. (44 ∷ letter_name a) ++ t) (after_append v w) ∙ sym (append_assoc (44 ∷ letter_name a) (names_after v) (names_after w))

pub after_more : (w : Word) (i : ℕ) → i < length w → names_after (take (i + 1) w) ≡ names_after (take i w) ++ (44 ∷ letter_name (get_or w i 0))
after_more w i lt = ap names_after (take_more w i 0 lt) ∙ after_append (take i w) (get_or w i 0 ∷ []) ∙ ap (λ t. names_after (take i w) ++ t) (append-nil (44 ∷ letter_name (get_or w i 0)))

after_room : (w : Word) (i : ℕ) → length (names_after (take i w)) ≤ length (names_after w)
after_room w i = omega (arith, ap length (ap names_after (sym (take-append-drop i w)) ∙ after_append (take i w) (drop i w)), length-append (names_after (take i w)) (names_after (drop i w)))

-- there is room for each letter
pub after_fits : (w : Word) (i : ℕ) → i < length w → length (names_after (take i w)) + (1 + length (letter_name (get_or w i 0))) ≤ length (names_after w)
after_fits w i lt = omega (arith, after_room w (i + 1), ap length (after_more w i lt), length-append (names_after (take i w)) (44 ∷ letter_name (get_or w i 0)))

pub word_after : (a : ℕ) (w : Word) → letter_name a ++ names_after w ≡ word_text (a ∷ w)
word_after a [] = append-nil (letter_name a)
word_after a (b ∷ w) = ap (λ t. letter_name a ++ 44 ∷ t) (word_after b w)
