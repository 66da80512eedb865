-- Each line shows what it brings, and has no newline in it. Assumes nothing.
use Rattle.std.proofs.Common.{◌≡◌, ℕ, ◌+◌, ◌^◌, ◌<◌, ◌≤◌, true, ◌&&◌, List, [], ◌∷◌, ◌++◌, length, get_or, Some, None, codes, decimal, sym, refl, ap, append_assoc, arith, lit<}
use Rattle.std.specs.List.{AllByRecursion}
use Rattle.std.proofs.lemmas.Bool.{and_parts, and_from}
use Rattle.std.proofs.lemmas.Fmt.{decimal_injective}
use Rattle.model.specs.declared.Rule.{Rule}
use Rattle.model.specs.declared.Rule.TheVariants.{Pair, Block}
use Rattle.model.specs.Spelling.{known, spell_word}
use Rattle.model.specs.Witnesses.{Entry, lower, counted, rule_fits, rules_fit, entry_fits, entries_fit, valid}
use Rattle.model.proofs.Entries.{EntryAfter, entry_after}
use Rattle.model.proofs.Fitting.{fits_after, pair_lower, block_lower, block_counted, rules_few, spell_word_short}
use Rattle.text.specs.Names.{letter_name, variable_name}
use Rattle.text.specs.Pieces.{free, Line}
use Rattle.text.proofs.Cuts.{free_cons, free_between, same_between, no_cut}
use Rattle.text.proofs.Names.{free_decimal, free_letter, same_letter}
use Rattle.format.specs.Bounds.{Within}
use Rattle.format.specs.Listing.{row, word_text, rule_fields, rule_line, entry_line, rule_head, entry_head, rule_lines, entry_lines}
use Rattle.format.specs.Steps.{State, Start, Ruling, Gapped, Giving, Move, fits, line, after, contents, written}
use Rattle.format.proofs.Words.{free_word, same_word}

within : (n : ℕ) (rule : Rule) → lower n rule ≡ true → counted rule ≡ true → Within n 1000001 rule
within n (Pair a b) low ranged = pair_lower n a b low
within n (Block a k) low ranged = (block_lower n a k low, omega (arith, (block_counted a k ranged).1))

pub rule_within : (older : List Rule) (rule : Rule) → rule_fits older rule ≡ true → (length older < 512) × Within (known older) 1000001 rule
rule_within older rule h = let f = fits_after older rule h in (f.few, within (known older) rule f.low f.ranged)

make_free : (b : ℕ) → b < 35 → (free b (codes "pair") ≡ true) × (free b (codes "block") ≡ true)
make_free b low = (
  free_cons b 112 (codes "air") (λ e. omega arith) (free_cons b 97 (codes "ir") (λ e. omega arith) (free_cons b 105 (codes "r") (λ e. omega arith) (free_cons b 114 [] (λ e. omega arith) refl))),
  free_cons b 98 (codes "lock") (λ e. omega arith) (free_cons b 108 (codes "ock") (λ e. omega arith) (free_cons b 111 (codes "ck") (λ e. omega arith) (free_cons b 99 (codes "k") (λ e. omega arith) (free_cons b 107 [] (λ e. omega arith) refl)))),
)

-- letters below n and counts below m fit 64 bits
free_fields : (b n m : ℕ) (rule : Rule) → b < 35 → n ≤ 2 ^ 64 → m ≤ 2 ^ 64 → Within n m rule → AllByRecursion (λ l. free b l ≡ true) (rule_fields rule)
free_fields b n m (Pair x y) low few less w = (
  (make_free b low).0,
  (free_letter b x (omega arith) (λ e. omega arith) (omega (arith, w.0)), (free_letter b y (omega arith) (λ e. omega arith) (omega (arith, w.1)), tt)),
)
free_fields b n m (Block x k) low few less w = (
  (make_free b low).1,
  (free_letter b x (omega arith) (λ e. omega arith) (omega (arith, w.0)), (free_decimal b k (omega arith) (omega (arith, w.1)), tt)),
)

same_fields : (n m : ℕ) (r q : Rule) → n ≤ 2 ^ 64 → m ≤ 2 ^ 64 → Within n m r → Within n m q → rule_fields r ≡ rule_fields q → r ≡ q
same_fields n m (Pair x y) (Pair v w) few less p s e =
    let one : x ≡ v = same_letter x v (omega (arith, p.0)) (omega (arith, s.0)) (ap (λ ls. get_or ls 1 []) e) in
    let two : y ≡ w = same_letter y w (omega (arith, p.1)) (omega (arith, s.1)) (ap (λ ls. get_or ls 2 []) e) in
    cc
same_fields n m (Pair x y) (Block v k) few less p s e = absurd (let z : ◌≡◌ {A = ℕ} 112 98 = ap (λ ls. get_or (get_or ls 0 []) 0 0) e in omega arith)
same_fields n m (Block x j) (Pair v w) few less p s e = absurd (let z : ◌≡◌ {A = ℕ} 98 112 = ap (λ ls. get_or (get_or ls 0 []) 0 0) e in omega arith)
same_fields n m (Block x j) (Block v k) few less p s e =
    let one : x ≡ v = same_letter x v (omega (arith, p.0)) (omega (arith, s.0)) (ap (λ ls. get_or ls 1 []) e) in
    let two : j ≡ k = decimal_injective j k (omega (arith, p.1)) (omega (arith, s.1)) (ap (λ ls. get_or ls 2 []) e) in
    cc

rule_plain : (older : List Rule) (rule : Rule) → rule_fits older rule ≡ true → Line (rule_line (known older) rule)
rule_plain older rule h =
    let w = rule_within older rule h in
    let few : length older < 512 = w.0 in
    free_between 10 32 (letter_name (known older)) (rule_fields rule) (λ e. omega arith) (free_letter 10 (known older) (lit< tt) (λ e. omega arith) (omega arith)) (free_fields 10 (known older) 1000001 rule (lit< tt) (omega arith) (omega arith) w.1)

-- a rule's line shows the letter that it makes, and the rule
pub same_rule_line : (n m c d : ℕ) (r q : Rule) → n ≤ 2 ^ 64 → m ≤ 2 ^ 64 → c < 2 ^ 64 → d < 2 ^ 64 → Within n m r → Within n m q → rule_line c r ≡ rule_line d q → (c ≡ d) × (r ≡ q)
same_rule_line n m c d r q few less fc fd hr hq e =
    let both = same_between 32 (letter_name c) (letter_name d) (rule_fields r) (rule_fields q) (free_letter 32 c (lit< tt) (λ e. omega arith) fc) (free_letter 32 d (lit< tt) (λ e. omega arith) fd) (free_fields 32 n m r (lit< tt) few less hr) (free_fields 32 n m q (lit< tt) few less hq) e in
    (same_letter c d fc fd both.0, same_fields n m r q few less hr hq both.1)

rule_same : (older : List Rule) (r q : Rule) → rule_fits older r ≡ true → rule_fits older q ≡ true → rule_line (known older) r ≡ rule_line (known older) q → r ≡ q
rule_same older r q hr hq e =
    let w = rule_within older r hr in
    let few : length older < 512 = w.0 in
    (same_rule_line (known older) 1000001 (known older) (known older) r q (omega arith) (omega arith) (omega arith) (omega arith) w.1 (rule_within older q hq).1 e).1

-- a rule's line is not empty
rule_some : (c : ℕ) (rule : Rule) → [] ≡ rule_line c rule → ⊥
rule_some c (Pair x y) e = no_cut 32 [] (letter_name c) (row (codes "pair") (letter_name x ∷ letter_name y ∷ [])) refl e
rule_some c (Block x n) e = no_cut 32 [] (letter_name c) (row (codes "block") (letter_name x ∷ decimal n ∷ [])) refl e

-- a word spells fewer than 10^16 letters
pub spelled_short : (rules : List Rule) (older : List Entry) (e : Entry) → rules_fit rules ≡ true → EntryAfter rules older e → length (spell_word rules e.word) < 10 ^ 16
spelled_short rules older e hr g = omega (arith, spell_word_short rules e.word hr, g.few)

free_entry : (b : ℕ) (rules : List Rule) (older : List Entry) (e : Entry) → b < 35 → rules_fit rules ≡ true → EntryAfter rules older e → (free b (variable_name e.variable) ≡ true) × AllByRecursion (λ l. free b l ≡ true) (decimal (length (spell_word rules e.word)) ∷ word_text e.word ∷ [])
free_entry b rules older e low hr g =
    let few : length rules ≤ 512 = rules_few rules hr in
    let short : length (spell_word rules e.word) < 10 ^ 16 = spelled_short rules older e hr g in (
      free_cons b (65 + e.variable) [] (λ x. omega arith) refl,
      (
        free_decimal b (length (spell_word rules e.word)) (omega arith) (omega arith),
        (free_word b (known rules) e.word (omega arith) (λ x. omega arith) (omega arith) g.low, tt),
      ),
    )

entry_plain : (rules : List Rule) (older : List Entry) (e : Entry) → rules_fit rules ≡ true → entry_fits rules older e ≡ true → Line (entry_line rules e)
entry_plain rules older e hr he =
    let f = free_entry 10 rules older e (lit< tt) hr (entry_after rules older e he) in
    free_between 10 32 (variable_name e.variable) (decimal (length (spell_word rules e.word)) ∷ word_text e.word ∷ []) (λ x. omega arith) f.0 f.1

same_entry : (e f : Entry) → e.variable ≡ f.variable → e.word ≡ f.word → e ≡ f
same_entry e f p q i = record { variable = p i; word = q i }

entry_same : (rules : List Rule) (older : List Entry) (e f : Entry) → rules_fit rules ≡ true → entry_fits rules older e ≡ true → entry_fits rules older f ≡ true → entry_line rules e ≡ entry_line rules f → e ≡ f
entry_same rules older e f hr he hf eq =
    let few : length rules ≤ 512 = rules_few rules hr in
    let ge = entry_after rules older e he in
    let gf = entry_after rules older f hf in
    let fe = free_entry 32 rules older e (lit< tt) hr ge in
    let ff = free_entry 32 rules older f (lit< tt) hr gf in
    let both = same_between 32 (variable_name e.variable) (variable_name f.variable) (decimal (length (spell_word rules e.word)) ∷ word_text e.word ∷ []) (decimal (length (spell_word rules f.word)) ∷ word_text f.word ∷ []) fe.0 ff.0 fe.1 ff.1 eq in
    let v : 65 + e.variable ≡ 65 + f.variable = ap (λ l. get_or l 0 0) both.0 in
    let w : word_text e.word ≡ word_text f.word = ap (λ ls. get_or ls 1 []) both.1 in
    same_entry e f (omega arith) (same_word (known rules) e.word f.word (omega arith) ge.low gf.low w)

rules_of : (rules : List Rule) (entries : List Entry) → valid (record { rules = rules; entries = entries }) ≡ true → rules_fit rules ≡ true
rules_of rules entries h = (and_parts (rules_fit rules) (entries_fit rules entries) h).0

-- the four facts of a step
pub valid_after : (s : State) (m : Move s) → valid (contents s) ≡ true → fits s m ≡ true → valid (contents (after s m)) ≡ true
valid_after Start m hs hm = refl
valid_after (Ruling rules) None hs hm = hs
valid_after (Ruling rules) (Some rule) hs hm = and_from (rules_fit (rule ∷ rules)) true (and_from (rule_fits rules rule) (rules_fit rules) hm (rules_of rules [] hs)) refl
valid_after (Gapped rules) m hs hm = hs
valid_after (Giving rules entries) e hs hm =
    let p = and_parts (rules_fit rules) (entries_fit rules entries) hs in
    and_from (rules_fit rules) (entry_fits rules entries e && entries_fit rules entries) p.0 (and_from (entry_fits rules entries e) (entries_fit rules entries) hm p.1)

pub written_after : (s : State) (m : Move s) → written (after s m) ≡ written s ++ (line s m ∷ [])
written_after Start m = refl
written_after (Ruling rules) None = refl
written_after (Ruling rules) (Some rule) = refl
written_after (Gapped rules) m = sym (append_assoc (rule_head ∷ rule_lines rules) ([] ∷ []) (entry_head ∷ []))
written_after (Giving rules entries) e = sym (append_assoc (rule_head ∷ rule_lines rules) ([] ∷ entry_head ∷ entry_lines rules entries) (entry_line rules e ∷ []))

pub line_plain : (s : State) (m : Move s) → valid (contents s) ≡ true → fits s m ≡ true → Line (line s m)
line_plain Start m hs hm = refl
line_plain (Ruling rules) None hs hm = refl
line_plain (Ruling rules) (Some rule) hs hm = rule_plain rules rule hm
line_plain (Gapped rules) m hs hm = refl
line_plain (Giving rules entries) e hs hm = entry_plain rules entries e (rules_of rules entries hs) hm

pub line_same : (s : State) (m n : Move s) → valid (contents s) ≡ true → fits s m ≡ true → fits s n ≡ true → line s m ≡ line s n → m ≡ n
line_same Start m n hs hm hn e = refl
line_same (Ruling rules) None None hs hm hn e = refl
line_same (Ruling rules) None (Some q) hs hm hn e = absurd (rule_some (known rules) q e)
line_same (Ruling rules) (Some r) None hs hm hn e = absurd (rule_some (known rules) r (sym e))
line_same (Ruling rules) (Some r) (Some q) hs hm hn e = ap Some (rule_same rules r q hm hn e)
line_same (Gapped rules) m n hs hm hn e = refl
line_same (Giving rules entries) e f hs hm hn eq = entry_same rules entries e f (rules_of rules entries hs) hm hn eq
