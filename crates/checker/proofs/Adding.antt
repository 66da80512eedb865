-- A witness gets rules, letters and words one by one. Assumes nothing.
use Rattle.std.proofs.Common.{◌≡◌, ℕ, zero, suc, ◌+◌, ◌-◌, ◌<◌, ◌≤◌, Bool, true, false, ltb, leb, List, [], ◌∷◌, ◌++◌, reverse, length, get_or, take, drop, Some, None, Ok, Err, Option, Result, sym, refl, ap, ◌∙◌, subst, append_assoc, append-nil, add-one, arith, length-append, take-append-drop, length-take, IsOk, MatchResult}
use Rattle.std.proofs.lemmas.List.{take_more, reverse-append}
use Rattle.std.proofs.lemmas.Bool.{and_parts, cond_both, cond-true, cond-false, le-ltb, lt-leb}
use Rattle.model.specs.declared.Rule.{Rule}
use Rattle.model.specs.declared.RuleRefusal.{RuleRefusal}
use Rattle.model.specs.Spelling.{Word, known}
use Rattle.model.specs.Witnesses.{Contents, Entry, all_below, entries_fit, entry_fits, least, letters_in, rule_refusal, rules_fit}
use Rattle.model.proofs.Entries.{below_at, entry_after}
use Rattle.model.proofs.Fitting.{fits_taken, newest_fits}
use Rattle.measure.proofs.Filling.{stored_more}
use Rattle.systems.specs.Standings.{Standing}
use Rattle.guarantee.specs.Closing.{entries, entry}
use Rattle.witness.specs.declared.refusals.LetterRefusal.{LetterRefusal}
use Rattle.witness.specs.declared.refusals.WordRefusal.{WordRefusal}
use Rattle.witness.specs.Answers.{lengthened, letter_refusal, with_letter, with_rule, with_word, word_refusal}
use Rattle.checker.specs.Popped.{lengthened_by, with_entries}

-- a call that nothing refuses is taken
is_taken : {A E : Type 0} (r : Result A E) (why : Option E) (P : Type 0) (Q : E → Type 0) → why ≡ None → MatchResult r (λ _. (why ≡ None) × P) (λ e. (why ≡ Some e) × Q e) → P
is_taken (Ok x) why P Q none h = h.1
is_taken (Err e) why P Q none h = let is = h.0 in let z : ◌≡◌ {A = ℕ} 0 1 = cc in absurd (omega arith)

pub ok_taken : {A E : Type 0} (r : Result A E) (why : Option E) (P : Type 0) (Q : E → Type 0) → why ≡ None → MatchResult r (λ _. (why ≡ None) × P) (λ e. (why ≡ Some e) × Q e) → IsOk r
ok_taken (Ok x) why P Q none h = refl
ok_taken (Err e) why P Q none h = let is = h.0 in let z : ◌≡◌ {A = ℕ} 0 1 = cc in absurd (omega arith)

-- the older ones of rules that fit
older_fit : (later older : List Rule) → rules_fit (later ++ older) ≡ true → rules_fit older ≡ true
older_fit [] older h = h
older_fit (rule ∷ later) older h = older_fit later older (newest_fits rule (later ++ older) h).1

front_fits : (stored : List Rule) (i : ℕ) → rules_fit (reverse stored) ≡ true → rules_fit (reverse (take i stored)) ≡ true
front_fits stored i h =
    let parts : reverse stored ≡ reverse (drop i stored) ++ reverse (take i stored) = ap reverse (sym (take-append-drop i stored)) ∙ reverse-append (take i stored) (drop i stored) in
    older_fit (reverse (drop i stored)) (reverse (take i stored)) (ap rules_fit (sym parts) ∙ h)

-- one rule more
pub rule_free : (rules : List Rule) (i : ℕ) (d : Rule) (c : Contents) → i < length rules → rules_fit (reverse rules) ≡ true → c ≡ record { rules = reverse (take i rules); entries = [] } → rule_refusal c.rules (get_or rules i d) ≡ None
rule_free rules i d c lt fit is =
    let rule : Rule = get_or rules i d in
    let older : List Rule = reverse (take i rules) in
    let newest : rules_fit (rule ∷ older) ≡ true = ap rules_fit (sym (stored_more rules i d lt)) ∙ front_fits rules (i + 1) fit in
    ap (λ k. rule_refusal k.rules rule) is ∙ fits_taken older rule (newest_fits rule older newest).0

pub rule_turn : {A : Type 0} (rules : List Rule) (i : ℕ) (d : Rule) (c c' : Contents) (r : Result A RuleRefusal) → i < length rules → rules_fit (reverse rules) ≡ true → c ≡ record { rules = reverse (take i rules); entries = [] } →
    MatchResult r (λ _. (rule_refusal c.rules (get_or rules i d) ≡ None) × (c' ≡ with_rule (get_or rules i d) c)) (λ e. (rule_refusal c.rules (get_or rules i d) ≡ Some e) × (c' ≡ c)) → c' ≡ record { rules = reverse (take (i + 1) rules); entries = [] }
rule_turn rules i d c c' r lt fit is done =
    let rule : Rule = get_or rules i d in
    is_taken r (rule_refusal c.rules rule) (c' ≡ with_rule rule c) (λ _. c' ≡ c) (rule_free rules i d c lt fit is) done ∙ ap (with_rule rule) is ∙ ap (λ rs. record { rules = rs; entries = [] }) (sym (stored_more rules i d lt))

-- one letter more at the newest word

as_many : (w : Word) (es : List Entry) → length (lengthened_by w es) ≡ length es
as_many w [] = refl
as_many w (e ∷ older) = refl

more_letters : (w : Word) (es : List Entry) → 0 < length es → letters_in (lengthened_by w es) ≡ letters_in es + length w
more_letters w [] some = absurd (omega arith)
more_letters w (e ∷ older) some = omega (arith, length-append e.word w)

push_on : (w : Word) (a : ℕ) (es : List Entry) → lengthened a (lengthened_by w es) ≡ lengthened_by (w ++ (a ∷ [])) es
push_on w a [] = refl
push_on w a (e ∷ older) = ap (λ v. record { variable = e.variable; word = v } ∷ older) (append_assoc e.word w (a ∷ []))

pub none_yet : (es : List Entry) → lengthened_by [] es ≡ es
none_yet [] = refl
none_yet (e ∷ older) = ap (λ v. record { variable = e.variable; word = v } ∷ older) (append-nil e.word)

not_refused : (c : Contents) (a : ℕ) → 0 < length c.entries → a < known c.rules → letters_in c.entries < 1024 → letter_refusal c a ≡ None
not_refused c a some low room =
    cond-false (leb (length c.entries) 0) _ _ (lt-leb (length c.entries) 0 some) ∙ cond-false (leb (known c.rules) a) _ _ (lt-leb (known c.rules) a low) ∙ cond-false (leb 1024 (letters_in c.entries)) _ _ (lt-leb 1024 (letters_in c.entries) room)

pub letter_free : (c₀ c : Contents) (word : Word) (i : ℕ) → i < length word → 0 < length c₀.entries → all_below (known c₀.rules) word ≡ true → length word + letters_in c₀.entries ≤ 1024 →
    c ≡ with_entries c₀ (lengthened_by (take i word) c₀.entries) → letter_refusal c (get_or word i 0) ≡ None
letter_free c₀ c word i lt some below room is =
    let a : ℕ = get_or word i 0 in
    let es : List Entry = lengthened_by (take i word) c₀.entries in
    let started : 0 < length es = omega (arith, as_many (take i word) c₀.entries) in
    let few : letters_in es < 1024 = omega (arith, more_letters (take i word) c₀.entries some, length-take i word) in
    ap (λ k. letter_refusal k a) is ∙ not_refused (with_entries c₀ es) a started (below_at (known c₀.rules) word i below lt) few

pub letter_turn : {A : Type 0} (c₀ c c' : Contents) (word : Word) (i : ℕ) (r : Result A LetterRefusal) → i < length word → 0 < length c₀.entries → all_below (known c₀.rules) word ≡ true → length word + letters_in c₀.entries ≤ 1024 →
    c ≡ with_entries c₀ (lengthened_by (take i word) c₀.entries) →
    MatchResult r (λ _. (letter_refusal c (get_or word i 0) ≡ None) × (c' ≡ with_letter (get_or word i 0) c)) (λ e. (letter_refusal c (get_or word i 0) ≡ Some e) × (c' ≡ c)) →
    c' ≡ with_entries c₀ (lengthened_by (take (i + 1) word) c₀.entries)
letter_turn c₀ c c' word i r lt some below room is done =
    let a : ℕ = get_or word i 0 in
    is_taken r (letter_refusal c a) (c' ≡ with_letter a c) (λ _. c' ≡ c) (letter_free c₀ c word i lt some below room is) done ∙ ap (with_letter a) is
    ∙ ap (with_entries c₀) (push_on (take i word) a c₀.entries ∙ ap (λ w. lengthened_by w c₀.entries) (sym (take_more word i 0 lt)))

-- a word is started, where its entry fits
pub word_free : (c : Contents) (e : Entry) → entry_fits c.rules c.entries e ≡ true → word_refusal c e.variable ≡ None
word_free c e fits =
    let h = entry_after c.rules c.entries e fits in
    cond-false (leb 26 e.variable) _ _ (lt-leb 26 e.variable h.named) ∙ cond-false (ltb e.variable (least c.entries)) _ _ (le-ltb e.variable (least c.entries) h.rises)

pub word_starts : {A : Type 0} (c c' : Contents) (e : Entry) (r : Result A WordRefusal) → entry_fits c.rules c.entries e ≡ true →
    MatchResult r (λ _. (word_refusal c e.variable ≡ None) × (c' ≡ with_word e.variable c)) (λ why. (word_refusal c e.variable ≡ Some why) × (c' ≡ c)) → c' ≡ with_word e.variable c
word_starts c c' e r fits done = is_taken r (word_refusal c e.variable) (c' ≡ with_word e.variable c) (λ _. c' ≡ c) (word_free c e fits) done

-- of entries that fit, each does
module _ (system : ℕ → Bool) (S : Standing) (rules : List Rule) where
  fit_below : (n k : ℕ) → entries_fit rules (entries system S (k + n)) ≡ true → entries_fit rules (entries system S n) ≡ true
  fit_below n zero h = subst (λ m. entries_fit rules (entries system S m) ≡ true) (omega arith) h
  fit_below n (suc k) h =
      let on : suc k + n ≡ suc (k + n) = omega arith in
      fit_below n k (cond_both (system (k + n)) (entry S (k + n) ∷ entries system S (k + n)) (entries system S (k + n)) (λ es. entries_fit rules es ≡ true → entries_fit rules (entries system S (k + n)) ≡ true)
      (λ _ g. (and_parts (entry_fits rules (entries system S (k + n)) (entry S (k + n))) (entries_fit rules (entries system S (k + n))) g).1) (λ _ g. g)
      (subst (λ m. entries_fit rules (entries system S m) ≡ true) on h))

  pub each_fits : (x : ℕ) → x < 26 → system x ≡ true → entries_fit rules (entries system S 26) ≡ true → entry_fits rules (entries system S x) (entry S x) ≡ true
  each_fits x low of h =
      let on : 26 ≡ (25 - x) + suc x = omega arith in
      let here : entries_fit rules (entries system S (suc x)) ≡ true = fit_below (suc x) (25 - x) (subst (λ m. entries_fit rules (entries system S m) ≡ true) on h) in
      (and_parts (entry_fits rules (entries system S x) (entry S x)) (entries_fit rules (entries system S x))
      (ap (entries_fit rules) (sym (cond-true (system x) (entry S x ∷ entries system S x) (entries system S x) of)) ∙ here)).0

  pub one_more : (x : ℕ) → system x ≡ true → entry S x ∷ entries system S x ≡ entries system S (x + 1)
  one_more x of = sym (cond-true (system x) (entry S x ∷ entries system S x) (entries system S x) of) ∙ ap (entries system S) (sym (add-one x))

  pub none_more : (x : ℕ) → system x ≡ false → entries system S x ≡ entries system S (x + 1)
  none_more x other = sym (cond-false (system x) (entry S x ∷ entries system S x) (entries system S x) other) ∙ ap (entries system S) (sym (add-one x))
