-- Rules that fit: what each keeps, how long letters get, and that a letter spells what its rule says. Assumes nothing.
use Rattle.std.proofs.Common.{◌≡◌, ℕ, zero, suc, ◌+◌, ◌-◌, ◌*◌, ◌^◌, ◌<◌, ◌≤◌, Bool, true, false, cond, not, ◌&&◌, eqb, ltb, leb, ◌⊎◌, List, [], ◌∷◌, ◌++◌, reverse, length, get_or, Some, None, Option, sym, refl, ap, ◌∙◌, subst, ap₂, inl, inr, ⊎_elim, arith, lit≤, length-append}
use Rattle.std.specs.List.{AllByRecursion}
use Rattle.std.proofs.lemmas.List.{length-reverse, reverse-append, get_or-reverse}
use Rattle.std.proofs.lemmas.Bool.{and_parts, and_from, ltb-true, ltb-false, leb-true, leb-false, lt-ltb, le-leb, le-ltb, lt-leb, cond-true, cond-false, cond_both, cases_Bool, cases_lt, eqb-true, eqb-false, eq-eqb, ne_eqb}
use Rattle.model.specs.declared.Rule.{Rule}
use Rattle.model.specs.declared.Rule.TheVariants.{Pair, Block}
use Rattle.model.specs.declared.RuleRefusal.{RuleRefusal}
use Rattle.model.specs.declared.RuleRefusal.TheVariants.{UnknownLetter, EqualLetters, CountOutOfRange, TooManyRules, TooLong}
use Rattle.model.specs.Spelling.{Word, copies, known, expand, spell, spell_word, rule_of}
use Rattle.model.specs.Witnesses.{lower, apart, counted, made_length, rule_fits, rule_refusal, rules_fit}
use Rattle.model.specs.Laws.{SpellingEndsInAToZ}
use Rattle.model.proofs.Spelling.{spell_older, spell_newest}

-- what a rule that fits is
pub record FitsAfter (older : List Rule) (rule : Rule) : Type 0 where
  pub low : lower (known older) rule ≡ true
  pub two : apart rule ≡ true
  pub ranged : counted rule ≡ true
  pub few : length older < 512
  pub short : made_length older rule ≤ 10 ^ 12

pub fits_after : (older : List Rule) (rule : Rule) → rule_fits older rule ≡ true → FitsAfter older rule
fits_after older rule h =
    let p = and_parts (lower (known older) rule) (apart rule && (counted rule && (ltb (length older) 512 && leb (made_length older rule) (10 ^ 12)))) h in
    let q = and_parts (apart rule) (counted rule && (ltb (length older) 512 && leb (made_length older rule) (10 ^ 12))) p.1 in
    let r = and_parts (counted rule) (ltb (length older) 512 && leb (made_length older rule) (10 ^ 12)) q.1 in
    let s = and_parts (ltb (length older) 512) (leb (made_length older rule) (10 ^ 12)) r.1 in
    record { low = p.0; two = q.0; ranged = r.0; few = ltb-true _ _ s.0; short = leb-true _ _ s.1 }

pub from_fits : (older : List Rule) (rule : Rule) → FitsAfter older rule → rule_fits older rule ≡ true
from_fits older rule f =
    and_from (lower (known older) rule) (apart rule && (counted rule && (ltb (length older) 512 && leb (made_length older rule) (10 ^ 12)))) f.low
    (and_from (apart rule) (counted rule && (ltb (length older) 512 && leb (made_length older rule) (10 ^ 12))) f.two
    (and_from (counted rule) (ltb (length older) 512 && leb (made_length older rule) (10 ^ 12)) f.ranged
    (and_from (ltb (length older) 512) (leb (made_length older rule) (10 ^ 12)) (lt-ltb _ _ f.few) (le-leb _ _ f.short))))

-- the newest rule and the older ones of rules that fit
pub newest_fits : (rule : Rule) (older : List Rule) → rules_fit (rule ∷ older) ≡ true → FitsAfter older rule × (rules_fit older ≡ true)
newest_fits rule older h = let p = and_parts (rule_fits older rule) (rules_fit older) h in (fits_after older rule p.0, p.1)

pub pair_lower : (n a b : ℕ) → lower n (Pair a b) ≡ true → (a < n) × (b < n)
pair_lower n a b h = let p = and_parts (ltb a n) (ltb b n) h in (ltb-true a n p.0, ltb-true b n p.1)

pub block_lower : (n a k : ℕ) → lower n (Block a k) ≡ true → a < n
block_lower n a k h = ltb-true a n h

pub block_counted : (a k : ℕ) → counted (Block a k) ≡ true → (2 ≤ k) × (k ≤ 1000000)
block_counted a k h = let p = and_parts (leb 2 k) (leb k 1000000) h in (leb-true 2 k p.0, leb-true k 1000000 p.1)

-- there are at most 512 rules
pub rules_few : (rules : List Rule) → rules_fit rules ≡ true → length rules ≤ 512
rules_few [] h = lit≤ tt
rules_few (rule ∷ older) h = (newest_fits rule older h).0.few

-- no letter spells more
pub spell_short : (rules : List Rule) → rules_fit rules ≡ true → (c : ℕ) → length (spell rules c) ≤ 10 ^ 12
spell_short [] h c = lit≤ tt
spell_short (rule ∷ older) h c =
    let p = newest_fits rule older h in
    cond_both (eqb c (known older)) (expand (spell older) rule) (spell older c) (λ w. length w ≤ 10 ^ 12) (λ _. p.0.short) (λ _. spell_short older p.1 c)

pub spell_word_short : (rules : List Rule) (w : Word) → rules_fit rules ≡ true → length (spell_word rules w) ≤ length w * 10 ^ 12
spell_word_short rules [] h = lit≤ tt
spell_word_short rules (a ∷ w) h = omega (arith, length-append (spell rules a) (spell_word rules w), spell_short rules h a, spell_word_short rules w h)

-- something that holds of what the letters below n spell holds of what a rule of such letters spells
all_append : (P : ℕ → Type 0) (v w : Word) → AllByRecursion P v → AllByRecursion P w → AllByRecursion P (v ++ w)
all_append P [] w h k = k
all_append P (a ∷ v) w h k = (h.0, all_append P v w h.1 k)

all_copies : (P : ℕ → Type 0) (n : ℕ) (w : Word) → AllByRecursion P w → AllByRecursion P (copies n w)
all_copies P zero w h = tt
all_copies P (suc n) w h = all_append P w (copies n w) h (all_copies P n w h)

all_expand : (P : ℕ → Type 0) (n : ℕ) (of : ℕ → Word) (rule : Rule) → lower n rule ≡ true → ((c : ℕ) → c < n → AllByRecursion P (of c)) → AllByRecursion P (expand of rule)
all_expand P n of (Pair a b) low each = let p = pair_lower n a b low in all_append P (of a) (of b) (each a p.0) (each b p.1)
all_expand P n of (Block a k) low each = all_copies P k (of a) (each a (block_lower n a k low))

pub spell_basic : SpellingEndsInAToZ
spell_basic [] c h lt = (lt, tt)
spell_basic (rule ∷ older) c h lt =
    let p = newest_fits rule older h in
    cond_both (eqb c (known older)) (expand (spell older) rule) (spell older c) (AllByRecursion (λ a. a < 26))
    (λ _. all_expand (λ a. a < 26) (known older) (spell older) rule p.0.low (λ d. spell_basic older d p.1))
    (λ e. spell_basic older c p.1 (under e))
  where
    under : eqb c (known older) ≡ false → c < known older
    under e = let ne : c ≡ known older → ⊥ = eqb-false c (known older) e in order (cases_lt c (known older)) ne
      where
        order : (c < known older) ⊎ (known older ≤ c) → (c ≡ known older → ⊥) → c < known older
        order (inl l) ne = l
        order (inr r) ne = absurd (ne (omega arith))

-- every letter spells something
some_copies : (n : ℕ) (w : Word) → 1 ≤ n → 1 ≤ length w → 1 ≤ length (copies n w)
some_copies zero w h k = absurd (omega arith)
some_copies (suc n) w h k = omega (arith, length-append w (copies n w))

pub spell_some : (rules : List Rule) → rules_fit rules ≡ true → (c : ℕ) → 1 ≤ length (spell rules c)
spell_some [] h c = lit≤ tt
spell_some (Pair a b ∷ older) h c =
    let p = newest_fits (Pair a b) older h in
    cond_both (eqb c (known older)) (spell older a ++ spell older b) (spell older c) (λ w. 1 ≤ length w)
    (λ _. omega (arith, length-append (spell older a) (spell older b), spell_some older p.1 a))
    (λ _. spell_some older p.1 c)
spell_some (Block a k ∷ older) h c =
    let p = newest_fits (Block a k) older h in
    let many : 1 ≤ k = omega (arith, block_counted a k p.0.ranged) in
    cond_both (eqb c (known older)) (copies k (spell older a)) (spell older c) (λ w. 1 ≤ length w)
    (λ _. some_copies k (spell older a) many (spell_some older p.1 a))
    (λ _. spell_some older p.1 c)

-- a rule of letters that spell the same is the same
expand_same : (n : ℕ) (f g : ℕ → Word) (rule : Rule) → lower n rule ≡ true → ((c : ℕ) → c < n → f c ≡ g c) → expand f rule ≡ expand g rule
expand_same n f g (Pair a b) low same = let p = pair_lower n a b low in ap₂ (λ v w. v ++ w) (same a p.0) (same b p.1)
expand_same n f g (Block a k) low same = ap (copies k) (same a (block_lower n a k low))

-- what a letter spells, by its rule
pub record MadeBy (rules : List Rule) (c : ℕ) (rule : Rule) : Type 0 where
  pub low : lower c rule ≡ true
  pub ranged : counted rule ≡ true
  pub under : c < known rules
  pub spells : spell rules c ≡ expand (spell rules) rule

made_newest : (r : Rule) (older : List Rule) (c : ℕ) (rule : Rule) → FitsAfter older r → c ≡ known older → r ≡ rule → MadeBy (r ∷ older) c rule
made_newest r older c rule fit here same =
    let fits : FitsAfter older rule = subst (FitsAfter older) same fit in
    record {
      low = ap (λ n. lower n rule) here ∙ fits.low;
      ranged = fits.ranged;
      under = omega arith;
      spells = ap (spell (r ∷ older)) here ∙ spell_newest r older ∙ ap (expand (spell older)) same ∙ expand_same (known older) (spell older) (spell (r ∷ older)) rule fits.low (λ d lt. sym (spell_older r older d lt));
    }

made_older : (r : Rule) (older : List Rule) (c : ℕ) (rule : Rule) → MadeBy older c rule → MadeBy (r ∷ older) c rule
made_older r older c rule m =
    let under : c < known older = m.under in
    record {
      low = m.low;
      ranged = m.ranged;
      under = omega arith;
      spells = spell_older r older c under ∙ m.spells ∙ expand_same c (spell older) (spell (r ∷ older)) rule m.low (λ d lt. sym (spell_older r older d (omega arith)));
    }

pub made_by : (rules : List Rule) (c : ℕ) (rule : Rule) → rules_fit rules ≡ true → rule_of rules c ≡ Some rule → MadeBy rules c rule
made_by [] c rule h is = absurd (let z : ◌≡◌ {A = ℕ} 0 1 = cc in omega arith)
made_by (r ∷ older) c rule h is =
    let p = newest_fits r older h in
    ⊎_elim
    (λ (e : eqb c (known older) ≡ true).
    let found : ◌≡◌ {A = Option Rule} (Some r) (Some rule) = sym (cond-true (eqb c (known older)) (Some r) (rule_of older c) e) ∙ is in
    made_newest r older c rule p.0 (eqb-true c (known older) e) (cc))
    (λ (e : eqb c (known older) ≡ false).
    made_older r older c rule (made_by older c rule p.1 (sym (cond-false (eqb c (known older)) (Some r) (rule_of older c) e) ∙ is)))
    (cases_Bool (eqb c (known older)))

-- rules as they are stored, oldest first: one more is the newest, and a letter's rule stands at its place
pub newest_reverse : {X : Type 0} (xs : List X) (x : X) → reverse (xs ++ (x ∷ [])) ≡ x ∷ reverse xs
newest_reverse xs x = reverse-append xs (x ∷ [])

rule_newest : (r : Rule) (older : List Rule) → rule_of (r ∷ older) (known older) ≡ Some r
rule_newest r older = cond-true (eqb (known older) (known older)) (Some r) (rule_of older (known older)) (eq-eqb (known older) (known older) refl)

rule_older : (r : Rule) (older : List Rule) (c : ℕ) → c < known older → rule_of (r ∷ older) c ≡ rule_of older c
rule_older r older c lt = cond-false (eqb c (known older)) (Some r) (rule_of older c) (ne_eqb c (known older) (λ e. omega arith))

pub rule_low : (rules : List Rule) (c : ℕ) → c < 26 → rule_of rules c ≡ None
rule_low [] c lt = refl
rule_low (r ∷ older) c lt = rule_older r older c (omega arith) ∙ rule_low older c lt

pub rule_past : (rules : List Rule) (c : ℕ) → known rules ≤ c → rule_of rules c ≡ None
rule_past [] c le = refl
rule_past (r ∷ older) c le = cond-false (eqb c (known older)) (Some r) (rule_of older c) (ne_eqb c (known older) (λ e. omega arith)) ∙ rule_past older c (omega arith)

-- the rule at a place of the list, newest first, is that of the letter so many below the newest
rule_down : (rules : List Rule) (k : ℕ) (d : Rule) → k < length rules → (c : ℕ) → c + suc k ≡ known rules → rule_of rules c ≡ Some (get_or rules k d)
rule_down [] k d lt c e = absurd (omega arith)
rule_down (r ∷ older) zero d lt c e = let here : c ≡ known older = omega arith in ap (rule_of (r ∷ older)) here ∙ rule_newest r older
rule_down (r ∷ older) (suc k) d lt c e =
    let under : c < known older = omega arith in
    rule_older r older c under ∙ rule_down older k d (omega arith) c (omega arith)

pub rule_stored : (stored : List Rule) (i : ℕ) (d : Rule) → i < length stored → rule_of (reverse stored) (26 + i) ≡ Some (get_or stored i d)
rule_stored stored i d lt =
    let long : length (reverse stored) ≡ length stored = length-reverse stored in
    let k : ℕ = length stored - 1 - i in
    let within : k < length (reverse stored) = omega arith in
    let down : (26 + i) + suc k ≡ known (reverse stored) = omega arith in
    let within_too : k < length stored = omega arith in
    let back : length stored - 1 - k ≡ i = omega arith in
    rule_down (reverse stored) k d within (26 + i) down ∙ ap Some (get_or-reverse stored k d within_too ∙ ap (λ j. get_or stored j d) back)

-- a rule that is not refused fits, and one that is refused does not
chosen : (l a k f s : Bool) → cond (not l) (Some UnknownLetter) (cond (not a) (Some EqualLetters) (cond (not k) (Some CountOutOfRange) (cond f (Some TooManyRules) (cond s (Some TooLong) None)))) ≡ None → (l ≡ true) × (a ≡ true) × (k ≡ true) × (f ≡ false) × (s ≡ false)
chosen true true true false false e = (refl, refl, refl, refl, refl)
chosen false a k f s e = absurd (let z : ◌≡◌ {A = ℕ} 0 1 = cc in omega arith)
chosen true false k f s e = absurd (let z : ◌≡◌ {A = ℕ} 0 1 = cc in omega arith)
chosen true true false f s e = absurd (let z : ◌≡◌ {A = ℕ} 0 1 = cc in omega arith)
chosen true true true true s e = absurd (let z : ◌≡◌ {A = ℕ} 0 1 = cc in omega arith)
chosen true true true false true e = absurd (let z : ◌≡◌ {A = ℕ} 0 1 = cc in omega arith)

pub taken_fits : (older : List Rule) (rule : Rule) → rule_refusal older rule ≡ None → FitsAfter older rule
taken_fits older rule e =
    let p = chosen (lower (known older) rule) (apart rule) (counted rule) (leb 512 (length older)) (ltb (10 ^ 12) (made_length older rule)) e in
    record { low = p.0; two = p.1; ranged = p.2; few = leb-false _ _ p.3; short = ltb-false _ _ p.4 }

pub fits_taken : (older : List Rule) (rule : Rule) → FitsAfter older rule → rule_refusal older rule ≡ None
fits_taken older rule f =
    let few : leb 512 (length older) ≡ false = lt-leb 512 (length older) f.few in
    let short : ltb (10 ^ 12) (made_length older rule) ≡ false = le-ltb (10 ^ 12) (made_length older rule) f.short in
    let low = f.low in
    let two = f.two in
    let ranged = f.ranged in
    simp (low, two, ranged, few, short)

pub refused_unfit : (older : List Rule) (rule : Rule) (why : RuleRefusal) → rule_refusal older rule ≡ Some why → FitsAfter older rule → ⊥
refused_unfit older rule why e f =
    let none : rule_refusal older rule ≡ None = fits_taken older rule f in
    let z : ◌≡◌ {A = ℕ} 0 1 = cc in
    omega arith

-- a known letter that no rule makes is one of a to z
pub no_rule_basic : (rules : List Rule) (c : ℕ) → rule_of rules c ≡ None → c < known rules → c < 26
no_rule_basic [] c none lt = lt
no_rule_basic (r ∷ older) c none lt =
    ⊎_elim
    (λ (e : eqb c (known older) ≡ true).
    let z : ◌≡◌ {A = Option Rule} (Some r) None = sym (cond-true (eqb c (known older)) (Some r) (rule_of older c) e) ∙ none in
    absurd (let z : ◌≡◌ {A = ℕ} 0 1 = cc in omega arith))
    (λ (e : eqb c (known older) ≡ false).
    let ne : c ≡ known older → ⊥ = eqb-false c (known older) e in
    no_rule_basic older c (sym (cond-false (eqb c (known older)) (Some r) (rule_of older c) e) ∙ none) (omega arith))
    (cases_Bool (eqb c (known older)))
