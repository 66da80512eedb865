-- What is known of a letter from its length, and the judgement of a rule from the room that is left. Assumes nothing.
use Rattle.std.proofs.Common.{◌≡◌, ℕ, ◌^◌, ◌<◌, ◌≤◌, true, false, cond, ltb, leb, List, length, Some, None, Ok, Err, Option, Result, sym, ap, ◌∙◌, subst, ⊎_elim, arith, MatchResult}
use Rattle.std.proofs.lemmas.Bool.{cond-true, cond-false, cond_both, ltb-true, lt-ltb, cases_Bool, cases_lt}
use Rattle.model.specs.declared.Rule.{Rule}
use Rattle.model.specs.declared.RuleRefusal.{RuleRefusal}
use Rattle.model.specs.declared.RuleRefusal.TheVariants.{TooManyRules, TooLong}
use Rattle.model.specs.Spelling.{known, spell}
use Rattle.model.specs.Witnesses.{lower, apart, counted, made_length, rule_refusal}
use Rattle.letters.specs.Holding.{length_of, room_for}

pub length_known : (rules : List Rule) (a : ℕ) → a < known rules → length_of rules a ≡ Some (length (spell rules a))
length_known rules a lt = cond-true (ltb a (known rules)) (Some (length (spell rules a))) None (lt-ltb a (known rules) lt)

pub known_length : (rules : List Rule) (a n : ℕ) → Some n ≡ length_of rules a → (a < known rules) × (n ≡ length (spell rules a))
known_length rules a n is =
    ⊎_elim
    (λ (e : ltb a (known rules) ≡ true).
    let found : ◌≡◌ {A = Option ℕ} (Some n) (Some (length (spell rules a))) = is ∙ cond-true (ltb a (known rules)) (Some (length (spell rules a))) None e in
    (ltb-true a (known rules) e, cc))
    (λ (e : ltb a (known rules) ≡ false).
    let none : ◌≡◌ {A = Option ℕ} (Some n) None = is ∙ cond-false (ltb a (known rules)) (Some (length (spell rules a))) None e in
    absurd (let z : ◌≡◌ {A = ℕ} 0 1 = cc in omega arith))
    (cases_Bool (ltb a (known rules)))

pub unknown_length : (rules : List Rule) (a : ℕ) → None ≡ length_of rules a → known rules ≤ a
unknown_length rules a none =
    ⊎_elim
    (λ (lt : a < known rules). let found : ◌≡◌ {A = Option ℕ} None (Some (length (spell rules a))) = none ∙ length_known rules a lt in absurd (grind arith))
    (λ (ge : known rules ≤ a). ge)
    (cases_lt a (known rules))

-- the judgement of a rule
abbrev pub Judged : List Rule → Rule → Result ℕ RuleRefusal → Type 0
Judged rules rule r = MatchResult r (λ n. (rule_refusal rules rule ≡ None) × (n ≡ made_length rules rule)) (λ e. rule_refusal rules rule ≡ Some e)

pub judged : (rules : List Rule) (rule : Rule) (n : ℕ) (r : Result ℕ RuleRefusal) → lower (known rules) rule ≡ true → apart rule ≡ true → counted rule ≡ true → n ≡ made_length rules rule → r ≡ room_for rules n → Judged rules rule r
judged rules rule n r low two ranged is e =
    subst (Judged rules rule) (sym e)
    (cond_both (leb 512 (length rules)) (Err TooManyRules) (cond (ltb (10 ^ 12) n) (Err TooLong) (Ok n)) (Judged rules rule)
    (λ full. simp (low, two, ranged, full))
    (λ free. cond_both (ltb (10 ^ 12) n) (Err TooLong) (Ok n) (Judged rules rule)
    (λ over. let long : ltb (10 ^ 12) (made_length rules rule) ≡ true = ap (ltb (10 ^ 12)) (sym is) ∙ over in simp (low, two, ranged, free, long))
    (λ under. let short : ltb (10 ^ 12) (made_length rules rule) ≡ false = ap (ltb (10 ^ 12)) (sym is) ∙ under in (simp (low, two, ranged, free, short), is))))
