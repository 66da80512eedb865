use Rattle.std.proofs.Common.{◌≡◌, ℕ, true, List, ◌∷◌, reverse, Some, None, Ok, Err, Result, sym, ap, ◌∙◌, subst, MatchResult}
use Rattle.letters.specs.Holding.{rules_of}
use Rattle.model.specs.declared.Rule.{Rule}
use Rattle.model.specs.declared.RuleRefusal.{RuleRefusal}
use Rattle.model.specs.Spelling.{Word, known}
use Rattle.model.specs.Witnesses.{Entry, all_below, entries_fit, rule_refusal}
use Rattle.witness.specs.Seats.{Counted, entries}
use Rattle.witness.proofs.Counting.{counted_rule, letters_known}
use Rattle.witness.proofs.Cutting.{entries_fit_more}
use Rattle.witness.proofs.store.Witness.add_rule.Goals as goal

still_fits : (old new : List Rule) (rule : Rule) (es : List Entry) (r : Result (Unit {0}) RuleRefusal) → MatchResult r (λ _. (rule_refusal old rule ≡ None) × (new ≡ rule ∷ old)) (λ e. (rule_refusal old rule ≡ Some e) × (new ≡ old)) → entries_fit old es ≡ true → entries_fit new es ≡ true
still_fits old new rule es (Ok u) h fit = ap (λ rules. entries_fit rules es) h.1 ∙ entries_fit_more rule old es fit
still_fits old new rule es (Err e) h fit = ap (λ rules. entries_fit rules es) h.1 ∙ fit

still_counted : (old new : List Rule) (rule : Rule) (letters : Word) (ends : List ℕ) (r : Result (Unit {0}) RuleRefusal) → MatchResult r (λ _. (rule_refusal old rule ≡ None) × (new ≡ rule ∷ old)) (λ e. (rule_refusal old rule ≡ Some e) × (new ≡ old)) → all_below (known old) letters ≡ true → Counted old letters ends → Counted new letters ends
still_counted old new rule letters ends (Ok u) h low counted = subst (λ rules. Counted rules letters ends) (sym h.1) (counted_rule rule old letters ends low counted)
still_counted old new rule letters ends (Err e) h low counted = subst (λ rules. Counted rules letters ends) (sym h.1) counted

pub invariant_of-self : goal.invariant_of-self
invariant_of-self c =
    let s = c.args.self.now in
    let low = letters_known (rules_of s.made) (reverse s.seats) s.letters s.whole s.fit in
    record {
      level = s.level;
      whole = s.whole;
      fit = still_fits (rules_of s.made) (rules_of c.add.new.self) c.args.rule (entries (reverse s.seats) s.letters) c.add.result c.add.ensures.outcome s.fit;
      counted = still_counted (rules_of s.made) (rules_of c.add.new.self) c.args.rule s.letters s.ends c.add.result c.add.ensures.outcome low s.counted;
    }
