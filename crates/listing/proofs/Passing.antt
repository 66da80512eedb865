-- One line more, the end, or the line that is refused. Assumes nothing.
use Rattle.std.proofs.Common.{◌≡◌, ℕ, ◌+◌, ◌<◌, ◌≤◌, Bool, true, false, eqb, List, [], ◌∷◌, ◌++◌, length, Some, None, MatchOption, Option, sym, refl, ap, ◌∙◌, subst, append_assoc, append-nil, arith, length-append}
use Rattle.std.specs.Option.{option_map}
use Rattle.std.proofs.lemmas.List.{length_push, nil_from_length}
use Rattle.std.proofs.lemmas.Bool.{eqb-true}
use Rattle.model.specs.Witnesses.{Contents}
use Rattle.text.specs.Pieces.{Bytes, Line, lines_text}
use Rattle.text.proofs.Cuts.{lines_append}
use Rattle.format.specs.Listing.{listing}
use Rattle.format.specs.Reading.{Refused}
use Rattle.format.specs.Steps.{State, Start, Ruling, Gapped, Giving, after, Run, Stuck, giving}
use Rattle.format.proofs.Refusals.{ends, refuse_line, refuse_cut, refuse_end}
use Rattle.format.proofs.Runs.{run_push}
use Rattle.witness.specs.Answers.{with_rule}
use Rattle.listing.specs.declared.reading.Stage.{Stage}
use Rattle.listing.specs.declared.reading.Stage.TheVariants.{Opening, Rules, Gap, Variables}
use Rattle.listing.specs.Lines.{Kept, NoRule, Ruled}
use Rattle.listing.specs.Stages.{Even, Led, Passed, state_of}

-- the empty line, a rule's line and a variable's line
pub led_empty : (c : Contents) (l : Bytes) → Even Rules c → l ≡ [] → Led Rules c l Gap c
led_empty c l even is = record { run = (None, refl, is, refl); even = even }

led_rule : (c : Contents) (l : Bytes) (d : Contents) → Even Rules c → Ruled c l d → Led Rules c l Rules d
led_rule c l d even r =
    subst (λ x. Led Rules c l Rules x) (sym r.new) (record { run = (Some r.rule, r.fit, r.is, refl); even = ap (with_rule r.rule) even })

led_variable : (c : Contents) (l : Bytes) (d : Contents) → Kept c l d → Led Variables c l Variables d
led_variable c l d k = subst (λ x. Led Variables c l Variables x) (sym k.new) (record { run = (k.e, k.fit, k.is, refl); even = refl })

stuck_rules : (c : Contents) (l : Bytes) → (l ≡ [] → ⊥) → NoRule c l → Stuck (Ruling c.rules) l
stuck_rules c l some none None h e = some e
stuck_rules c l some none (Some rule) h e = none rule h e

-- a rule that is read, or refused
pub read_rules : (c : Contents) (l : Bytes) (d : Contents) (o : Option (Unit {0})) → Even Rules c → (l ≡ [] → ⊥) → MatchOption o (NoRule c l) (λ _. Ruled c l d) → MatchOption (option_map (λ _. Rules) o) (Stuck (Ruling c.rules) l) (λ next. Led Rules c l next d)
read_rules c l d None even some none = stuck_rules c l some none
read_rules c l d (Some u) even some r = led_rule c l d even r

-- a variable that is read, or refused
pub read_variables : (c : Contents) (l : Bytes) (d : Contents) (o : Option (Unit {0})) → MatchOption o (Stuck (Giving c.rules c.entries) l) (λ _. Kept c l d) → MatchOption (option_map (λ _. Variables) o) (Stuck (Giving c.rules c.entries) l) (λ next. Led Variables c l next d)
read_variables c l d None stuck = stuck
read_variables c l d (Some u) k = led_variable c l d k

-- one more line
run_then : (good : List Bytes) (t : State) (l : Bytes) (u : State) → Run Start good t → Run t (l ∷ []) u → Run Start (good ++ (l ∷ [])) u
run_then good t l u r s =
    subst (λ v. Run Start (good ++ (l ∷ [])) v) s.3 (subst (λ k. Run Start (good ++ (k ∷ [])) (after t s.0)) (sym s.2) (run_push Start good t s.0 r s.1))

pub passed_more : (text : Bytes) (n : ℕ) (t : State) (rest l more : Bytes) (u : State) → Passed text n t rest → rest ≡ l ++ 10 ∷ more → Run t (l ∷ []) u → Passed text (n + 1) u more
passed_more text n t rest l more u p cut r = record {
  good = p.good ++ (l ∷ []);
  run = run_then p.good t l u p.run r;
  split =
      p.split
      ∙ ap (λ x. lines_text p.good ++ x) (cut ∙ sym (append_assoc l (10 ∷ []) more))
      ∙ sym (append_assoc (lines_text p.good) (l ++ 10 ∷ []) more)
      ∙ ap (λ x. x ++ more) (sym (lines_append p.good (l ∷ [])));
  count = omega (arith, p.count, length_push p.good l);
}

-- all is read
pub passed_all : (text : Bytes) (n : ℕ) (t : State) (rest : Bytes) (r : Bool) → Passed text n t rest → r ≡ eqb (length rest) 0 → r ≡ true → Passed text n t []
passed_all text n t rest r p test all = subst (Passed text n t) (nil_from_length rest (eqb-true (length rest) 0 (sym test ∙ all))) p

-- there are not more lines than bytes
lines_le : (ls : List Bytes) → length ls ≤ length (lines_text ls)
lines_le [] = omega arith
lines_le (l ∷ ls) = omega (arith, lines_le ls, length-append l (10 ∷ lines_text ls))

pub passed_le : (text : Bytes) (n : ℕ) (t : State) (rest : Bytes) → Passed text n t rest → n + length rest ≤ length text + 1
passed_le text n t rest p = omega (arith, p.count, ap length p.split, length-append (lines_text p.good) rest, lines_le p.good)

pub shorter : (rest l more : Bytes) → rest ≡ l ++ 10 ∷ more → length more < length rest
shorter rest l more e = omega (arith, ap length e, length-append l (10 ∷ more))

-- where reading stops
pub refused_line : (text : Bytes) (n : ℕ) (t : State) (rest l more : Bytes) → Passed text n t rest → Line l → rest ≡ l ++ 10 ∷ more → Stuck t l → Refused text n
refused_line text n t rest l more p hl cut stuck =
    subst (Refused text) (sym p.count) (refuse_line text p.good t l more p.run hl stuck (p.split ∙ ap (λ x. lines_text p.good ++ x) cut))

pub refused_cut : (text : Bytes) (n : ℕ) (t : State) (rest : Bytes) → Passed text n t rest → Line rest → 0 < length rest → Refused text n
refused_cut text n t [] p hl some = absurd (omega arith)
refused_cut text n t (c ∷ cs) p hl some = subst (Refused text) (sym p.count) (refuse_cut text p.good t c cs p.run hl p.split)

all_read : (text : Bytes) (n : ℕ) (t : State) → (p : Passed text n t []) → text ≡ lines_text p.good
all_read text n t p = p.split ∙ append-nil (lines_text p.good)

refused_end : (text : Bytes) (n : ℕ) (t : State) → Passed text n t [] → giving t ≡ false → Refused text n
refused_end text n t p early = subst (Refused text) (sym p.count) (refuse_end text p.good t p.run early (all_read text n t p))

-- before the second table
pub refused_early : (text : Bytes) (n : ℕ) (stage : Stage) (c : Contents) → Passed text n (state_of stage c) [] → (stage ≡ Variables → ⊥) → Refused text n
refused_early text n Opening c p other = refused_end text n Start p refl
refused_early text n Rules c p other = refused_end text n (Ruling c.rules) p refl
refused_early text n Gap c p other = refused_end text n (Gapped c.rules) p refl
refused_early text n Variables c p other = absurd (other refl)

pub whole : (text : Bytes) (n : ℕ) (c : Contents) → Passed text n (Giving c.rules c.entries) [] → text ≡ listing c
whole text n c p = (ends text p.good c.rules c.entries p.run (all_read text n (Giving c.rules c.entries) p)).1
