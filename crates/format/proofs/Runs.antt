-- Runs from line to line, and that a listing has only one contents. Assumes nothing.
use Rattle.std.proofs.Common.{◌≡◌, true, List, [], ◌∷◌, ◌++◌, Some, None, sym, refl, ap, ◌∙◌, subst, append_assoc, append-nil}
use Rattle.std.specs.List.{AllByRecursion}
use Rattle.std.proofs.lemmas.Bool.{and_parts}
use Rattle.model.specs.declared.Rule.{Rule}
use Rattle.model.specs.Witnesses.{Contents, Entry, rules_fit, entries_fit, rule_fits, entry_fits, valid}
use Rattle.text.specs.Pieces.{Bytes, free, Line, lines_text}
use Rattle.text.proofs.Cuts.{first_lines, lines_append, same_lines}
use Rattle.format.specs.Listing.{rule_head, entry_head, rule_lines, lines}
use Rattle.format.specs.Reading.{Begins, OneContents}
use Rattle.format.specs.Steps.{State, Start, Ruling, Gapped, Giving, Move, fits, line, after, contents, written, Run}
use Rattle.format.proofs.Lines.{valid_after, written_after, line_plain, line_same}

pub run_valid : (s : State) (ls : List Bytes) (t : State) → valid (contents s) ≡ true → Run s ls t → valid (contents t) ≡ true
run_valid s [] t h r = ap (λ z. valid (contents z)) (sym r) ∙ h
run_valid s (l ∷ ls) t h r = run_valid (after s r.0) ls t (valid_after s r.0 h r.1) r.3

pub run_written : (s : State) (ls : List Bytes) (t : State) → Run s ls t → written t ≡ written s ++ ls
run_written s [] t r = ap written (sym r) ∙ sym (append-nil (written s))
run_written s (l ∷ ls) t r =
    run_written (after s r.0) ls t r.3
    ∙ ap (λ k. k ++ ls) (written_after s r.0)
    ∙ append_assoc (written s) (line s r.0 ∷ []) ls
    ∙ ap (λ k. written s ++ k ∷ ls) (sym r.2)

pub run_plain : (s : State) (ls : List Bytes) (t : State) → valid (contents s) ≡ true → Run s ls t → AllByRecursion Line ls
run_plain s [] t h r = tt
run_plain s (l ∷ ls) t h r = (ap (λ k. free 10 k) r.2 ∙ line_plain s r.0 h r.1, run_plain (after s r.0) ls t (valid_after s r.0 h r.1) r.3)

pub run_same : (s : State) (ls : List Bytes) (t u : State) → valid (contents s) ≡ true → Run s ls t → Run s ls u → t ≡ u
run_same s [] t u h p q = sym p ∙ q
run_same s (l ∷ ls) t u h p q =
    let m_is : q.0 ≡ p.0 = line_same s q.0 p.0 h q.1 p.1 (sym q.2 ∙ p.2) in
    run_same (after s p.0) ls t u (valid_after s p.0 h p.1) p.3 (subst (λ m. Run (after s m) ls u) m_is q.3)

pub run_push : (s : State) (ls : List Bytes) (t : State) (m : Move t) → Run s ls t → fits t m ≡ true → Run s (ls ++ (line t m ∷ [])) (after t m)
run_push s [] t m r f = subst (λ z. Run z (line t m ∷ []) (after t m)) (sym r) (m, f, refl, refl)
run_push s (l ∷ ls) t m r f = (r.0, r.1, r.2, run_push (after s r.0) ls t m r.3 f)

pub run_front : (s : State) (ls more : List Bytes) (t : State) → Run s (ls ++ more) t → (u : State) × Run s ls u × Run u more t
run_front s [] more t r = (s, refl, r)
run_front s (l ∷ ls) more t r =
    let f = run_front (after s r.0) ls more t r.3 in
    (f.0, (r.0, r.1, r.2, f.1), f.2)

stepped : (s : State) (m : Move s) → Run Start (written s) s → fits s m ≡ true → Run Start (written (after s m)) (after s m)
stepped s m r f = subst (λ ls. Run Start ls (after s m)) (sym (written_after s m)) (run_push Start (written s) s m r f)

reach_rules : (rs : List Rule) → rules_fit rs ≡ true → Run Start (written (Ruling rs)) (Ruling rs)
reach_rules [] h = (tt, refl, refl, refl)
reach_rules (r ∷ rs) h =
    let p = and_parts (rule_fits rs r) (rules_fit rs) h in
    stepped (Ruling rs) (Some r) (reach_rules rs p.1) p.0

reach_gap : (rs : List Rule) → rules_fit rs ≡ true → Run Start (written (Gapped rs)) (Gapped rs)
reach_gap rs h = stepped (Ruling rs) None (reach_rules rs h) refl

reach_words : (rs : List Rule) (es : List Entry) → rules_fit rs ≡ true → entries_fit rs es ≡ true → Run Start (written (Giving rs es)) (Giving rs es)
reach_words rs [] h w = stepped (Gapped rs) tt (reach_gap rs h) refl
reach_words rs (e ∷ es) h w =
    let p = and_parts (entry_fits rs es e) (entries_fit rs es) w in
    stepped (Giving rs es) e (reach_words rs es h p.1) p.0

-- a witness is reached by its lines
pub reached : (d : Contents) → valid d ≡ true → Run Start (lines d) (Giving d.rules d.entries)
reached d h =
    let p = and_parts (rules_fit d.rules) (entries_fit d.rules d.entries) h in
    reach_words d.rules d.entries p.0 p.1

pub lines_plain : (d : Contents) → valid d ≡ true → AllByRecursion Line (lines d)
lines_plain d h = run_plain Start (lines d) (Giving d.rules d.entries) refl (reached d h)

-- the lines so far begin the listing of what they have brought
to_come : (s : State) → (more : List Bytes) × (lines (contents s) ≡ written s ++ more)
to_come Start = (rule_head ∷ [] ∷ entry_head ∷ [], refl)
to_come (Ruling rs) = ([] ∷ entry_head ∷ [], refl)
to_come (Gapped rs) = (entry_head ∷ [], sym (append_assoc (rule_head ∷ rule_lines rs) ([] ∷ []) (entry_head ∷ [])))
to_come (Giving rs es) = ([], sym (append-nil (written (Giving rs es))))

pub begins_from_run : (ls : List Bytes) (t : State) → Run Start ls t → Begins (lines_text ls)
begins_from_run ls t r =
    let more = to_come t in
    let is : lines (contents t) ≡ ls ++ more.0 = more.1 ∙ ap (λ k. k ++ more.0) (run_written Start ls t r) in
    (contents t, run_valid Start ls t refl r, (lines_text more.0, ap lines_text is ∙ lines_append ls more.0))

pub run_from_begins : (ls : List Bytes) → AllByRecursion Line ls → Begins (lines_text ls) → (t : State) × Run Start ls t
run_from_begins ls h b =
    let d = b.0 in
    let f = first_lines (lines d) ls b.2.0 (lines_plain d b.1) h b.2.1 in
    let r = run_front Start ls f.0 (Giving d.rules d.entries) (subst (λ k. Run Start k (Giving d.rules d.entries)) f.1 (reached d b.1)) in
    (r.0, r.1)

pub one_contents : OneContents
one_contents d e hd he eq =
    let same = same_lines (lines d) (lines e) (lines_plain d hd) (lines_plain e he) eq in
    ap contents (run_same Start (lines e) (Giving d.rules d.entries) (Giving e.rules e.entries) refl (subst (λ k. Run Start k (Giving d.rules d.entries)) same (reached d hd)) (reached e he))
