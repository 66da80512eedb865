-- When reading ends: a listing, or the first bad line. Assumes nothing.
use Rattle.std.proofs.Common.{◌≡◌, ℕ, ◌+◌, true, false, ◌⊎◌, List, [], ◌∷◌, ◌++◌, length, sym, refl, ap, ◌∙◌, subst, inl, inr, ⊎_elim, append_assoc, append-nil, arith}
use Rattle.std.specs.List.{AllByRecursion}
use Rattle.std.proofs.lemmas.Bool.{true≢false}
use Rattle.model.specs.declared.Rule.{Rule}
use Rattle.model.specs.Witnesses.{Entry, valid}
use Rattle.text.specs.Pieces.{Bytes, Line, lines_text}
use Rattle.text.proofs.Cuts.{first_lines, lines_append, same_lines, same_cut, no_cut}
use Rattle.format.specs.Listing.{lines, listing}
use Rattle.format.specs.Reading.{Begins, Refused, OneLine}
use Rattle.format.specs.Steps.{State, Start, Giving, giving, Run, Stuck}
use Rattle.format.proofs.Runs.{run_valid, run_written, run_plain, run_same, run_front, reached, lines_plain, begins_from_run, run_from_begins}

plain_push : (ls : List Bytes) (l : Bytes) → AllByRecursion Line ls → Line l → AllByRecursion Line (ls ++ (l ∷ []))
plain_push [] l h p = (p, tt)
plain_push (k ∷ ls) l h p = (h.0, plain_push ls l h.1 p)

-- a line that no move has ends every beginning
dead : (good : List Bytes) (t : State) (l : Bytes) → Run Start good t → Line l → Stuck t l → Begins (lines_text good ++ (l ++ 10 ∷ [])) → ⊥
dead good t l r hl stuck b =
    let plain = plain_push good l (run_plain Start good t refl r) hl in
    let u = run_from_begins (good ++ (l ∷ [])) plain (subst Begins (sym (lines_append good (l ∷ []))) b) in
    let f = run_front Start good (l ∷ []) u.0 u.1 in
    let same : f.0 ≡ t = run_same Start good f.0 t refl f.1 r in
    let step = subst (λ s. Run s (l ∷ []) u.0) same f.2 in
    stuck step.0 step.1 step.2

-- the whole is a listing
pub ends : (bs : Bytes) (good : List Bytes) (rs : List Rule) (es : List Entry) → Run Start good (Giving rs es) → bs ≡ lines_text good → (valid (record { rules = rs; entries = es }) ≡ true) × (bs ≡ listing (record { rules = rs; entries = es }))
ends bs good rs es r e = (run_valid Start good (Giving rs es) refl r, e ∙ ap lines_text (sym (run_written Start good (Giving rs es) r)))

longer : (l more : Bytes) → l ++ 10 ∷ more ≡ (l ++ 10 ∷ []) ++ more
longer l more = sym (append_assoc l (10 ∷ []) more)

-- the next line is bad
pub refuse_line : (bs : Bytes) (good : List Bytes) (t : State) (l more : Bytes) → Run Start good t → Line l → Stuck t l → bs ≡ lines_text good ++ (l ++ 10 ∷ more) → Refused bs (length good + 1)
refuse_line bs good t l more r hl stuck e = record {
  good = good;
  rest = l ++ 10 ∷ more;
  split = e;
  plain = run_plain Start good t refl r;
  count = refl;
  before = begins_from_run good t r;
  here = λ k m hk cut b. dead good t l r hl stuck (subst (λ x. Begins (lines_text good ++ (x ++ 10 ∷ []))) (sym (same_cut 10 l k more m hl hk cut).0) b);
  never = λ d v is. dead good t l r hl stuck (d, v, (more, sym is ∙ e ∙ ap (λ x. lines_text good ++ x) (longer l more) ∙ sym (append_assoc (lines_text good) (l ++ 10 ∷ []) more)));
}

no_lines_in : (c : ℕ) (cs : Bytes) (ls : List Bytes) → Line (c ∷ cs) → c ∷ cs ≡ lines_text ls → ⊥
no_lines_in c cs [] h e = let z : ◌≡◌ {A = ℕ} 0 1 = cc in omega arith
no_lines_in c cs (l ∷ ls) h e = no_cut 10 (c ∷ cs) l (lines_text ls) h e

-- the last line lacks its newline
pub refuse_cut : (bs : Bytes) (good : List Bytes) (t : State) (c : ℕ) (cs : Bytes) → Run Start good t → Line (c ∷ cs) → bs ≡ lines_text good ++ (c ∷ cs) → Refused bs (length good + 1)
refuse_cut bs good t c cs r h e = record {
  good = good;
  rest = c ∷ cs;
  split = e;
  plain = run_plain Start good t refl r;
  count = refl;
  before = begins_from_run good t r;
  here = λ k m hk cut b. no_cut 10 (c ∷ cs) k m h cut;
  never = λ d v is.
      let f = first_lines (lines d) good (c ∷ cs) (lines_plain d v) (run_plain Start good t refl r) (sym is ∙ e) in
      no_lines_in c cs f.0 h f.2;
}

-- the bytes stop too early
pub refuse_end : (bs : Bytes) (good : List Bytes) (t : State) → Run Start good t → giving t ≡ false → bs ≡ lines_text good → Refused bs (length good + 1)
refuse_end bs good t r early e = record {
  good = good;
  rest = [];
  split = e ∙ sym (append-nil (lines_text good));
  plain = run_plain Start good t refl r;
  count = refl;
  before = begins_from_run good t r;
  here = λ k m hk cut b. no_cut 10 [] k m refl cut;
  never = λ d v is.
      let same = same_lines good (lines d) (run_plain Start good t refl r) (lines_plain d v) (sym e ∙ is) in
      let to = subst (λ k. Run Start k t) same r in
      let is_giving : giving t ≡ true = ap giving (run_same Start (lines d) t (Giving d.rules d.entries) refl to (reached d v)) in
      let z : true ≡ false = sym is_giving ∙ early in
      true≢false z;
}

-- two ways to begin with whole lines: the same lines, or one goes on
abbrev Onward : List Bytes → Bytes → List Bytes → Type 0
Onward g r h = (l : Bytes) × Line l × ((more : List Bytes) × (h ≡ g ++ (l ∷ more)) × ((tail : Bytes) × (r ≡ l ++ 10 ∷ tail)))

onward_cons : (k : Bytes) (g h : List Bytes) (r : Bytes) → Onward g r h → Onward (k ∷ g) r (k ∷ h)
onward_cons k g h r o = (o.0, o.1, (o.2.0, ap (λ ls. k ∷ ls) o.2.1, o.2.2))

compare : (g h : List Bytes) (r s : Bytes) → AllByRecursion Line g → AllByRecursion Line h → lines_text g ++ r ≡ lines_text h ++ s → (g ≡ h) ⊎ (Onward g r h ⊎ Onward h s g)
compare [] [] r s hg hh e = inl refl
compare [] (l ∷ h) r s hg hh e = inr (inl (l, hh.0, (h, refl, (lines_text h ++ s, e ∙ append_assoc l (10 ∷ lines_text h) s))))
compare (l ∷ g) [] r s hg hh e = inr (inr (l, hg.0, (g, refl, (lines_text g ++ r, sym e ∙ append_assoc l (10 ∷ lines_text g) r))))
compare (k ∷ g) (l ∷ h) r s hg hh e =
    let both = same_cut 10 k l (lines_text g ++ r) (lines_text h ++ s) hg.0 hh.0 (sym (append_assoc k (10 ∷ lines_text g) r) ∙ e ∙ append_assoc l (10 ∷ lines_text h) s) in
    let same : k ≡ l = both.0 in
    ⊎_elim
    (λ (p : g ≡ h). inl (cc))
    (⊎_elim
    (λ (o : Onward g r h). inr (inl (subst (λ x. Onward (k ∷ g) r (x ∷ h)) same (onward_cons k g h r o))))
    (λ (o : Onward h s g). inr (inr (subst (λ x. Onward (x ∷ h) s (k ∷ g)) same (onward_cons k h g s o)))))
    (compare g h r s hg.1 hh.1 both.1)

shorter : (bs : Bytes) (j k : ℕ) (p : Refused bs j) (q : Refused bs k) → Onward p.good p.rest q.good → ⊥
shorter bs j k p q o =
    let l = o.0 in
    let more = o.2.0 in
    let b = q.before in
    let is : lines_text q.good ≡ (lines_text p.good ++ (l ++ 10 ∷ [])) ++ lines_text more =
    ap lines_text o.2.1 ∙ lines_append p.good (l ∷ more) ∙ ap (λ x. lines_text p.good ++ x) (longer l (lines_text more)) ∙ sym (append_assoc (lines_text p.good) (l ++ 10 ∷ []) (lines_text more)) in
    p.here l o.2.2.0 o.1 o.2.2.1
    (b.0, b.1, (lines_text more ++ b.2.0, b.2.1 ∙ ap (λ x. x ++ b.2.0) is ∙ append_assoc (lines_text p.good ++ (l ++ 10 ∷ [])) (lines_text more) b.2.0))

pub one_line : OneLine
one_line bs j k p q =
    ⊎_elim
    (λ (e : p.good ≡ q.good). p.count ∙ ap (λ ls. length ls + 1) e ∙ sym q.count)
    (⊎_elim
    (λ (o : Onward p.good p.rest q.good). absurd (shorter bs j k p q o))
    (λ (o : Onward q.good q.rest p.good). absurd (shorter bs k j q p o)))
    (compare p.good q.good p.rest q.rest p.plain q.plain (sym p.split ∙ q.split))
