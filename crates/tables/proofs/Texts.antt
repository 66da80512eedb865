-- A text and its lines: each is known from the other. Assumes nothing.
use Rattle.std.proofs.Common.{◌≡◌, ℕ, ◌+◌, ◌≤◌, ◌<◌, true, not, eqb, cond, List, [], ◌∷◌, ◌++◌, length, sym, refl, ap, ◌∙◌, subst, ⊎_elim, inl, inr, append_assoc, append-nil, arith, ◌≢◌, ◌⊎◌}
use Rattle.std.specs.List.{onto_first, AllByRecursion}
use Rattle.std.proofs.lemmas.Bool.{and_parts, not-true, eqb-false, ne_eqb, cases_eq}
use Rattle.text.specs.Pieces.{Bytes, Line, free, lines_text}
use Rattle.text.proofs.Cuts.{free_cons, lines_append}
use Rattle.tables.specs.Lines.{lines_of, IsTextOf, LinesAreWritten}

free_head : (c : ℕ) (cs : Bytes) → Line (c ∷ cs) → c ≡ 10 → ⊥
free_head c cs h e = eqb-false c 10 (not-true (eqb c 10) (and_parts (not (eqb c 10)) (free 10 cs) h).0) e

free_tail : (c : ℕ) (cs : Bytes) → Line (c ∷ cs) → Line cs
free_tail c cs h = (and_parts (not (eqb c 10)) (free 10 cs) h).1

onto : (c : ℕ) (cs : Bytes) → (c ≡ 10 → ⊥) → lines_of (c ∷ cs) ≡ onto_first c (lines_of cs)
onto c cs ne = ap (λ b. cond b ([] ∷ lines_of cs) (onto_first c (lines_of cs))) (ne_eqb c 10 ne)

-- the first line and those behind its newline
pub lines_cons : (line rest : Bytes) → Line line → lines_of (line ++ 10 ∷ rest) ≡ line ∷ lines_of rest
lines_cons [] rest h = refl
lines_cons (c ∷ line) rest h = onto c (line ++ 10 ∷ rest) (free_head c line h) ∙ ap (onto_first c) (lines_cons line rest (free_tail c line h))

-- a last line without its newline
pub lines_last : (line : Bytes) → Line line → 0 < length line → lines_of line ≡ line ∷ []
lines_last [] h some = absurd (omega arith)
lines_last (c ∷ []) h some = onto c [] (free_head c [] h)
lines_last (c ∷ d ∷ line) h some = onto c (d ∷ line) (free_head c (d ∷ line) h) ∙ ap (onto_first c) (lines_last (d ∷ line) (free_tail c (d ∷ line) h) (omega arith))

pub lines_whole : (ls : List Bytes) (rest : Bytes) → AllByRecursion Line ls → lines_of (lines_text ls ++ rest) ≡ ls ++ lines_of rest
lines_whole [] rest h = refl
lines_whole (l ∷ ls) rest h = ap lines_of (append_assoc l (10 ∷ lines_text ls) rest) ∙ lines_cons l (lines_text ls ++ rest) h.0 ∙ ap (λ m. l ∷ m) (lines_whole ls rest h.1)

some_byte : (line : Bytes) → line ≢ [] → 0 < length line
some_byte [] ne = absurd (ne refl)
some_byte (c ∷ line) ne = omega arith

last_plain : (front : List Bytes) (last : Bytes) → AllByRecursion Line (front ++ (last ∷ [])) → AllByRecursion Line front × Line last
last_plain [] last h = (tt, h.0)
last_plain (l ∷ front) last h = let more = last_plain front last h.1 in ((h.0, more.0), more.1)

read : (ls : List Bytes) (text : Bytes) → AllByRecursion Line ls → IsTextOf ls text → lines_of text ≡ ls
read ls text h is =
    ⊎_elim
    (λ (whole : text ≡ lines_text ls). ap lines_of whole ∙ ap lines_of (sym (append-nil (lines_text ls))) ∙ lines_whole ls [] h ∙ append-nil ls)
    (λ (cut : (front : List Bytes) × (last : Bytes) × (ls ≡ front ++ (last ∷ [])) × (last ≢ []) × (text ≡ lines_text front ++ last)).
    let plain = last_plain cut.0 cut.1 (subst (AllByRecursion Line) cut.2 h) in
    ap lines_of cut.4 ∙ lines_whole cut.0 cut.1 plain.0 ∙ ap (λ m. cut.0 ++ m) (lines_last cut.1 plain.1 (some_byte cut.1 cut.3)) ∙ sym cut.2)
    is

onto_plain : (c : ℕ) (ls : List Bytes) → (c ≡ 10 → ⊥) → AllByRecursion Line ls → AllByRecursion Line (onto_first c ls)
onto_plain c [] ne h = (free_cons 10 c [] ne refl, tt)
onto_plain c (l ∷ ls) ne h = (free_cons 10 c l ne h.0, h.1)

pub lines_plain : (text : Bytes) → AllByRecursion Line (lines_of text)
lines_plain [] = tt
lines_plain (c ∷ text) =
    ⊎_elim
    (λ (e : c ≡ 10). subst (λ b. AllByRecursion Line (lines_of (b ∷ text))) (sym e) (refl, lines_plain text))
    (λ (ne : c ≡ 10 → ⊥). subst (AllByRecursion Line) (sym (onto c text ne)) (onto_plain c (lines_of text) ne (lines_plain text)))
    (cases_eq c 10)

abbrev Cut : List Bytes → Bytes → Type 0
Cut ls text = (front : List Bytes) × (last : Bytes) × (ls ≡ front ++ (last ∷ [])) × (last ≢ []) × (text ≡ lines_text front ++ last)

no_nil : (c : ℕ) (cs : Bytes) → c ∷ cs ≡ [] → ⊥
no_nil c cs e = let z : ◌≡◌ {A = ℕ} 0 1 = cc in omega arith

no_last : (front : List Bytes) (last : Bytes) → [] ≡ front ++ (last ∷ []) → ⊥
no_last [] last e = let z : ◌≡◌ {A = ℕ} 0 1 = cc in omega arith
no_last (l ∷ front) last e = let z : ◌≡◌ {A = ℕ} 0 1 = cc in omega arith

onto_cut : (c : ℕ) (l : Bytes) (ls : List Bytes) (text : Bytes) (front : List Bytes) (last : Bytes) → l ∷ ls ≡ front ++ (last ∷ []) → last ≢ [] → text ≡ lines_text front ++ last → Cut ((c ∷ l) ∷ ls) (c ∷ text)
onto_cut c l ls text [] last is ne e =
    let same : l ≡ last = cc in
    let none : ls ≡ [] = cc in
    ([], c ∷ last, (cc), no_nil c last, ap (λ t. c ∷ t) e)
onto_cut c l ls text (f ∷ front) last is ne e =
    let same : l ≡ f = cc in
    let more : ls ≡ front ++ (last ∷ []) = cc in
    ((c ∷ f) ∷ front, last, (cc), ne, ap (λ t. c ∷ t) e)

-- one more byte in front of the first line
onto_text : (c : ℕ) (ls : List Bytes) (text : Bytes) → IsTextOf ls text → IsTextOf (onto_first c ls) (c ∷ text)
onto_text c [] text is =
    ⊎_elim
    (λ (whole : text ≡ []). inr ([], c ∷ [], refl, no_nil c [], ap (λ t. c ∷ t) whole))
    (λ (cut : Cut [] text). absurd (no_last cut.0 cut.1 cut.2))
    is
onto_text c (l ∷ ls) text is =
    ⊎_elim
    (λ (whole : text ≡ lines_text (l ∷ ls)). inl (ap (λ t. c ∷ t) whole))
    (λ (cut : Cut (l ∷ ls) text). inr (onto_cut c l ls text cut.0 cut.1 cut.2 cut.3 cut.4))
    is

-- an empty line in front
after_text : (ls : List Bytes) (text : Bytes) → IsTextOf ls text → IsTextOf ([] ∷ ls) (10 ∷ text)
after_text ls text is =
    ⊎_elim
    (λ (whole : text ≡ lines_text ls). inl (ap (λ t. 10 ∷ t) whole))
    (λ (cut : Cut ls text). inr ([] ∷ cut.0, cut.1, ap (λ m. [] ∷ m) cut.2, cut.3, ap (λ t. 10 ∷ t) cut.4))
    is

written : (text : Bytes) → IsTextOf (lines_of text) text
written [] = inl refl
written (c ∷ text) =
    ⊎_elim
    (λ (e : c ≡ 10). subst (λ b. IsTextOf (lines_of (b ∷ text)) (b ∷ text)) (sym e) (after_text (lines_of text) text (written text)))
    (λ (ne : c ≡ 10 → ⊥). subst (λ ls. IsTextOf ls (c ∷ text)) (sym (onto c text ne)) (onto_text c (lines_of text) text (written text)))
    (cases_eq c 10)

pub lines_are_written : LinesAreWritten
lines_are_written = record { read = read; written = λ text. (lines_plain text, written text) }
