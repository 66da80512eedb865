-- Bytes cut at a byte that the parts do not have. Assumes nothing.
use Rattle.std.proofs.Common.{◌≡◌, ℕ, true, not, eqb, List, [], ◌∷◌, ◌++◌, sym, refl, ap, ◌∙◌, append_assoc, append-nil, arith}
use Rattle.std.specs.List.{AllByRecursion}
use Rattle.std.proofs.lemmas.Bool.{and_parts, and_from, not-true, eqb-false, ne_eqb, not_from_false}
use Rattle.text.specs.Pieces.{Bytes, between, free, Line, lines_text}

free_head : (b c : ℕ) (cs : Bytes) → free b (c ∷ cs) ≡ true → c ≡ b → ⊥
free_head b c cs h e = eqb-false c b (not-true (eqb c b) (and_parts (not (eqb c b)) (free b cs) h).0) e

free_tail : (b c : ℕ) (cs : Bytes) → free b (c ∷ cs) ≡ true → free b cs ≡ true
free_tail b c cs h = (and_parts (not (eqb c b)) (free b cs) h).1

pub free_cons : (b c : ℕ) (cs : Bytes) → (c ≡ b → ⊥) → free b cs ≡ true → free b (c ∷ cs) ≡ true
free_cons b c cs n h = and_from (not (eqb c b)) (free b cs) (not_from_false (eqb c b) (ne_eqb c b n)) h

pub free_append : (b : ℕ) (p q : Bytes) → free b p ≡ true → free b q ≡ true → free b (p ++ q) ≡ true
free_append b [] q hp hq = hq
free_append b (c ∷ p) q hp hq = free_cons b c (p ++ q) (free_head b c p hp) (free_append b p q (free_tail b c p hp) hq)

-- a part has no cut
pub no_cut : (b : ℕ) (p q r : Bytes) → free b p ≡ true → p ≡ q ++ b ∷ r → ⊥
no_cut b [] [] r h e = let z : ◌≡◌ {A = ℕ} 0 1 = cc in omega arith
no_cut b [] (d ∷ q) r h e = let z : ◌≡◌ {A = ℕ} 0 1 = cc in omega arith
no_cut b (c ∷ p) [] r h e = free_head b c p h (cc)
no_cut b (c ∷ p) (d ∷ q) r h e = no_cut b p q r (free_tail b c p h) (cc)

-- the first cut is one
pub same_cut : (b : ℕ) (p q r s : Bytes) → free b p ≡ true → free b q ≡ true → p ++ b ∷ r ≡ q ++ b ∷ s → (p ≡ q) × (r ≡ s)
same_cut b [] [] r s hp hq e = (refl, cc)
same_cut b [] (d ∷ q) r s hp hq e = absurd (free_head b d q hq (cc))
same_cut b (c ∷ p) [] r s hp hq e = absurd (free_head b c p hp (cc))
same_cut b (c ∷ p) (d ∷ q) r s hp hq e =
    let rest : p ++ b ∷ r ≡ q ++ b ∷ s = cc in
    let both = same_cut b p q r s (free_tail b c p hp) (free_tail b d q hq) rest in
    let front : p ≡ q = both.0 in
    (cc, both.1)

-- parts that lack the byte between them are known from the whole
pub same_between : (b : ℕ) (p q : Bytes) (ps qs : List Bytes) → free b p ≡ true → free b q ≡ true → AllByRecursion (λ l. free b l ≡ true) ps → AllByRecursion (λ l. free b l ≡ true) qs → between b p ps ≡ between b q qs → (p ≡ q) × (ps ≡ qs)
same_between b p q [] [] hp hq hps hqs e = (e, refl)
same_between b p q [] (q' ∷ qs) hp hq hps hqs e = absurd (no_cut b p q (between b q' qs) hp e)
same_between b p q (p' ∷ ps) [] hp hq hps hqs e = absurd (no_cut b q p (between b p' ps) hq (sym e))
same_between b p q (p' ∷ ps) (q' ∷ qs) hp hq hps hqs e =
    let both = same_cut b p q (between b p' ps) (between b q' qs) hp hq e in
    let more = same_between b p' q' ps qs hps.0 hqs.0 hps.1 hqs.1 both.1 in
    let head : p' ≡ q' = more.0 in
    let tail : ps ≡ qs = more.1 in
    (both.0, cc)

-- what the parts lack, and is not between them, the whole lacks
pub free_between : (b c : ℕ) (p : Bytes) (ps : List Bytes) → (c ≡ b → ⊥) → free b p ≡ true → AllByRecursion (λ l. free b l ≡ true) ps → free b (between c p ps) ≡ true
free_between b c p [] n hp hps = hp
free_between b c p (q ∷ qs) n hp hps = free_append b p (c ∷ between c q qs) hp (free_cons b c (between c q qs) n (free_between b c q qs n hps.0 hps.1))

-- lines that stand at the start of a text are its first lines
pub first_lines : (ks ls : List Bytes) (rest : Bytes) → AllByRecursion Line ks → AllByRecursion Line ls → lines_text ks ≡ lines_text ls ++ rest → (more : List Bytes) × (ks ≡ ls ++ more) × (rest ≡ lines_text more)
first_lines ks [] rest hk hl e = (ks, refl, sym e)
first_lines [] ([] ∷ ls) rest hk hl e = absurd (let z : ◌≡◌ {A = ℕ} 0 1 = cc in omega arith)
first_lines [] ((c ∷ l) ∷ ls) rest hk hl e = absurd (let z : ◌≡◌ {A = ℕ} 0 1 = cc in omega arith)
first_lines (k ∷ ks) (l ∷ ls) rest hk hl e =
    let both = same_cut 10 k l (lines_text ks) (lines_text ls ++ rest) hk.0 hl.0 (e ∙ append_assoc l (10 ∷ lines_text ls) rest) in
    let more = first_lines ks ls rest hk.1 hl.1 both.1 in
    let head : k ≡ l = both.0 in
    let tail : ks ≡ ls ++ more.0 = more.1 in
    (more.0, cc, more.2)

pub lines_append : (ks ls : List Bytes) → lines_text (ks ++ ls) ≡ lines_text ks ++ lines_text ls
lines_append [] ls = refl
lines_append (k ∷ ks) ls = ap (λ t. k ++ 10 ∷ t) (lines_append ks ls) ∙ sym (append_assoc k (10 ∷ lines_text ks) (lines_text ls))

no_lines : (ls : List Bytes) → [] ≡ lines_text ls → ls ≡ []
no_lines [] e = refl
no_lines ([] ∷ ls) e = absurd (let z : ◌≡◌ {A = ℕ} 0 1 = cc in omega arith)
no_lines ((c ∷ l) ∷ ls) e = absurd (let z : ◌≡◌ {A = ℕ} 0 1 = cc in omega arith)

-- lines that have one text are the same
pub same_lines : (ks ls : List Bytes) → AllByRecursion Line ks → AllByRecursion Line ls → lines_text ks ≡ lines_text ls → ks ≡ ls
same_lines ks ls hk hl e =
    let f = first_lines ks ls [] hk hl (e ∙ sym (append-nil (lines_text ls))) in
    f.1 ∙ ap (λ m. ls ++ m) (no_lines f.0 f.2) ∙ append-nil ls
