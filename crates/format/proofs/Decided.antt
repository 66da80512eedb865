-- Any bytes are a listing, or are refused at a line: a search through all that may come decides each line. Assumes nothing.
use Rattle.std.proofs.Common.{◌≡◌, ℕ, zero, suc, ◌+◌, ◌<◌, ◌≤◌, Bool, true, false, ◌⊎◌, List, [], ◌∷◌, ◌++◌, length, Some, None, sym, refl, ap, ◌∙◌, subst, inl, inr, ⊎_elim, append_assoc, append-nil, arith}
use Rattle.std.specs.List.{AllByRecursion}
use Rattle.std.proofs.lemmas.List.{nil_from_length}
use Rattle.std.proofs.lemmas.Bool.{cases_eq, true≢false}
use Rattle.model.specs.declared.Rule.{Rule}
use Rattle.model.specs.declared.Rule.TheVariants.{Pair, Block}
use Rattle.model.specs.Spelling.{Word, known}
use Rattle.model.specs.Witnesses.{Contents, Entry, rule_fits, entry_fits, all_below, valid}
use Rattle.text.specs.Pieces.{Bytes, Line, lines_text}
use Rattle.text.proofs.Cuts.{free_cons, lines_append}
use Rattle.format.specs.Listing.{rule_line, entry_line, rule_head, entry_head, listing}
use Rattle.format.specs.Reading.{Refused, ListingOrLine}
use Rattle.format.specs.Steps.{State, Start, Ruling, Gapped, Giving, Move, fits, line, after, Run, Stuck}
use Rattle.model.proofs.Entries.{below_parts, entry_after}
use Rattle.format.proofs.Lines.{rule_within}
use Rattle.format.proofs.Refusals.{ends, refuse_line, refuse_cut, refuse_end}

bytes_same : (p q : Bytes) → (p ≡ q) ⊎ (p ≡ q → ⊥)
bytes_same [] [] = inl refl
bytes_same [] (d ∷ q) = inr (λ e. let z : ◌≡◌ {A = ℕ} 0 1 = cc in omega arith)
bytes_same (c ∷ p) [] = inr (λ e. let z : ◌≡◌ {A = ℕ} 0 1 = cc in omega arith)
bytes_same (c ∷ p) (d ∷ q) =
    ⊎_elim
    (λ (h : c ≡ d). ⊎_elim (λ (t : p ≡ q). inl (cc)) (λ (n : p ≡ q → ⊥). inr (λ e. n (cc))) (bytes_same p q))
    (λ (n : c ≡ d → ⊥). inr (λ e. n (cc)))
    (cases_eq c d)

-- a test that passes, and bytes that are the line
both : (b : Bool) (p q : Bytes) → ((b ≡ true) × (p ≡ q)) ⊎ ((b ≡ true) × (p ≡ q) → ⊥)
both false p q = inr (λ h. true≢false (sym h.0))
both true p q = ⊎_elim (λ (e : p ≡ q). inl (refl, e)) (λ (n : p ≡ q → ⊥). inr (λ h. n h.1)) (bytes_same p q)

below : (a n : ℕ) → a < suc n → (a ≡ n → ⊥) → a < n
below a n lt ne = omega arith

-- the numbers below n: one with Q, or each with R
some_below : (n : ℕ) (Q R : ℕ → Type 0) → ((a : ℕ) → Q a ⊎ R a) → ((a : ℕ) × Q a) ⊎ ((a : ℕ) → a < n → R a)
some_below zero Q R d = inr (λ a lt. absurd (omega arith))
some_below (suc n) Q R d =
    ⊎_elim
    (λ (q : Q n). inl (n, q))
    (λ (r : R n). ⊎_elim
    (λ (q : (a : ℕ) × Q a). inl q)
    (λ (f : (a : ℕ) → a < n → R a). inr (λ a lt. ⊎_elim (λ (e : a ≡ n). subst R (sym e) r) (λ (ne : a ≡ n → ⊥). f a (below a n lt ne)) (cases_eq a n)))
    (some_below n Q R d))
    (d n)

each : (m n : ℕ) (R : Word → Type 0) → R [] → ((a : ℕ) → a < n → (w : Word) → length w ≤ m → all_below n w ≡ true → R (a ∷ w)) → (w : Word) → length w ≤ suc m → all_below n w ≡ true → R w
each m n R r f [] le lows = r
each m n R r f (a ∷ w) le lows =
    let p = below_parts n a w lows in
    f a p.0 w (omega arith) p.1

-- the lists of at most m numbers below n: one with Q, or each with R
some_list : (m n : ℕ) (Q R : Word → Type 0) → ((w : Word) → Q w ⊎ R w) → ((w : Word) × Q w) ⊎ ((w : Word) → length w ≤ m → all_below n w ≡ true → R w)
some_list zero n Q R d =
    ⊎_elim
    (λ (q : Q []). inl ([], q))
    (λ (r : R []). inr (λ w le lows. subst R (sym (nil_from_length w (omega arith))) r))
    (d [])
some_list (suc m) n Q R d =
    ⊎_elim
    (λ (q : Q []). inl ([], q))
    (λ (r : R []). ⊎_elim
    (λ (q : (a : ℕ) × ((w : Word) × Q (a ∷ w))). inl (q.0 ∷ q.1.0, q.1.1))
    (λ (f : (a : ℕ) → a < n → (w : Word) → length w ≤ m → all_below n w ≡ true → R (a ∷ w)). inr (each m n R r f))
    (some_below n (λ a. (w : Word) × Q (a ∷ w)) (λ a. (w : Word) → length w ≤ m → all_below n w ≡ true → R (a ∷ w)) (λ a. some_list m n (λ w. Q (a ∷ w)) (λ w. R (a ∷ w)) (λ w. d (a ∷ w)))))
    (d [])

-- what a line brings at a state, if it brings anything
abbrev Next : State → Bytes → Type 0
Next s l = ((m : Move s) × (fits s m ≡ true) × (l ≡ line s m)) ⊎ Stuck s l

abbrev Brings : List Rule → Bytes → Rule → Type 0
Brings rs l r = (rule_fits rs r ≡ true) × (l ≡ rule_line (known rs) r)

abbrev Two : List Rule → Bytes → (ℕ → ℕ → Rule) → Type 0
Two rs l make = (x : ℕ) × ((y : ℕ) × Brings rs l (make x y))

abbrev NoTwo : List Rule → Bytes → (ℕ → ℕ → Rule) → ℕ → ℕ → Type 0
NoTwo rs l make m n = (x : ℕ) → x < m → (y : ℕ) → y < n → Brings rs l (make x y) → ⊥

two : (rs : List Rule) (l : Bytes) (make : ℕ → ℕ → Rule) (m n : ℕ) → Two rs l make ⊎ NoTwo rs l make m n
two rs l make m n =
    some_below m (λ x. (y : ℕ) × Brings rs l (make x y)) (λ x. (y : ℕ) → y < n → Brings rs l (make x y) → ⊥)
    (λ x. some_below n (λ y. Brings rs l (make x y)) (λ y. Brings rs l (make x y) → ⊥) (λ y. both (rule_fits rs (make x y)) l (rule_line (known rs) (make x y))))

no_rule : (rs : List Rule) (l : Bytes) → NoTwo rs l (λ x y. Pair x y) (known rs) (known rs) → NoTwo rs l (λ x k. Block x k) (known rs) 1000001 → (r : Rule) → rule_fits rs r ≡ true → l ≡ rule_line (known rs) r → ⊥
no_rule rs l np nb (Pair x y) h e = let p = (rule_within rs (Pair x y) h).1 in np x p.0 y p.1 (h, e)
no_rule rs l np nb (Block x k) h e = let p = (rule_within rs (Block x k) h).1 in nb x p.0 k p.1 (h, e)

rule_next : (rs : List Rule) (l : Bytes) → ((r : Rule) × Brings rs l r) ⊎ ((r : Rule) → rule_fits rs r ≡ true → l ≡ rule_line (known rs) r → ⊥)
rule_next rs l =
    ⊎_elim
    (λ (p : Two rs l (λ x y. Pair x y)). inl (Pair p.0 p.1.0, p.1.1))
    (λ (np : NoTwo rs l (λ x y. Pair x y) (known rs) (known rs)). ⊎_elim
    (λ (b : Two rs l (λ x k. Block x k)). inl (Block b.0 b.1.0, b.1.1))
    (λ (nb : NoTwo rs l (λ x k. Block x k) (known rs) 1000001). inr (no_rule rs l np nb))
    (two rs l (λ x k. Block x k) (known rs) 1000001))
    (two rs l (λ x y. Pair x y) (known rs) (known rs))

stuck_rule : (rs : List Rule) (l : Bytes) → (l ≡ [] → ⊥) → ((r : Rule) → rule_fits rs r ≡ true → l ≡ rule_line (known rs) r → ⊥) → Stuck (Ruling rs) l
stuck_rule rs l ne nr None h e = ne e
stuck_rule rs l ne nr (Some r) h e = nr r h e

abbrev entry_of : ℕ → Word → Entry
entry_of v w = record { variable = v; word = w }

abbrev Gives : List Rule → List Entry → Bytes → Entry → Type 0
Gives rs es l e = (entry_fits rs es e ≡ true) × (l ≡ entry_line rs e)

abbrev NoEntry : List Rule → List Entry → Bytes → Type 0
NoEntry rs es l = (v : ℕ) → v < 26 → (w : Word) → length w ≤ 1024 → all_below (known rs) w ≡ true → Gives rs es l (entry_of v w) → ⊥

entry_next : (rs : List Rule) (es : List Entry) (l : Bytes) → ((v : ℕ) × ((w : Word) × Gives rs es l (entry_of v w))) ⊎ NoEntry rs es l
entry_next rs es l =
    some_below 26 (λ v. (w : Word) × Gives rs es l (entry_of v w)) (λ v. (w : Word) → length w ≤ 1024 → all_below (known rs) w ≡ true → Gives rs es l (entry_of v w) → ⊥)
    (λ v. some_list 1024 (known rs) (λ w. Gives rs es l (entry_of v w)) (λ w. Gives rs es l (entry_of v w) → ⊥) (λ w. both (entry_fits rs es (entry_of v w)) l (entry_line rs (entry_of v w))))

stuck_entry : (rs : List Rule) (es : List Entry) (l : Bytes) → NoEntry rs es l → Stuck (Giving rs es) l
stuck_entry rs es l none e h is =
    let g = entry_after rs es e h in
    let short : length e.word ≤ 1024 = omega (arith, g.few) in
    none e.variable g.named e.word short g.low (h, is)

next : (s : State) (l : Bytes) → Next s l
next Start l = ⊎_elim (λ (e : l ≡ rule_head). inl (tt, refl, e)) (λ (n : l ≡ rule_head → ⊥). inr (λ m h e. n e)) (bytes_same l rule_head)
next (Ruling rs) l =
    ⊎_elim
    (λ (e : l ≡ []). inl (None, refl, e))
    (λ (n : l ≡ [] → ⊥). ⊎_elim
    (λ (r : (r : Rule) × Brings rs l r). inl (Some r.0, r.1.0, r.1.1))
    (λ (nr : (r : Rule) → rule_fits rs r ≡ true → l ≡ rule_line (known rs) r → ⊥). inr (stuck_rule rs l n nr))
    (rule_next rs l))
    (bytes_same l [])
next (Gapped rs) l = ⊎_elim (λ (e : l ≡ entry_head). inl (tt, refl, e)) (λ (n : l ≡ entry_head → ⊥). inr (λ m h e. n e)) (bytes_same l entry_head)
next (Giving rs es) l =
    ⊎_elim
    (λ (e : (v : ℕ) × ((w : Word) × Gives rs es l (entry_of v w))). inl (entry_of e.0 e.1.0, e.1.1.0, e.1.1.1))
    (λ (n : NoEntry rs es l). inr (stuck_entry rs es l n))
    (entry_next rs es l)

-- how far the lines lead
abbrev StuckAt : State → List Bytes → Type 0
StuckAt t [] = Unit {0}
StuckAt t (l ∷ ls) = Stuck t l

abbrev Furthest : State → List Bytes → Type 0
Furthest s ls = (good : List Bytes) × ((more : List Bytes) × (ls ≡ good ++ more) × ((t : State) × Run s good t × StuckAt t more))

furthest : (s : State) (ls : List Bytes) → Furthest s ls
furthest s [] = ([], ([], refl, (s, refl, tt)))
furthest s (l ∷ ls) =
    ⊎_elim
    (λ (m : (m : Move s) × (fits s m ≡ true) × (l ≡ line s m)).
    let f = furthest (after s m.0) ls in
    (l ∷ f.0, (f.1.0, ap (λ k. l ∷ k) f.1.1, (f.1.2.0, (m.0, m.1, m.2, f.1.2.1), f.1.2.2))))
    (λ (stuck : Stuck s l). ([], (l ∷ ls, refl, (s, refl, stuck))))
    (next s l)

-- whole lines, and what is left
abbrev Cut : Bytes → Type 0
Cut bs = (ls : List Bytes) × ((t : Bytes) × AllByRecursion Line ls × Line t × (bs ≡ lines_text ls ++ t))

longer_cut : (c : ℕ) (bs : Bytes) → (c ≡ 10 → ⊥) → (ls : List Bytes) (t : Bytes) → AllByRecursion Line ls → Line t → bs ≡ lines_text ls ++ t → Cut (c ∷ bs)
longer_cut c bs ne [] t hl ht e = ([], (c ∷ t, tt, free_cons 10 c t ne ht, ap (λ x. c ∷ x) e))
longer_cut c bs ne (l ∷ ls) t hl ht e = ((c ∷ l) ∷ ls, (t, (free_cons 10 c l ne hl.0, hl.1), ht, ap (λ x. c ∷ x) e))

cut : (bs : Bytes) → Cut bs
cut [] = ([], ([], tt, refl, refl))
cut (c ∷ bs) =
    let more = cut bs in
    ⊎_elim
    (λ (e : c ≡ 10). ([] ∷ more.0, (more.1.0, (refl, more.1.1), more.1.2, (λ i. e i ∷ more.1.3 i))))
    (λ (ne : c ≡ 10 → ⊥). longer_cut c bs ne more.0 more.1.0 more.1.1 more.1.2 more.1.3)
    (cases_eq c 10)

abbrev Answer : Bytes → Type 0
Answer bs = ((d : Contents) × (valid d ≡ true) × (bs ≡ listing d)) ⊎ ((k : ℕ) × Refused bs k)

stopped : (bs : Bytes) (good : List Bytes) (t : State) → Run Start good t → bs ≡ lines_text good → Answer bs
stopped bs good Start r e = inr (length good + 1, refuse_end bs good Start r refl e)
stopped bs good (Ruling rs) r e = inr (length good + 1, refuse_end bs good (Ruling rs) r refl e)
stopped bs good (Gapped rs) r e = inr (length good + 1, refuse_end bs good (Gapped rs) r refl e)
stopped bs good (Giving rs es) r e = let h = ends bs good rs es r e in inl (record { rules = rs; entries = es }, h.0, h.1)

plain_at : (good : List Bytes) (l : Bytes) (more : List Bytes) → AllByRecursion Line (good ++ (l ∷ more)) → Line l
plain_at [] l more h = h.0
plain_at (k ∷ good) l more h = plain_at good l more h.1

finish : (bs : Bytes) (good more : List Bytes) (tail : Bytes) (t : State) → Run Start good t → StuckAt t more → AllByRecursion Line (good ++ more) → Line tail → bs ≡ lines_text (good ++ more) ++ tail → Answer bs
finish bs good [] [] t r stuck hl ht e = stopped bs good t r (e ∙ append-nil (lines_text (good ++ [])) ∙ ap lines_text (append-nil good))
finish bs good [] (c ∷ tail) t r stuck hl ht e = inr (length good + 1, refuse_cut bs good t c tail r ht (e ∙ ap (λ k. lines_text k ++ (c ∷ tail)) (append-nil good)))
finish bs good (l ∷ more) tail t r stuck hl ht e =
    inr (
      length good + 1,
      refuse_line bs good t l (lines_text more ++ tail) r (plain_at good l more hl) stuck
          (e ∙ ap (λ x. x ++ tail) (lines_append good (l ∷ more)) ∙ append_assoc (lines_text good) (l ++ 10 ∷ lines_text more) tail ∙ ap (λ x. lines_text good ++ x) (append_assoc l (10 ∷ lines_text more) tail)),
    )

pub listing_or_line : ListingOrLine
listing_or_line bs =
    let c = cut bs in
    let f = furthest Start c.0 in
    let is : c.0 ≡ f.0 ++ f.1.0 = f.1.1 in
    finish bs f.0 f.1.0 c.1.0 f.1.2.0 f.1.2.1 f.1.2.2 (subst (λ k. AllByRecursion Line k) is c.1.1) c.1.2 (c.1.3 ∙ ap (λ k. lines_text k ++ c.1.0) is)
