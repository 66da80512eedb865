-- Letters that seats cut into words: what fits, one more rule, word or letter, and the word of a variable. Assumes nothing.
use Rattle.std.proofs.Common.{◌≡◌, ℕ, suc, ◌+◌, ◌-◌, ◌<◌, ◌≤◌, true, false, cond, eqb, leb, List, [], ◌∷◌, ◌++◌, reverse, length, get_or, take, drop, Some, None, sym, refl, ap, ◌∙◌, ap₂, arith, lit≤}
use lib.Seq.{drop-append-le, take-append-le}
use Rattle.std.proofs.lemmas.List.{take_all, take_more, take-take, drop_all, length-take-le, length-drop, length-reverse, length_push}
use Rattle.std.proofs.lemmas.Bool.{and_parts, and_from, leb-true, eqb-true, le-leb, lt-leb, cond-true, cond-false}
use Rattle.model.specs.declared.Rule.{Rule}
use Rattle.model.specs.Spelling.{Word, known}
use Rattle.model.specs.Witnesses.{Entry, entries_fit, entry_fits, least, letters_in, word_of}
use Rattle.model.proofs.Entries.{EntryAfter, entry_after, from_after, below_more, below_push}
use Rattle.model.proofs.Fitting.{newest_reverse}
use Rattle.witness.specs.Answers.{lengthened}
use Rattle.witness.specs.Seats.{entries, tight}
use Rattle.witness.specs.declared.seats.Seat.{Seat}

newest_entry : (rules : List Rule) (e : Entry) (older : List Entry) → entries_fit rules (e ∷ older) ≡ true → EntryAfter rules older e × (entries_fit rules older ≡ true)
newest_entry rules e older h = let p = and_parts (entry_fits rules older e) (entries_fit rules older) h in (entry_after rules older e p.0, p.1)

pub entries_few : (rules : List Rule) (es : List Entry) → entries_fit rules es ≡ true → letters_in es ≤ 1024
entries_few rules [] h = lit≤ tt
entries_few rules (e ∷ older) h = (newest_entry rules e older h).0.few

-- variables rise, so there are at most 26 entries
pub entries_rise : (rules : List Rule) (es : List Entry) → entries_fit rules es ≡ true → length es ≤ least es
entries_rise rules [] h = lit≤ tt
entries_rise rules (e ∷ older) h =
    let p = newest_entry rules e older h in
    let rest : length older ≤ least older = entries_rise rules older p.1 in
    let up : least older ≤ e.variable = p.0.rises in
    omega arith

pub count_entries : (seats : List Seat) (letters : Word) → length (entries seats letters) ≡ length seats
count_entries [] letters = refl
count_entries (seat ∷ older) letters = ap suc (count_entries older (take seat.start letters))

pub begun : (seats : List Seat) (letters : Word) (n : ℕ) → n ≡ length seats → 0 < n → leb (length (entries (reverse seats) letters)) 0 ≡ false
begun seats letters n is some = lt-leb (length (entries (reverse seats) letters)) 0 (omega (arith, count_entries (reverse seats) letters, length-reverse seats))

-- each letter lies in a word
pub letters_in_entries : (seats : List Seat) (letters : Word) → tight (length letters) seats ≡ true → letters_in (entries seats letters) ≡ length letters
letters_in_entries [] letters h = sym (eqb-true (length letters) 0 h)
letters_in_entries (seat ∷ older) letters h =
    let p = and_parts (leb seat.start (length letters)) (tight seat.start older) h in
    let le : seat.start ≤ length letters = leb-true seat.start (length letters) p.0 in
    let long : length (take seat.start letters) ≡ seat.start = length-take-le seat.start letters le in
    let rest : letters_in (entries older (take seat.start letters)) ≡ length (take seat.start letters) = letters_in_entries older (take seat.start letters) (ap (λ n. tight n older) long ∙ p.1) in
    omega (arith, length-drop seat.start letters)

-- one rule more
pub entries_fit_more : (rule : Rule) (rules : List Rule) (es : List Entry) → entries_fit rules es ≡ true → entries_fit (rule ∷ rules) es ≡ true
entries_fit_more rule rules [] h = refl
entries_fit_more rule rules (e ∷ older) h =
    let p = newest_entry rules e older h in
    let f = p.0 in
    and_from (entry_fits (rule ∷ rules) older e) (entries_fit (rule ∷ rules) older)
    (from_after (rule ∷ rules) older e (record { rises = f.rises; named = f.named; low = below_more (known rules) (known (rule ∷ rules)) e.word (omega arith) f.low; few = f.few }))
    (entries_fit_more rule rules older p.1)

-- one word more
pub start_entry : (seats : List Seat) (letters : Word) (x : ℕ) (seat : Seat) → seat.variable ≡ x → seat.start ≡ length letters → entries (seat ∷ seats) letters ≡ record { variable = x; word = [] } ∷ entries seats letters
start_entry seats letters x seat is at =
    ap₂ (λ e rest. e ∷ rest)
    (λ i. record { variable = is i; word = (drop_all seat.start letters (omega arith)) i })
    (ap (entries seats) (take_all seat.start letters (omega arith)))

pub start_fits : (rules : List Rule) (es : List Entry) (x : ℕ) → least es ≤ x → x < 26 → entries_fit rules es ≡ true → entries_fit rules (record { variable = x; word = [] } ∷ es) ≡ true
start_fits rules es x up named fit =
    and_from (entry_fits rules es (record { variable = x; word = [] })) (entries_fit rules es)
    (from_after rules es (record { variable = x; word = [] }) (record { rises = up; named = named; low = refl; few = omega (arith, entries_few rules es fit) }))
    fit

pub start_tight : (n : ℕ) (seats : List Seat) (seat : Seat) → seat.start ≡ n → tight n seats ≡ true → tight n (seat ∷ seats) ≡ true
start_tight n seats seat at h = and_from (leb seat.start n) (tight seat.start seats) (le-leb seat.start n (omega arith)) (ap (λ k. tight k seats) at ∙ h)

-- one letter more
pub push_entry : (seats : List Seat) (letters : Word) (a : ℕ) → tight (length letters) seats ≡ true → entries seats (letters ++ (a ∷ [])) ≡ lengthened a (entries seats letters)
push_entry [] letters a h = refl
push_entry (seat ∷ older) letters a h =
    let le : seat.start ≤ length letters = leb-true seat.start (length letters) (and_parts (leb seat.start (length letters)) (tight seat.start older) h).0 in
    ap₂ (λ w rest. record { variable = seat.variable; word = w } ∷ entries older rest) (drop-append-le seat.start letters (a ∷ []) le) (take-append-le seat.start letters (a ∷ []) le)

pub push_tight : (seats : List Seat) (n m : ℕ) → 0 < length seats → n ≤ m → tight n seats ≡ true → tight m seats ≡ true
push_tight [] n m some le h = absurd (omega arith)
push_tight (seat ∷ older) n m some le h =
    let p = and_parts (leb seat.start n) (tight seat.start older) h in
    let low : seat.start ≤ n = leb-true seat.start n p.0 in
    and_from (leb seat.start m) (tight seat.start older) (le-leb seat.start m (omega arith)) p.1

pub push_fits : (rules : List Rule) (es : List Entry) (a : ℕ) → a < known rules → letters_in es < 1024 → entries_fit rules es ≡ true → entries_fit rules (lengthened a es) ≡ true
push_fits rules [] a low few h = refl
push_fits rules (e ∷ older) a low few h =
    let p = newest_entry rules e older h in
    let f = p.0 in
    and_from (entry_fits rules older (record { variable = e.variable; word = e.word ++ (a ∷ []) })) (entries_fit rules older)
    (from_after rules older (record { variable = e.variable; word = e.word ++ (a ∷ []) }) (record { rises = f.rises; named = f.named; low = below_push (known rules) e.word a f.low low; few = omega (arith, length_push e.word a) }))
    p.1

-- seats gone through from the newest: those of `before` are left, with the letters before `end`
pub record Before (seats before : List Seat) (letters : Word) (x end : ℕ) : Type 0 where
  pub whole : tight end (reverse before) ≡ true
  pub within : end ≤ length letters
  pub same : word_of (entries (reverse before) (take end letters)) x ≡ word_of (entries (reverse seats) letters) x

pub before_all : (seats : List Seat) (letters : Word) (x : ℕ) → tight (length letters) (reverse seats) ≡ true → Before seats seats letters x (length letters)
before_all seats letters x h = record { whole = h; within = omega arith; same = ap (λ l. word_of (entries (reverse seats) l) x) (take_all (length letters) letters (omega arith)) }

-- none is left
pub before_none : (seats before : List Seat) (letters : Word) (x end : ℕ) → before ≡ [] → Before seats before letters x end → None ≡ word_of (entries (reverse seats) letters) x
before_none seats before letters x end none b = sym (ap (λ s. word_of (entries (reverse s) (take end letters)) x) none) ∙ b.same

-- the last seat that is left, and those before it
pub record Last (seats older : List Seat) (letters : Word) (x end : ℕ) (seat : Seat) : Type 0 where
  pub low : seat.start ≤ end
  pub here : eqb x seat.variable ≡ true → word_of (entries (reverse seats) letters) x ≡ Some (drop seat.start (take end letters))
  pub past : eqb x seat.variable ≡ false → Before seats older letters x seat.start

pub last_before : (seats before older : List Seat) (letters : Word) (x end : ℕ) (seat : Seat) → before ≡ older ++ (seat ∷ []) → Before seats before letters x end → Last seats older letters x end seat
last_before seats before older letters x end seat is b =
    let split : reverse before ≡ seat ∷ reverse older = ap reverse is ∙ newest_reverse older seat in
    let p = and_parts (leb seat.start end) (tight seat.start (reverse older)) (sym (ap (tight end) split) ∙ b.whole) in
    let low : seat.start ≤ end = leb-true seat.start end p.0 in
    let found = Some (drop seat.start (take end letters)) in
    let rest = word_of (entries (reverse older) (take seat.start (take end letters))) x in
    let at : word_of (entries (reverse seats) letters) x ≡ cond (eqb x seat.variable) found rest = sym b.same ∙ ap (λ s. word_of (entries s (take end letters)) x) split in
    record {
      low = low;
      here = λ t. at ∙ cond-true (eqb x seat.variable) found rest t;
      past = λ t. record {
        whole = p.1;
        within = omega (arith, b.within);
        same = ap (λ l. word_of (entries (reverse older) l) x) (sym (take-take seat.start end letters low)) ∙ sym (cond-false (eqb x seat.variable) found rest t) ∙ sym at;
      };
    }

-- the newest seat has the highest variable
pub least_last : (seats : List Seat) (letters : Word) (seat : Seat) → 0 < length seats → seat ≡ get_or seats (length seats - 1) seat → least (entries (reverse seats) letters) ≡ seat.variable + 1
least_last seats letters seat some is =
    let end : (length seats - 1) + 1 ≡ length seats = omega arith in
    let lt : length seats - 1 < length seats = omega arith in
    let split : seats ≡ take (length seats - 1) seats ++ (seat ∷ []) =
    sym (take_all (length seats) seats (omega arith)) ∙ ap (λ n. take n seats) (sym end) ∙ take_more seats (length seats - 1) seat lt ∙ ap (λ s. take (length seats - 1) seats ++ (s ∷ [])) (sym is) in
    ap (λ s. least (entries s letters)) (ap reverse split ∙ newest_reverse (take (length seats - 1) seats) seat) ∙ omega arith

pub least_bound : (rules : List Rule) (es : List Entry) → entries_fit rules es ≡ true → least es ≤ 26
least_bound rules [] h = lit≤ tt
least_bound rules (e ∷ older) h = (newest_entry rules e older h).0.named
