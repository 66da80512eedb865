-- A word read letter by letter. Assumes nothing.
use Rattle.std.proofs.Common.{◌≡◌, ℕ, zero, suc, ◌+◌, ◌<◌, ◌≤◌, Bool, true, false, not, cond, eqb, leb, get_or, List, [], ◌∷◌, ◌++◌, length, Some, None, Ok, Err, MatchOption, Result, sym, refl, ap, ◌∙◌, append_assoc, arith, lit<, length-append, MatchResult}
use Rattle.std.specs.Result.{result_ok}
use Rattle.std.specs.List.{All, join_with_byte, slice_split}
use Rattle.std.proofs.lemmas.Bool.{and_parts, not-true, lt-leb, leb-false}
use Rattle.std.proofs.lemmas.List.Elements.{All-nil, All-cons}
use Rattle.std.proofs.lemmas.List.Splits.{slice_split_none, slice_split_at, length-slice_split, join_with_byte-slice_split}
use Rattle.model.specs.Spelling.{Word, known}
use Rattle.model.specs.Witnesses.{Contents, Entry, all_below, letters_in}
use Rattle.text.specs.Names.{letter_name}
use Rattle.text.specs.Pieces.{Bytes, free}
use Rattle.text.proofs.Names.{free_letter, same_letter}
use Rattle.format.specs.Listing.{letter_names, word_text}
use Rattle.model.proofs.Entries.{below_parts, below_at, below_push}
use Rattle.witness.specs.declared.refusals.LetterRefusal.{LetterRefusal}
use Rattle.witness.specs.declared.refusals.LetterRefusal.TheVariants.{NoWord, UnknownLetter, TooManyLetters}
use Rattle.witness.specs.Answers.{letter_refusal, lengthened, with_letter}
use Rattle.listing.specs.Words.{grown, with_letters, Pushed, NotPushed, Midway, Worded, NotWorded}

-- a letter that is not refused is known, and one that may come is not refused
unknown_not : (p q r : Bool) → cond p (Some NoWord) (cond q (Some UnknownLetter) (cond r (Some TooManyLetters) None)) ≡ None → q ≡ false
unknown_not false false r e = refl
unknown_not true q r e = absurd (let z : ◌≡◌ {A = ℕ} 0 1 = cc in omega arith)
unknown_not false true r e = absurd (let z : ◌≡◌ {A = ℕ} 0 1 = cc in omega arith)

taken : (c : Contents) (a : ℕ) → 0 < length c.entries → a < known c.rules → letters_in c.entries < 1024 → letter_refusal c a ≡ None
taken c a some low few =
    let one : leb (length c.entries) 0 ≡ false = lt-leb (length c.entries) 0 some in
    let two : leb (known c.rules) a ≡ false = lt-leb (known c.rules) a low in
    let three : leb 1024 (letters_in c.entries) ≡ false = lt-leb 1024 (letters_in c.entries) few in
    simp (one, two, three)

pub pushes : (c d : Contents) (piece : Bytes) (a : ℕ) (r : Result (Unit {0}) LetterRefusal) → 0 < length c.entries → known c.rules ≤ 538 → a < 538 → piece ≡ letter_name a → MatchResult r (λ _. (letter_refusal c a ≡ None) × (d ≡ with_letter a c)) (λ e. (letter_refusal c a ≡ Some e) × (d ≡ c)) → MatchOption (result_ok r) (NotPushed c piece) (λ _. Pushed c piece d)
pushes c d piece a (Ok u) some few lt is h =
    let known_a : a < known c.rules = leb-false _ _ (unknown_not (leb (length c.entries) 0) (leb (known c.rules) a) (leb 1024 (letters_in c.entries)) h.0) in
    record { a = a; low = known_a; is = is; new = h.1 }
pushes c d piece a (Err e) some few lt is h = λ b low room named.
    let same : a ≡ b = same_letter a b (omega arith) (omega arith) (sym is ∙ named) in
    let none : letter_refusal c a ≡ None = taken c a some (omega arith) room in
    let some_why : letter_refusal c a ≡ Some e = h.0 in
    let z : ◌≡◌ {A = ℕ} 0 1 = cc in
    omega arith

grown_more : (w : Word) (a : ℕ) (entries : List Entry) → lengthened a (grown w entries) ≡ grown (w ++ (a ∷ [])) entries
grown_more w a [] = refl
grown_more w a (e ∷ older) = λ i. record { variable = e.variable; word = append_assoc e.word w (a ∷ []) i } ∷ older

grown_letters : (w : Word) (entries : List Entry) → letters_in (grown w entries) ≤ length w + letters_in entries
grown_letters w [] = omega arith
grown_letters w (e ∷ older) = omega (arith, length-append e.word w)

more_new : (c d d' : Contents) (w : Word) (a : ℕ) → d ≡ with_letters w c → d' ≡ with_letter a d → d' ≡ with_letters (w ++ (a ∷ [])) c
more_new c d d' w a e f = f ∙ ap (with_letter a) e ∙ (λ i. record { rules = c.rules; entries = grown_more w a c.entries i })

same_known : (c d : Contents) (w : Word) → d ≡ with_letters w c → known d.rules ≡ known c.rules
same_known c d w e = ap (λ x. known x.rules) e

names_push : (w : Word) (a : ℕ) → letter_names w ++ (letter_name a ∷ []) ≡ letter_names (w ++ (a ∷ []))
names_push [] a = refl
names_push (b ∷ w) a = ap (λ l. letter_name b ∷ l) (names_push w a)

names_count : (w : Word) → length (letter_names w) ≡ length w
names_count [] = refl
names_count (a ∷ w) = omega (arith, names_count w)

name_at : (w : Word) (k : ℕ) (d : Bytes) → k < length w → get_or (letter_names w) k d ≡ letter_name (get_or w k 0)
name_at [] k d lt = absurd (omega arith)
name_at (a ∷ w) zero d lt = refl
name_at (a ∷ w) (suc k) d lt = name_at w k d (omega arith)

-- one more piece
pub midway_more : (c : Contents) (pieces : List Bytes) (d d' : Contents) (piece : Bytes) → Midway c pieces d → Pushed d piece d' → Midway c (pieces ++ (piece ∷ [])) d'
midway_more c pieces d d' piece m p = record {
  done = m.done ++ (p.a ∷ []);
  low = below_push (known c.rules) m.done p.a m.low (omega (arith, p.low, same_known c d m.done m.new));
  named = (λ i. m.named i ++ (p.is i ∷ [])) ∙ names_push m.done p.a;
  new = more_new c d d' m.done p.a m.new p.new;
}

-- the pieces between commas
abbrev pub pieces_of : Bytes → List Bytes
pieces_of field = slice_split (λ b. eqb b 44) field

joined : (a : ℕ) (w : Word) → join_with_byte 44 (letter_names (a ∷ w)) ≡ word_text (a ∷ w)
joined a [] = refl
joined a (b ∷ w) = ap (λ t. letter_name a ++ 44 ∷ t) (joined b w)

read_whole : (c : Contents) (field : Bytes) (d : Contents) (w : Word) → pieces_of field ≡ letter_names w → d ≡ with_letters w c → Worded c field d
read_whole c field d [] e new = absurd (omega (arith, ap length e, length-slice_split (λ b. eqb b 44) field))
read_whole c field d (a ∷ w) e new = record { w = a ∷ w; is = sym (join_with_byte-slice_split 44 field) ∙ ap (join_with_byte 44) e ∙ joined a w; new = new }

-- all pieces are read
pub midway_all : (c : Contents) (field : Bytes) (pieces : List Bytes) (d : Contents) → Midway c pieces d → pieces ≡ pieces_of field → Worded c field d
midway_all c field pieces d m all = read_whole c field d m.done (sym all ∙ m.named) m.new

lacks : (b : ℕ) (bs : Bytes) → free b bs ≡ true → All (λ c. eqb c b ≡ false) bs
lacks b [] h = All-nil (λ c. eqb c b ≡ false)
lacks b (c ∷ cs) h =
    let p = and_parts (not (eqb c b)) (free b cs) h in
    All-cons (λ x. eqb x b ≡ false) c cs (not-true (eqb c b) p.0) (lacks b cs p.1)

no_comma : (a : ℕ) → a < 1000 → All (λ b. eqb b 44 ≡ false) (letter_name a)
no_comma a lt = lacks 44 (letter_name a) (free_letter 44 a (lit< tt) (λ z. omega arith) (omega arith))

-- the pieces of a word are the names of its letters
split_word : (n a : ℕ) (w : Word) → n < 1000 → all_below n (a ∷ w) ≡ true → pieces_of (word_text (a ∷ w)) ≡ letter_names (a ∷ w)
split_word n a [] few low = slice_split_none (λ b. eqb b 44) (letter_name a) (no_comma a (omega (arith, (below_parts n a [] low).0)))
split_word n a (b ∷ w) few low =
    let p = below_parts n a (b ∷ w) low in
    slice_split_at (λ b. eqb b 44) (letter_name a) 44 (word_text (b ∷ w)) (no_comma a (omega (arith, p.0))) refl ∙ ap (λ l. letter_name a ∷ l) (split_word n b w few p.1)

-- the piece that a word has next may come
pub no_word : (c : Contents) (field : Bytes) (pieces : List Bytes) (d : Contents) (piece : Bytes) (k : ℕ) → known c.rules ≤ 538 → (field ≡ 45 ∷ [] → ⊥) → Midway c pieces d → length pieces ≡ k → (k < length (pieces_of field)) × (piece ≡ get_or (pieces_of field) k piece) → NotPushed d piece → NotWorded c field
no_word c field pieces d piece k few nd m count turn np [] low le e = nd e
no_word c field pieces d piece k few nd m count turn np (b ∷ w) low le e =
    let split : pieces_of field ≡ letter_names (b ∷ w) = ap pieces_of e ∙ split_word (known c.rules) b w (omega arith) low in
    let within : k < length (b ∷ w) = omega (arith, turn.0, ap length split, names_count (b ∷ w)) in
    np (get_or (b ∷ w) k 0)
    (omega (arith, below_at (known c.rules) (b ∷ w) k low within, same_known c d m.done m.new))
    (omega (arith, ap (λ x. letters_in x.entries) m.new, grown_letters m.done c.entries, ap length m.named, names_count m.done, within))
    (turn.1 ∙ ap (λ l. get_or l k piece) split ∙ name_at (b ∷ w) k piece within)
