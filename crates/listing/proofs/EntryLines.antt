-- A variable and its word read from their line, and added or refused. Assumes nothing.
use Rattle.std.proofs.Common.{◌≡◌, ℕ, ◌+◌, ◌^◌, ◌<◌, ◌≤◌, Bool, true, false, eqb, [], ◌∷◌, ◌++◌, length, get_or, Some, None, Ok, decimal, MatchOption, sym, refl, ap, ◌∙◌, arith, lit<}
use Rattle.std.specs.Bool.{then_some}
use Rattle.std.specs.Option.{option_map}
use Rattle.std.proofs.lemmas.Fmt.{decimal_injective}
use Rattle.std.proofs.lemmas.Bool.{and_parts, cond-true, eq-eqb, eqb-true, eqb-false}
use Rattle.model.specs.Spelling.{Word, known, spell_word}
use Rattle.model.specs.Witnesses.{Contents, Entry, entry_fits, entries_fit, rules_fit, spelled, valid, word_of}
use Rattle.model.proofs.Fitting.{rules_few}
use Rattle.text.specs.Names.{variable_name}
use Rattle.text.specs.Pieces.{Bytes, free}
use Rattle.text.specs.Reading.{Below, Reads}
use Rattle.text.proofs.Cuts.{free_cons, no_cut, same_cut}
use Rattle.text.proofs.Names.{free_decimal}
use Rattle.format.specs.Listing.{entry_line, row, word_text}
use Rattle.format.specs.Steps.{Giving, Stuck}
use Rattle.model.proofs.Entries.{entry_after}
use Rattle.format.proofs.Lines.{spelled_short}
use Rattle.format.proofs.Words.{same_word}
use Rattle.witness.specs.Answers.{length_answer, with_word}
use Rattle.listing.specs.Lines.{Fields, NoFields, Kept}
use Rattle.listing.specs.Tables.{entry_of}
use Rattle.listing.specs.Words.{NotWorded, Worded, with_letters}

name_spaceless : (x : ℕ) → free 32 (variable_name x) ≡ true
name_spaceless x = free_cons 32 (65 + x) [] (λ e. omega arith) refl

number_spaceless : (n : ℕ) → n < 10 ^ 16 → free 32 (decimal n) ≡ true
number_spaceless n lt = free_decimal 32 n (lit< tt) (omega arith)

-- the three fields, one after another
peel : (line front back : Bytes) (x n : ℕ) (w : Bytes) → free 32 front ≡ true → line ≡ front ++ 32 ∷ back → Fields line x n w → (front ≡ variable_name x) × (back ≡ decimal n ++ 32 ∷ w)
peel line front back x n w h cut f = same_cut 32 front (variable_name x) back (decimal n ++ 32 ∷ w) h (name_spaceless x) (sym cut ∙ f.is)

peel_more : (line front back digits word : Bytes) (x n : ℕ) (w : Bytes) → free 32 front ≡ true → line ≡ front ++ 32 ∷ back → free 32 digits ≡ true → back ≡ digits ++ 32 ∷ word → Fields line x n w → (digits ≡ decimal n) × (word ≡ w)
peel_more line front back digits word x n w h cut hd more f =
    same_cut 32 digits (decimal n) word w hd (number_spaceless n f.short) (sym more ∙ (peel line front back x n w h cut f).1)

pub no_number : (line front back : Bytes) → free 32 front ≡ true → line ≡ front ++ 32 ∷ back → free 32 back ≡ true → NoFields line
no_number line front back h cut none x n w f = no_cut 32 back (decimal n) w none (peel line front back x n w h cut f).1

pub bad_name : (line front back : Bytes) → free 32 front ≡ true → line ≡ front ++ 32 ∷ back → Reads (Below 26) variable_name front None → NoFields line
bad_name line front back h cut none x n w f = none x f.named (peel line front back x n w h cut f).0

pub bad_number : (line front back digits word : Bytes) → free 32 front ≡ true → line ≡ front ++ 32 ∷ back → free 32 digits ≡ true → back ≡ digits ++ 32 ∷ word → Reads (Below (10 ^ 16)) decimal digits None → NoFields line
bad_number line front back digits word h cut hd more none x n w f = none n f.short (peel_more line front back digits word x n w h cut hd more f).0

-- a line has one set of fields
same_fields : (line : Bytes) (x y n m : ℕ) (v w : Bytes) → Fields line x n v → Fields line y m w → (x ≡ y) × (n ≡ m) × (v ≡ w)
same_fields line x y n m v w f g =
    let one = peel line (variable_name x) (decimal n ++ 32 ∷ v) y m w (name_spaceless x) f.is g in
    let two = same_cut 32 (decimal n) (decimal m) v w (number_spaceless n f.short) (number_spaceless m g.short) one.1 in
    let heads : 65 + x ≡ 65 + y = ap (λ l. get_or l 0 0) one.0 in
    let less : n < 10 ^ 16 = f.short in
    let few : m < 10 ^ 16 = g.short in
    (omega arith, decimal_injective n m (omega arith) (omega arith) two.0, two.1)

-- the fields of the line of an entry that fits
fields_of : (c : Contents) (line : Bytes) (e : Entry) → rules_fit c.rules ≡ true → entry_fits c.rules c.entries e ≡ true → line ≡ entry_line c.rules e → Fields line e.variable (length (spell_word c.rules e.word)) (word_text e.word)
fields_of c line e hr h is =
    let g = entry_after c.rules c.entries e h in
    record { named = g.named; short = spelled_short c.rules c.entries e hr g; is = is }

pub stuck_fields : (c : Contents) (line : Bytes) → rules_fit c.rules ≡ true → NoFields line → Stuck (Giving c.rules c.entries) line
stuck_fields c line hr none e h is = none e.variable (length (spell_word c.rules e.word)) (word_text e.word) (fields_of c line e hr h is)

pub stuck_word : (c : Contents) (line : Bytes) (x n : ℕ) (w : Bytes) → rules_fit c.rules ≡ true → Fields line x n w → NotWorded (with_word x c) w → Stuck (Giving c.rules c.entries) line
stuck_word c line x n w hr f none e h is =
    let g = entry_after c.rules c.entries e h in
    none e.word g.low (omega (arith, g.few)) (same_fields line x e.variable n _ w _ f (fields_of c line e hr h is)).2

-- what is held once the word is read
pub record Filled (c : Contents) (line : Bytes) (x n : ℕ) (w : Word) (d : Contents) : Type 0 where
  pub fields : Fields line x n (word_text w)
  pub fit : entry_fits c.rules c.entries (entry_of x w) ≡ true
  pub new : d ≡ record { rules = c.rules; entries = entry_of x w ∷ c.entries }
  pub long : length_answer (spelled d x) ≡ Ok (length (spell_word c.rules w))

pub filled : (c b d : Contents) (line : Bytes) (x n : ℕ) (field : Bytes) → Fields line x n field → b ≡ with_word x c → (read : Worded b field d) → valid d ≡ true → Filled c line x n read.w d
filled c b d line x n field f start read ok =
    let w = read.w in
    let new : d ≡ record { rules = c.rules; entries = entry_of x w ∷ c.entries } = read.new ∙ ap (with_letters w) start in
    let whole : valid (record { rules = c.rules; entries = entry_of x w ∷ c.entries }) ≡ true = ap valid (sym new) ∙ ok in
    let entries = (and_parts (rules_fit c.rules) (entries_fit c.rules (entry_of x w ∷ c.entries)) whole).1 in
    record {
      fields = record { named = f.named; short = f.short; is = f.is ∙ ap (λ t. row (variable_name x) (decimal n ∷ t ∷ [])) read.is };
      fit = (and_parts (entry_fits c.rules c.entries (entry_of x w)) (entries_fit c.rules c.entries) entries).0;
      new = new;
      long =
          ap (λ y. length_answer (spelled y x)) new
          ∙ ap (λ o. length_answer (option_map (spell_word c.rules) o)) (cond-true (eqb x x) (Some w) (word_of c.entries x) (eq-eqb x x refl));
    }

stuck_total : (c : Contents) (line : Bytes) (x n : ℕ) (w : Word) (d : Contents) → rules_fit c.rules ≡ true → Filled c line x n w d → (length (spell_word c.rules w) ≡ n → ⊥) → Stuck (Giving c.rules c.entries) line
stuck_total c line x n w d hr f ne e h is =
    let g = entry_after c.rules c.entries e h in
    let mine = entry_after c.rules c.entries (entry_of x w) f.fit in
    let few : length c.rules ≤ 512 = rules_few c.rules hr in
    let s = same_fields line x e.variable n (length (spell_word c.rules e.word)) (word_text w) (word_text e.word) f.fields (fields_of c line e hr h is) in
    let same : w ≡ e.word = same_word (known c.rules) w e.word (omega arith) mine.low g.low s.2 in
    ne (ap (λ v. length (spell_word c.rules v)) same ∙ sym s.1)

kept : (c : Contents) (line : Bytes) (x n : ℕ) (w : Word) (d : Contents) → Filled c line x n w d → length (spell_word c.rules w) ≡ n → Kept c line d
kept c line x n w d f same = record {
  e = entry_of x w;
  fit = f.fit;
  is = f.fields.is ∙ ap (λ k. row (variable_name x) (decimal k ∷ word_text w ∷ [])) (sym same);
  new = f.new;
}

-- the length is compared
pub compared : (c : Contents) (line : Bytes) (x n : ℕ) (w : Word) (d : Contents) (total : ℕ) (r : Bool) → rules_fit c.rules ≡ true → Filled c line x n w d → Ok total ≡ length_answer (spelled d x) → r ≡ eqb total n → MatchOption (then_some r (tt {0})) (Stuck (Giving c.rules c.entries) line) (λ _. Kept c line d)
compared c line x n w d total true hr f is test =
    let both : Ok total ≡ Ok (length (spell_word c.rules w)) = is ∙ f.long in
    let same : total ≡ length (spell_word c.rules w) = cc in
    kept c line x n w d f (sym same ∙ eqb-true total n (sym test))
compared c line x n w d total false hr f is test =
    let both : Ok total ≡ Ok (length (spell_word c.rules w)) = is ∙ f.long in
    let same : total ≡ length (spell_word c.rules w) = cc in
    stuck_total c line x n w d hr f (λ e. eqb-false total n (sym test) (same ∙ e))
