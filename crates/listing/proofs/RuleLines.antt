-- A rule read from its line, and added or refused. Assumes nothing.
use Rattle.std.proofs.Common.{◌≡◌, ℕ, ◌^◌, ◌<◌, ◌≤◌, true, ◌∷◌, ◌++◌, length, Some, None, Ok, Err, codes, decimal, Bor, MatchOption, Option, Result, sym, refl, ap, ◌∙◌, arith, MatchResult}
use Rattle.std.specs.Result.{result_ok}
use Rattle.model.specs.declared.Rule.{Rule}
use Rattle.model.specs.declared.Rule.TheVariants.{Pair, Block}
use Rattle.model.specs.declared.RuleRefusal.{RuleRefusal}
use Rattle.model.specs.Spelling.{known}
use Rattle.model.specs.Witnesses.{Contents, rule_fits, rule_refusal}
use Rattle.model.proofs.Fitting.{fits_after, from_fits, taken_fits, refused_unfit}
use Rattle.text.specs.Names.{letter_name}
use Rattle.text.specs.Pieces.{Bytes, free}
use Rattle.text.specs.Reading.{Below, Both, Reads, joining}
use Rattle.text.proofs.Cuts.{same_cut}
use Rattle.text.proofs.Names.{free_letter}
use Rattle.format.specs.Bounds.{Within}
use Rattle.format.specs.Listing.{rule_line}
use Rattle.format.proofs.Lines.{rule_within, same_rule_line}
use Rattle.witness.specs.Answers.{with_rule}
use Rattle.listing.specs.Lines.{Lettered, NoRule, Ruled, rule_text}

-- no name of a letter has a space
pub spaceless : (a : ℕ) → Below 538 a → free 32 (letter_name a) ≡ true
spaceless a lt = free_letter 32 a (omega arith) (λ z. omega arith) (omega arith)

-- what stands behind the first space
pub same_rest : (line front back : Bytes) (a : ℕ) (rest : Bytes) → free 32 front ≡ true → line ≡ front ++ 32 ∷ back → a < 538 → line ≡ letter_name a ++ 32 ∷ rest → (front ≡ letter_name a) × (back ≡ rest)
same_rest line front back a rest h cut lt e = same_cut 32 front (letter_name a) back rest h (spaceless a lt) (sym cut ∙ e)

-- a letter and what is read behind it are read as one
pub reads_and : {T : Type 0} (good : T → Type 0) (text : T → Bytes) (line : Bytes) (r : Option (ℕ × T)) → Lettered (λ rest o. (p : Bor Bytes) × Reads good text p.now o × (p.now ≡ rest)) line r → Reads (Both (Below 538) good) (joining 32 letter_name text) line r
reads_and good text line None h = λ p fits e. let second = h p.0 (text p.1) fits.0 e in second.1 p.1 fits.1 second.2
reads_and good text line (Some p) h =
    let second = h.3 in
    ((h.1, second.1.0), h.2 ∙ ap (λ t. letter_name p.0 ++ 32 ∷ t) (sym second.2 ∙ second.1.1))

-- what follows the make in a rule's line
abbrev make : Rule → Bytes
make (Pair a b) = codes "pair"
make (Block a n) = codes "block"

abbrev letters : Rule → Bytes
letters (Pair a b) = letter_name a ++ 32 ∷ letter_name b
letters (Block a n) = letter_name a ++ 32 ∷ decimal n

text_is : (rule : Rule) → rule_text rule ≡ make rule ++ 32 ∷ letters rule
text_is (Pair a b) = refl
text_is (Block a n) = refl

make_spaceless : (rule : Rule) → free 32 (make rule) ≡ true
make_spaceless (Pair a b) = refl
make_spaceless (Block a n) = refl

-- the two parts of a rule's text
parts : (fields front back : Bytes) (rule : Rule) → free 32 front ≡ true → fields ≡ front ++ 32 ∷ back → fields ≡ rule_text rule → (front ≡ make rule) × (back ≡ letters rule)
parts fields front back rule h cut e = same_cut 32 front (make rule) back (letters rule) h (make_spaceless rule) (sym cut ∙ e ∙ text_is rule)

pub other_make : (fields front back : Bytes) → free 32 front ≡ true → fields ≡ front ++ 32 ∷ back → (front ≡ codes "pair" → ⊥) → (front ≡ codes "block" → ⊥) → Reads (Within 538 (2 ^ 32)) rule_text fields None
other_make fields front back h cut np nb = λ rule good e. neither rule (parts fields front back rule h cut e).0
  where
    neither : (rule : Rule) → front ≡ make rule → ⊥
    neither (Pair a b) is = np is
    neither (Block a n) is = nb is

-- a rule's line is its letter's name, a space and its text
line_is : (c : ℕ) (rule : Rule) → rule_line c rule ≡ letter_name c ++ 32 ∷ rule_text rule
line_is c (Pair a b) = refl
line_is c (Block a n) = refl

-- a rule that fits may stand in a line
wider : (n m k j : ℕ) (rule : Rule) → n ≤ m → k ≤ j → Within n k rule → Within m j rule
wider n m k j (Pair a b) le less w = (omega (arith, w.0), omega (arith, w.1))
wider n m k j (Block a i) le less w = (omega (arith, w.0), omega (arith, w.1))

good_line : (c : Contents) (rule : Rule) → rule_fits c.rules rule ≡ true → (known c.rules < 538) × Within 538 (2 ^ 32) rule
good_line c rule h =
    let w = rule_within c.rules rule h in
    let few : length c.rules < 512 = w.0 in
    (omega arith, wider (known c.rules) 538 1000001 (2 ^ 32) rule (omega arith) (omega arith) w.1)

pub no_line : (c : Contents) (line : Bytes) → Reads (Both (Below 538) (Within 538 (2 ^ 32))) (joining 32 letter_name rule_text) line None → NoRule c line
no_line c line none rule h e = none (known c.rules, rule) (good_line c rule h) (e ∙ line_is (known c.rules) rule)

-- a rule's line has one letter and one rule
same_made : (c : Contents) (line : Bytes) (p : ℕ × Rule) (rule : Rule) → Reads (Both (Below 538) (Within 538 (2 ^ 32))) (joining 32 letter_name rule_text) line (Some p) → rule_fits c.rules rule ≡ true → line ≡ rule_line (known c.rules) rule → (p.0 ≡ known c.rules) × (p.1 ≡ rule)
same_made c line p rule r h e =
    let g = good_line c rule h in
    let low : p.0 < 538 = r.0.0 in
    let under : known c.rules < 538 = g.0 in
    same_rule_line 538 (2 ^ 32) p.0 (known c.rules) p.1 rule (omega arith) (omega arith) (omega arith) (omega arith) r.0.1 g.1 (line_is p.0 p.1 ∙ sym r.1 ∙ e)

pub other_letter : (c : Contents) (line : Bytes) (p : ℕ × Rule) → Reads (Both (Below 538) (Within 538 (2 ^ 32))) (joining 32 letter_name rule_text) line (Some p) → (p.0 ≡ known c.rules → ⊥) → NoRule c line
other_letter c line p r ne rule h e = ne (same_made c line p rule r h e).0

pub adds : (c d : Contents) (line : Bytes) (p : ℕ × Rule) (r : Result (Unit {0}) RuleRefusal) → Reads (Both (Below 538) (Within 538 (2 ^ 32))) (joining 32 letter_name rule_text) line (Some p) → p.0 ≡ known c.rules → MatchResult r (λ _. (rule_refusal c.rules p.1 ≡ None) × (d ≡ with_rule p.1 c)) (λ e. (rule_refusal c.rules p.1 ≡ Some e) × (d ≡ c)) → MatchOption (result_ok r) (NoRule c line) (λ _. Ruled c line d)
adds c d line p (Ok u) reads is h = record {
  rule = p.1;
  fit = from_fits c.rules p.1 (taken_fits c.rules p.1 h.0);
  is = reads.1 ∙ sym (line_is p.0 p.1) ∙ ap (λ n. rule_line n p.1) is;
  new = h.1;
}
adds c d line p (Err why) reads is h = λ rule fit e.
    let same : p.1 ≡ rule = (same_made c line p rule reads fit e).1 in
    refused_unfit c.rules p.1 why h.0 (fits_after c.rules p.1 (ap (rule_fits c.rules) same ∙ fit))
