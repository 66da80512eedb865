-- A line and its fields: each is known from the other. Assumes nothing.
use Rattle.std.proofs.Common.{◌≡◌, ℕ, ◌+◌, ◌≤◌, ◌<◌, true, false, not, eqb, cond, List, [], ◌∷◌, ◌++◌, length, sym, refl, ap, ◌∙◌, subst, ⊎_elim, arith}
use Rattle.std.specs.List.{slice_split, onto_first, AllByRecursion}
use Rattle.std.proofs.lemmas.List.Splits.{length-slice_split}
use Rattle.std.proofs.lemmas.Bool.{and_parts, not-true, eqb-false, ne_eqb, cases_eq}
use Rattle.text.specs.declared.part.Part.{Part}
use Rattle.text.specs.Parts.{Cuts}
use Rattle.text.specs.Pieces.{Bytes, between, free}
use Rattle.text.proofs.Cuts.{free_cons}
use Rattle.tables.specs.Fields.{fields_of, line_of, Two, Three}

abbrev pub Parted : List Bytes → Type 0
Parted = AllByRecursion (λ field. free 32 field ≡ true)

-- what holds of a byte in front
free_head : (b c : ℕ) (cs : Bytes) → free b (c ∷ cs) ≡ true → c ≡ b → ⊥
free_head b c cs h e = eqb-false c b (not-true (eqb c b) (and_parts (not (eqb c b)) (free b cs) h).0) e

pub free_tail : (b c : ℕ) (cs : Bytes) → free b (c ∷ cs) ≡ true → free b cs ≡ true
free_tail b c cs h = (and_parts (not (eqb c b)) (free b cs) h).1

onto : (c : ℕ) (cs : Bytes) → (c ≡ 32 → ⊥) → fields_of (c ∷ cs) ≡ onto_first c (fields_of cs)
onto c cs ne = ap (λ b. cond b ([] ∷ fields_of cs) (onto_first c (fields_of cs))) (ne_eqb c 32 ne)

pub fields_cons : (field rest : Bytes) → free 32 field ≡ true → fields_of (field ++ 32 ∷ rest) ≡ field ∷ fields_of rest
fields_cons [] rest h = refl
fields_cons (c ∷ field) rest h = onto c (field ++ 32 ∷ rest) (free_head 32 c field h) ∙ ap (onto_first c) (fields_cons field rest (free_tail 32 c field h))

pub fields_one : (field : Bytes) → free 32 field ≡ true → fields_of field ≡ field ∷ []
fields_one [] h = refl
fields_one (c ∷ field) h = onto c field (free_head 32 c field h) ∙ ap (onto_first c) (fields_one field (free_tail 32 c field h))

-- fields that are written are read
pub fields_line : (field : Bytes) (fields : List Bytes) → Parted (field ∷ fields) → fields_of (line_of (field ∷ fields)) ≡ field ∷ fields
fields_line field [] h = fields_one field h.0
fields_line field (next ∷ fields) h = fields_cons field (line_of (next ∷ fields)) h.0 ∙ ap (λ l. field ∷ l) (fields_line next fields h.1)

line_onto : (c : ℕ) (fields : List Bytes) → 0 < length fields → line_of (onto_first c fields) ≡ c ∷ line_of fields
line_onto c [] some = absurd (omega arith)
line_onto c (field ∷ []) some = refl
line_onto c (field ∷ next ∷ fields) some = refl

pub some_field : (line : Bytes) → 0 < length (fields_of line)
some_field line = omega (arith, length-slice_split (λ b. eqb b 32) line)

line_after : (fields : List Bytes) → 0 < length fields → line_of ([] ∷ fields) ≡ 32 ∷ line_of fields
line_after [] some = absurd (omega arith)
line_after (field ∷ fields) some = refl

-- fields that are read were written
pub line_fields : (line : Bytes) → line_of (fields_of line) ≡ line
line_fields [] = refl
line_fields (c ∷ line) =
    ⊎_elim
    (λ (e : c ≡ 32). ap (λ b. line_of (fields_of (b ∷ line))) e ∙ line_after (fields_of line) (some_field line) ∙ (λ i. sym e i ∷ line_fields line i))
    (λ (ne : c ≡ 32 → ⊥). ap line_of (onto c line ne) ∙ line_onto c (fields_of line) (some_field line) ∙ ap (λ l. c ∷ l) (line_fields line))
    (cases_eq c 32)

parted_onto : (c : ℕ) (fields : List Bytes) → (c ≡ 32 → ⊥) → Parted fields → Parted (onto_first c fields)
parted_onto c [] ne h = (free_cons 32 c [] ne refl, tt)
parted_onto c (field ∷ fields) ne h = (free_cons 32 c field ne h.0, h.1)

pub parted : (line : Bytes) → Parted (fields_of line)
parted [] = (refl, tt)
parted (c ∷ line) =
    ⊎_elim
    (λ (e : c ≡ 32). subst (λ b. Parted (fields_of (b ∷ line))) (sym e) (refl, parted line))
    (λ (ne : c ≡ 32 → ⊥). subst Parted (sym (onto c line ne)) (parted_onto c (fields_of line) ne (parted line)))
    (cases_eq c 32)

-- a part that is cut, and what is cut again
pub cut_fields : (whole : Part) (p : Part × Part) → Cuts 32 whole p → fields_of whole.bytes.now ≡ p.0.bytes.now ∷ fields_of p.1.bytes.now
cut_fields whole p cut = ap fields_of cut.split ∙ fields_cons p.0.bytes.now p.1.bytes.now cut.free_field

pub not_two : (whole : Part) (p q : Part × Part) → Cuts 32 whole p → Cuts 32 p.1 q → length (fields_of whole.bytes.now) ≡ 2 → ⊥
not_two whole p q cut more two = omega (arith, ap length (cut_fields whole p cut), ap length (cut_fields p.1 q more), some_field q.1.bytes.now)

pub is_two : (whole : Part) (p : Part × Part) → Cuts 32 whole p → free 32 p.1.bytes.now ≡ true → Two whole p.0 p.1
is_two whole p cut h = record {
  fields = cut_fields whole p cut ∙ ap (λ l. p.0.bytes.now ∷ l) (fields_one p.1.bytes.now h);
  first_place = cut.first_place;
  second_place = cut.rest_place;
}

pub is_three : (whole second third : Part) (p : Part × Part) → Cuts 32 whole p → Two p.1 second third → Three whole p.0 second third
is_three whole second third p cut two = record {
  fields = cut_fields whole p cut ∙ ap (λ l. p.0.bytes.now ∷ l) two.fields;
  first_place = cut.first_place;
  second_place = two.first_place ∙ cut.rest_place;
  third_place = omega (arith, two.first_place, two.second_place);
}
