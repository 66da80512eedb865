-- Lines of the third table. Assumes nothing.
use Rattle.std.proofs.Common.{◌≡◌, ℕ, ◌+◌, ◌^◌, ◌<◌, cond, eqb, List, [], ◌∷◌, length, codes, decimal, Some, None, Ok, Err, Result, MatchResult, sym, refl, ap, ◌∙◌, subst, ⊎_elim, get_or, lit<}
use Rattle.systems.specs.declared.Choice.{Choice}
use Rattle.systems.specs.declared.Choice.TheVariants as choice
use Rattle.text.specs.declared.part.Part.{Part}
use Rattle.text.specs.Names.{letter_name, variable_name}
use Rattle.text.specs.Pieces.{Bytes}
use Rattle.text.specs.Reading.{Reads}
use Rattle.tables.specs.declared.choices.Verb.{Verb}
use Rattle.tables.specs.declared.choices.Verb.TheVariants.{Left, Right, Erase, Pair, Block}
use Rattle.tables.specs.declared.types.LineRefusal.{LineRefusal}
use Rattle.tables.specs.declared.types.LineRefusal.TheVariants.{Unreadable}
use Rattle.tables.specs.Fields.{fields_of}
use Rattle.tables.specs.Reading.{IsRow, NoRow}
use Rattle.tables.specs.Rows.{choice_fields, IsChoice}
use Rattle.tables.specs.Verbs.{verb_text, Any, IsFirst, IsSecond, Argued, Unargued}
use Rattle.tables.proofs.RowLines.{is_row, bad_first, bad_second, bad_third}

-- a choice and its three fields
abbrev pub verb_in : Choice → Verb
verb_in (choice.Left x a) = Left
verb_in (choice.Right x a) = Right
verb_in (choice.Erase x) = Erase
verb_in (choice.Pair a b) = Pair
verb_in (choice.Block a n) = Block

verb_is : (c : Choice) → get_or (choice_fields c) 0 [] ≡ verb_text (verb_in c)
verb_is (choice.Left x a) = refl
verb_is (choice.Right x a) = refl
verb_is (choice.Erase x) = refl
verb_is (choice.Pair a b) = refl
verb_is (choice.Block a n) = refl

arguments : (c : Choice) → IsChoice c → IsFirst (verb_in c) (get_or (choice_fields c) 1 []) × IsSecond (verb_in c) (get_or (choice_fields c) 2 [])
arguments (choice.Left x a) g = ((x, g.0, refl), (a, g.1, refl))
arguments (choice.Right x a) g = ((x, g.0, refl), (a, g.1, refl))
arguments (choice.Erase x) g = ((x, g, refl), refl)
arguments (choice.Pair a b) g = ((a, g.0, refl), (b, g.1, refl))
arguments (choice.Block a n) g = ((a, g.0, refl), (n, g.1, refl))

-- what may stand behind a verb makes a choice
abbrev Made : Verb → Bytes → Bytes → Type 0
Made v f g = (c : Choice) × IsChoice c × (choice_fields c ≡ verb_text v ∷ f ∷ g ∷ [])

two : (v f g p q : Bytes) → p ≡ f → q ≡ g → v ∷ p ∷ q ∷ [] ≡ v ∷ f ∷ g ∷ []
two v f g p q e h i = v ∷ e i ∷ h i ∷ []

made : (v : Verb) (f g : Bytes) → IsFirst v f → IsSecond v g → Made v f g
made Left f g p q = (choice.Left p.0 q.0, (p.1, q.1), two (codes "left") f g _ _ (sym p.2) (sym q.2))
made Right f g p q = (choice.Right p.0 q.0, (p.1, q.1), two (codes "right") f g _ _ (sym p.2) (sym q.2))
made Erase f g p q = (choice.Erase p.0, p.1, two (codes "erase") f g _ _ (sym p.2) (sym q))
made Pair f g p q = (choice.Pair p.0 q.0, (p.1, q.1), two (codes "pair") f g _ _ (sym p.2) (sym q.2))
made Block f g p q = (choice.Block p.0 q.0, (p.1, q.1), two (codes "block") f g _ _ (sym p.2) (sym q.2))

a_first : (v : Verb) → (f : Bytes) × IsFirst v f
a_first Left = (variable_name 0, (0, lit< tt, refl))
a_first Right = (variable_name 0, (0, lit< tt, refl))
a_first Erase = (variable_name 0, (0, lit< tt, refl))
a_first Pair = (letter_name 0, (0, lit< tt, refl))
a_first Block = (letter_name 0, (0, lit< tt, refl))

a_second : (v : Verb) → (f : Bytes) × IsSecond v f
a_second Left = (letter_name 0, (0, lit< tt, refl))
a_second Right = (letter_name 0, (0, lit< tt, refl))
a_second Erase = (codes "-", refl)
a_second Pair = (letter_name 0, (0, lit< tt, refl))
a_second Block = (decimal 0, (0, lit< tt, refl))

-- a verb is known by its first byte
by_byte : ℕ → Verb
by_byte b = cond (eqb b 108) Left (cond (eqb b 114) Right (cond (eqb b 101) Erase (cond (eqb b 112) Pair Block)))

by_first : (v : Verb) → by_byte (get_or (verb_text v) 0 0) ≡ v
unfolding by_byte
by_first Left = refl
by_first Right = refl
by_first Erase = refl
by_first Pair = refl
by_first Block = refl

same_verb : (v w : Verb) → verb_text v ≡ verb_text w → v ≡ w
same_verb v w e = sym (by_first v) ∙ ap (λ t. by_byte (get_or t 0 0)) e ∙ by_first w

verb_at : (v : Verb) (f : Bytes) (c : Choice) (rest : List Bytes) → f ≡ verb_text v → choice_fields c ≡ f ∷ rest → verb_in c ≡ v
verb_at v f c rest is e = same_verb (verb_in c) v (sym (verb_is c) ∙ ap (λ l. get_or l 0 []) e ∙ is)

pub choice_first : (line f s t : Bytes) → fields_of line ≡ f ∷ s ∷ t ∷ [] → Reads Any verb_text f None → NoRow 3 IsChoice choice_fields line (Unreadable 0)
choice_first line f s t is none =
    bad_first 3 IsChoice choice_fields line f (s ∷ t ∷ []) (choice.Erase 0) is refl (lit< tt)
    (λ c g rest e. none (verb_in c) tt (sym (ap (λ l. get_or l 0 []) e) ∙ verb_is c))

pub choice_second : (line f s t : Bytes) (v : Verb) → fields_of line ≡ f ∷ s ∷ t ∷ [] → f ≡ verb_text v → (IsFirst v s → ⊥) → NoRow 3 IsChoice choice_fields line (Unreadable (length f + 1))
choice_second line f s t v is at none =
    let p = a_first v in
    let q = a_second v in
    let m = made v p.0 q.0 p.1 q.1 in
    bad_second 3 IsChoice choice_fields line f s (t ∷ []) m.0 (p.0 ∷ q.0 ∷ []) is refl m.1 (m.2 ∙ ap (λ b. b ∷ p.0 ∷ q.0 ∷ []) (sym at))
    (λ c g rest e. none (subst (λ w. IsFirst w s) (verb_at v f c (s ∷ rest) at e) (subst (IsFirst (verb_in c)) (ap (λ l. get_or l 1 []) e) (arguments c g).0)))

pub choice_third : (line f s t : Bytes) (v : Verb) → fields_of line ≡ f ∷ s ∷ t ∷ [] → f ≡ verb_text v → IsFirst v s → (IsSecond v t → ⊥) → NoRow 3 IsChoice choice_fields line (Unreadable (length f + 1 + length s + 1))
choice_third line f s t v is at p none =
    let q = a_second v in
    let m = made v s q.0 p q.1 in
    bad_third 3 IsChoice choice_fields line f s t [] m.0 (q.0 ∷ []) is refl m.1 (m.2 ∙ ap (λ b. b ∷ s ∷ q.0 ∷ []) (sym at))
    (λ c g rest e. none (subst (λ w. IsSecond w t) (verb_at v f c (s ∷ t ∷ rest) at e) (subst (IsSecond (verb_in c)) (ap (λ l. get_or l 2 []) e) (arguments c g).1)))

pub choice_row : (line f s t : Bytes) (v : Verb) (c : Choice) → fields_of line ≡ f ∷ s ∷ t ∷ [] → f ≡ verb_text v → Argued v s t c → IsRow IsChoice choice_fields line c
choice_row line f s t v c is at a = is_row IsChoice choice_fields line c a.0 (is ∙ ap (λ b. b ∷ s ∷ t ∷ []) at ∙ sym a.1)

pub choice_judged : (line f : Bytes) (s t : Part) (v : Verb) (r : Result Choice LineRefusal) → fields_of line ≡ f ∷ s.bytes.now ∷ t.bytes.now ∷ [] → f ≡ verb_text v → s.place ≡ length f + 1 → t.place ≡ length f + 1 + length s.bytes.now + 1 → MatchResult r (Argued v s.bytes.now t.bytes.now) (Unargued v s t) → MatchResult r (IsRow IsChoice choice_fields line) (NoRow 3 IsChoice choice_fields line)
choice_judged line f s t v (Ok c) is at ps pt a = choice_row line f s.bytes.now t.bytes.now v c is at a
choice_judged line f s t v (Err why) is at ps pt u =
    ⊎_elim
    (λ (p : (why ≡ Unreadable s.place) × (IsFirst v s.bytes.now → ⊥)). subst (NoRow 3 IsChoice choice_fields line) (sym (p.0 ∙ ap Unreadable ps)) (choice_second line f s.bytes.now t.bytes.now v is at p.1))
    (λ (p : (why ≡ Unreadable t.place) × IsFirst v s.bytes.now × (IsSecond v t.bytes.now → ⊥)). subst (NoRow 3 IsChoice choice_fields line) (sym (p.0 ∙ ap Unreadable pt)) (choice_third line f s.bytes.now t.bytes.now v is at p.1 p.2))
    u
