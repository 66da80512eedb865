-- What a letter spells, with more rules and by the rule that makes it. Assumes nothing.
use Rattle.std.proofs.Common.{◌≡◌, ℕ, zero, suc, ◌+◌, ◌*◌, ◌<◌, eqb, List, [], ◌∷◌, ◌++◌, length, sym, refl, ap, ◌∙◌, append_assoc, append-nil, suc-mul, zero-mul, arith, length-append}
use Rattle.std.specs.List.{flat_map}
use Rattle.std.proofs.lemmas.Bool.{cond-true, cond-false, eq-eqb, ne_eqb}
use Rattle.model.specs.declared.Rule.{Rule}
use Rattle.model.specs.declared.Rule.TheVariants.{Pair, Block}
use Rattle.model.specs.Spelling.{Word, copies, known, expand, spell, spell_word}
use Rattle.model.specs.Laws.{LaterRulesKeepSpelling, LengthsFollowRules}

pub length_copies : (n : ℕ) (w : Word) → length (copies n w) ≡ n * length w
length_copies zero w = sym (zero-mul (length w))
length_copies (suc n) w = length-append w (copies n w) ∙ omega (arith, length_copies n w, suc-mul n (length w))

-- an older letter spells what it spelled
pub spell_older : (rule : Rule) (older : List Rule) (c : ℕ) → c < known older → spell (rule ∷ older) c ≡ spell older c
spell_older rule older c lt = cond-false (eqb c (known older)) (expand (spell older) rule) (spell older c) (ne_eqb c (known older) (λ e. omega arith))

pub spell_newest : (rule : Rule) (older : List Rule) → spell (rule ∷ older) (known older) ≡ expand (spell older) rule
spell_newest rule older = cond-true (eqb (known older) (known older)) (expand (spell older) rule) (spell older (known older)) (eq-eqb (known older) (known older) refl)

pub spell_kept : LaterRulesKeepSpelling
spell_kept [] rules c lt = refl
spell_kept (rule ∷ later) rules c lt =
    let under : c < known (later ++ rules) = omega (arith, length-append later rules) in
    spell_older rule (later ++ rules) c under ∙ spell_kept later rules c lt

pub spell_low : (rules : List Rule) (c : ℕ) → c < 26 → spell rules c ≡ c ∷ []
spell_low [] c lt = refl
spell_low (rule ∷ older) c lt = spell_older rule older c (omega arith) ∙ spell_low older c lt

pub lengths : LengthsFollowRules
lengths = record {
  basic = λ rules c lt. ap length (spell_low rules c lt);
  pair = λ rules a b. ap length (spell_newest (Pair a b) rules) ∙ length-append (spell rules a) (spell rules b);
  block = λ rules a n. ap length (spell_newest (Block a n) rules) ∙ length_copies n (spell rules a);
}

pub joined-++ : {A B : Type 0} (f : A → List B) (xs ys : List A) → flat_map f (xs ++ ys) ≡ flat_map f xs ++ flat_map f ys
joined-++ f [] ys = refl
joined-++ f (x ∷ xs) ys = ap (λ r. f x ++ r) (joined-++ f xs ys) ∙ sym (append_assoc (f x) (flat_map f xs) (flat_map f ys))

-- one more letter
pub length_spell_push : (rules : List Rule) (w : Word) (a : ℕ) → length (spell_word rules (w ++ (a ∷ []))) ≡ length (spell_word rules w) + length (spell rules a)
length_spell_push rules w a =
    ap length (joined-++ (spell rules) w (a ∷ []) ∙ ap (λ r. spell_word rules w ++ r) (append-nil (spell rules a)))
    ∙ length-append (spell_word rules w) (spell rules a)
