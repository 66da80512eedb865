-- What is told and printed for an answer. Assumes nothing.
use Rattle.std.proofs.Common.{◌≡◌, ℕ, ◌+◌, true, List, [], ◌∷◌, ◌++◌, length, take, drop, Ok, Err, Result, MatchResult, sym, refl, ap, ◌∙◌, subst, arith}
use Rattle.std.proofs.lemmas.List.{take-append-drop}
use Rattle.model.specs.Buffers.{Put}
use Rattle.model.specs.Witnesses.{Contents, valid}
use Rattle.guarantee.specs.Guarantee.{words_of}
use Rattle.format.specs.Listing.{listing}
use Rattle.text.specs.Pieces.{Bytes}
use Rattle.tables.specs.Written.{Tables}
use Rattle.answers.specs.declared.errors.Refused.{Refused}
use Rattle.answers.specs.Answers.{Answer, Answers}
use Rattle.answers.specs.Printing.{over, printed, told}
use Rattle.answers.specs.Theorems.{ReadAs, Satisfies}
use Rattle.answers.proofs.Listed.{sound}
use Rattle.answers.proofs.Same.{one_answer}

-- what holds of each answer may be said weaker
pub weaker : {X E : Type 0} (r : Result X E) (P R : X → Type 0) (Q S : E → Type 0) → ((x : X) → P x → R x) → ((e : E) → Q e → S e) → MatchResult r P Q → MatchResult r R S
weaker (Ok x) P R Q S f g h = f x h
weaker (Err e) P R Q S f g h = g e h

pub put_front : (old text new : Bytes) (n : ℕ) → Put old 0 text new n → take n new ≡ text
put_front old text new n p = p.front

pub put_over : (old text new : Bytes) (n : ℕ) → Put old 0 text new n → (n ≡ length text) × (new ≡ over text old)
put_over old text new n p =
    let end : n ≡ length text = omega (arith, p.behind) in
    (end, sym (take-append-drop n new) ∙ (λ i. put_front old text new n p i ++ p.rest i) ∙ ap (λ k. text ++ drop k old) end)

-- there is one answer, so what is told of it is told of any
pub told_only : (input old new : Bytes) (result : Result ℕ Refused) (own other : Answer) → Answers input own → (result ≡ told own) × (new ≡ over (printed own) old) → Answers input other → (result ≡ told other) × (new ≡ over (printed other) old)
told_only input old new result own other h is k = subst (λ a. (result ≡ told a) × (new ≡ over (printed a) old)) (one_answer input own other h k) is

pub listed_told : (old new : Bytes) (n : ℕ) (c : Contents) (result : Result ℕ Refused) → result ≡ Ok n → Put old 0 (listing c) new n → (result ≡ told (Ok c)) × (new ≡ over (printed (Ok c)) old)
listed_told old new n c result is p = let q = put_over old (listing c) new n p in (is ∙ ap Ok q.0, q.1)

pub listed_satisfies : (input old new : Bytes) (n : ℕ) (c d : Contents) (t : Tables) → Answers input (Ok c) → Put old 0 (listing c) new n → ReadAs input t → valid d ≡ true → take n new ≡ listing d → Satisfies t (words_of d)
listed_satisfies input old new n c d t h p read good is = sound input c d t h read good (sym is ∙ put_front old (listing c) new n p)
