-- What is told of a word, the rows of a table, and what is said of no listing. Assumes nothing.
use Rattle.std.proofs.Common.{◌≡◌, ℕ, ◌+◌, ◌≤◌, min, ltb, leb, cond, [], ◌∷◌, ◌++◌, length, take, Some, None, Ok, Err, codes, decimal, Option, sym, refl, ap, ◌∙◌, inr, arith}
use Rattle.std.proofs.lemmas.List.{take_min}
use Rattle.std.proofs.lemmas.Bool.{cond-true, le-leb}
use Rattle.model.specs.Spelling.{Word}
use Rattle.text.specs.Names.{variable_name}
use Rattle.text.specs.Pieces.{Bytes}
use Rattle.witness.specs.Answers.{as_text, fill_answer, filled, length_answer}
use Rattle.witness.specs.declared.refusals.WitnessRefusal.TheVariants.{PastWord}
use Rattle.listing.specs.Refusals.{Refuses, read_number}
use Rattle.listing.specs.declared.refusals.ReadRefusal.{ReadRefusal}
use Rattle.listing.specs.declared.refusals.ReadRefusal.TheVariants.{NotListing}
use Rattle.readout.specs.Replies.{Replied, refused_line}
use Rattle.text.specs.Refusals.{refusal_text}
use Rattle.readout.specs.Rows.{beginning, row, shown}
use Rattle.readout.specs.declared.request.Request.{Request}

-- a word whose length is answered
pub length_told : (o : Option Word) (n : ℕ) → Ok n ≡ length_answer o → (w : Word) × (o ≡ Some w) × (n ≡ length w)
length_told None n e = absurd (let z : ◌≡◌ {A = ℕ} 0 1 = cc in omega arith)
length_told (Some w) n e = (w, refl, cc)

pub row_told : (x : ℕ) (o : Option Word) (n : ℕ) → Ok n ≡ length_answer o → row x o ≡ variable_name x ++ (codes " " ++ (decimal n ++ (codes " " ++ (shown o ++ codes "\n"))))
row_told x o n e =
    let t = length_told o n e in
    ap (row x) t.1 ∙ ap (λ k. variable_name x ++ (codes " " ++ (decimal k ++ (codes " " ++ (beginning t.0 ++ codes "\n"))))) (sym t.2) ∙ ap (λ p. variable_name x ++ (codes " " ++ (decimal n ++ (codes " " ++ (shown p ++ codes "\n"))))) (sym t.1)

-- of a word whose length is answered no letters are refused below it
pub fill_told : (o : Option Word) (n m : ℕ) → Ok n ≡ length_answer o → m ≤ n → fill_answer o 0 m ≡ Ok tt
fill_told o n m e le =
    let t = length_told o n e in
    ap (λ p. fill_answer p 0 m) t.1 ∙ cond-true (leb (0 + m) (length t.0)) (Ok tt) (Err PastWord) (le-leb (0 + m) (length t.0) (omega (arith, t.2)))

-- the letters that are shown, with ... where the word goes on
pub shown_told : (o : Option Word) (n m : ℕ) (old letters : Bytes) → Ok n ≡ length_answer o → m ≡ min n 64 → (n ≡ 0 → ⊥) → length old ≡ m → letters ≡ filled o 0 old → shown o ≡ letters ++ cond (ltb 64 n) (codes "...") []
shown_told None n m old letters e few some long put = absurd (let z : ◌≡◌ {A = ℕ} 0 1 = cc in omega arith)
shown_told (Some []) n m old letters e few some long put = absurd (let z : n ≡ 0 = cc in some z)
shown_told (Some (a ∷ w)) n m old letters e few some long put =
    let whole : n ≡ length (a ∷ w) = cc in
    let fits : 0 + length old ≤ length (a ∷ w) = omega arith in
    let front : letters ≡ as_text (take (length old) (a ∷ w)) = put ∙ cond-true (leb (0 + length old) (length (a ∷ w))) (as_text (take (length old) (a ∷ w))) old (le-leb (0 + length old) (length (a ∷ w)) fits) in
    let least : length old ≡ min 64 (length (a ∷ w)) = omega arith in
    let short : letters ≡ as_text (take 64 (a ∷ w)) = front ∙ ap (λ k. as_text (take k (a ∷ w))) least ∙ ap as_text (take_min 64 (a ∷ w)) in
    (λ i. sym short i ++ cond (ltb 64 (sym whole i)) (codes "...") [])

-- what is said of a text that is no listing
pub refused_said : (request : Request) (input : Bytes) (why : ReadRefusal) → Refuses input why → Replied request input (Err (refusal_text (read_number why) (refused_line why) (codes "-")))
refused_said request input (NotListing line) h = inr (line, h, refl)
