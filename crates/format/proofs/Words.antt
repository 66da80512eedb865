-- What the text of a word lacks, and that it shows the word. Assumes nothing.
use Rattle.std.proofs.Common.{◌≡◌, ℕ, ◌+◌, ◌^◌, ◌<◌, ◌≤◌, true, List, [], ◌∷◌, ◌++◌, get_or, decimal, sym, refl, ap, ◌∙◌, ⊎_elim, append-nil, arith, lit<}
use Rattle.std.specs.List.{AllByRecursion}
use Rattle.std.proofs.lemmas.Bool.{cases_lt}
use Rattle.model.specs.Spelling.{Word}
use Rattle.model.specs.Witnesses.{all_below}
use Rattle.model.proofs.Entries.{below_parts}
use Rattle.text.specs.Names.{letter_name}
use Rattle.text.specs.Pieces.{Bytes, between, free}
use Rattle.text.proofs.Cuts.{free_cons, same_between, free_between}
use Rattle.text.proofs.Names.{free_letter, letter_basic, letter_made, same_letter}
use Rattle.format.specs.Listing.{letter_names, word_text}

free_names : (b n : ℕ) (w : Word) → b < 48 → (35 ≡ b → ⊥) → n ≤ 2 ^ 64 → all_below n w ≡ true → AllByRecursion (λ l. free b l ≡ true) (letter_names w)
free_names b n [] low ne few h = tt
free_names b n (a ∷ w) low ne few h =
    let p = below_parts n a w h in
    let lt : a < n = p.0 in
    (free_letter b a low ne (omega arith), free_names b n w low ne few p.1)

same_names : (n : ℕ) (v w : Word) → n ≤ 2 ^ 64 → all_below n v ≡ true → all_below n w ≡ true → letter_names v ≡ letter_names w → v ≡ w
same_names n [] [] few hv hw e = refl
same_names n [] (b ∷ w) few hv hw e = absurd (let z : ◌≡◌ {A = ℕ} 0 1 = cc in omega arith)
same_names n (a ∷ v) [] few hv hw e = absurd (let z : ◌≡◌ {A = ℕ} 0 1 = cc in omega arith)
same_names n (a ∷ v) (b ∷ w) few hv hw e =
    let p = below_parts n a v hv in
    let q = below_parts n b w hw in
    let he : letter_name a ≡ letter_name b = ap (λ ls. get_or ls 0 []) e in
    let te : letter_names v ≡ letter_names w = cc in
    let head : a ≡ b = same_letter a b (omega (arith, p.0)) (omega (arith, q.0)) he in
    let tail : v ≡ w = same_names n v w few p.1 q.1 te in
    cc

pub free_word : (b n : ℕ) (w : Word) → b < 44 → (35 ≡ b → ⊥) → n ≤ 2 ^ 64 → all_below n w ≡ true → free b (word_text w) ≡ true
free_word b n [] low ne few h = free_cons b 45 [] (λ e. omega arith) refl
free_word b n (a ∷ w) low ne few h =
    let all = free_names b n (a ∷ w) (omega arith) ne few h in
    free_between b 44 (letter_name a) (letter_names w) (λ e. omega arith) all.0 all.1

-- a letter's name does not begin with -
no_dash : (a : ℕ) (t : Bytes) → 45 ∷ [] ≡ letter_name a ++ t → ⊥
no_dash a t e =
    ⊎_elim
    (λ (low : a < 26). let both : 45 ∷ [] ≡ (97 + a) ∷ t = e ∙ ap (λ l. l ++ t) (letter_basic a low) in let heads : 45 ≡ 97 + a = ap (λ l. get_or l 0 0) both in omega arith)
    (λ (high : 26 ≤ a). let both : 45 ∷ [] ≡ 35 ∷ (decimal a ++ t) = e ∙ ap (λ l. l ++ t) (letter_made a high) in let heads : ◌≡◌ {A = ℕ} 45 35 = ap (λ l. get_or l 0 0) both in omega arith)
    (cases_lt a 26)

-- a word of some letters begins with the name of the first
begins : (a : ℕ) (ls : List Bytes) → (t : Bytes) × (between 44 (letter_name a) ls ≡ letter_name a ++ t)
begins a [] = ([], sym (append-nil (letter_name a)))
begins a (l ∷ ls) = (44 ∷ between 44 l ls, refl)

some_word : (a : ℕ) (w : Word) → 45 ∷ [] ≡ word_text (a ∷ w) → ⊥
some_word a w e = let s = begins a (letter_names w) in no_dash a s.0 (e ∙ s.1)

pub same_word : (n : ℕ) (v w : Word) → n ≤ 2 ^ 64 → all_below n v ≡ true → all_below n w ≡ true → word_text v ≡ word_text w → v ≡ w
same_word n [] [] few hv hw e = refl
same_word n [] (b ∷ w) few hv hw e = absurd (some_word b w e)
same_word n (a ∷ v) [] few hv hw e = absurd (some_word a v (sym e))
same_word n (a ∷ v) (b ∷ w) few hv hw e =
    let fv = free_names 44 n (a ∷ v) (lit< tt) (λ x. omega arith) few hv in
    let fw = free_names 44 n (b ∷ w) (lit< tt) (λ x. omega arith) few hw in
    let both = same_between 44 (letter_name a) (letter_name b) (letter_names v) (letter_names w) fv.0 fw.0 fv.1 fw.1 e in
    let head : letter_name a ≡ letter_name b = both.0 in
    let tail : letter_names v ≡ letter_names w = both.1 in
    same_names n (a ∷ v) (b ∷ w) few hv hw (cc)
