-- Rules and lengths as they are stored, oldest first, with one more of each. Assumes nothing.
use Rattle.std.proofs.Common.{◌≡◌, ℕ, ◌+◌, ◌<◌, ◌≤◌, true, ltb, List, [], ◌∷◌, ◌++◌, reverse, length, get_or, Some, None, sym, ap, ◌∙◌, ⊎_elim, arith}
use Rattle.std.specs.List.{slice_get}
use Rattle.std.proofs.lemmas.Bool.{and_from, cases_lt, cond-false, le-ltb}
use Rattle.std.proofs.lemmas.List.{length-reverse, length_push, get_or_append_left, get_or_push}
use Rattle.std.proofs.lemmas.Option.{slice_get_past, slice_get-get_or}
use Rattle.model.specs.declared.Rule.{Rule}
use Rattle.model.specs.declared.Rule.TheVariants.{Block}
use Rattle.model.specs.Spelling.{known, rule_of, spell}
use Rattle.model.specs.Witnesses.{made_length, rule_fits, rule_refusal, rules_fit}
use Rattle.model.proofs.Spelling.{spell_older, spell_newest}
use Rattle.model.proofs.Fitting.{from_fits, newest_reverse, rule_past, rule_stored, taken_fits}
use Rattle.letters.specs.Holding.{length_of}
use Rattle.letters.proofs.Judging.{length_known}

-- the rule of a made letter, and the length of what it spells, stand at its place in the lists, if it is made
pub rule_placed : (rules : List Rule) (i : ℕ) → slice_get rules i ≡ rule_of (reverse rules) (26 + i)
rule_placed rules i =
    ⊎_elim
    (λ (within : i < length rules).
    slice_get-get_or rules i (Block 0 0) within ∙ sym (rule_stored rules i (Block 0 0) within))
    (λ (past : length rules ≤ i). slice_get_past rules i past ∙ sym (rule_past (reverse rules) (26 + i) (omega (arith, length-reverse rules))))
    (cases_lt i (length rules))

pub length_placed : (rules : List Rule) (lengths : List ℕ) (i : ℕ) → length lengths ≡ length rules → ((i : ℕ) → i < length rules → get_or lengths i 0 ≡ length (spell (reverse rules) (26 + i))) → slice_get lengths i ≡ length_of (reverse rules) (26 + i)
length_placed rules lengths i level measured =
    ⊎_elim
    (λ (within : i < length rules).
    let beside : i < length lengths = omega arith in
    slice_get-get_or lengths i 0 beside ∙ ap Some (measured i within) ∙ sym (length_known (reverse rules) (26 + i) (omega (arith, length-reverse rules))))
    (λ (past : length rules ≤ i).
    let out : known (reverse rules) ≤ 26 + i = omega (arith, length-reverse rules) in
    slice_get_past lengths i (omega arith) ∙ sym (cond-false (ltb (26 + i) (known (reverse rules))) (Some (length (spell (reverse rules) (26 + i)))) None (le-ltb (26 + i) (known (reverse rules)) out)))
    (cases_lt i (length rules))

-- a rule that is not refused finds room
pub room_more : (rules : List Rule) (rule : Rule) → rule_refusal (reverse rules) rule ≡ None → length rules < 512
room_more rules rule free = omega (arith, (taken_fits (reverse rules) rule free).few, length-reverse rules)

module _ (rules rules' : List Rule) (rule : Rule) (pushed : rules' ≡ rules ++ (rule ∷ [])) where
  pub newest : reverse rules' ≡ rule ∷ reverse rules
  newest = ap reverse pushed ∙ newest_reverse rules rule

  pub fit_more : rules_fit (reverse rules) ≡ true → rule_refusal (reverse rules) rule ≡ None → rules_fit (reverse rules') ≡ true
  fit_more fit free =
      ap rules_fit newest
      ∙ and_from (rule_fits (reverse rules) rule) (rules_fit (reverse rules)) (from_fits (reverse rules) rule (taken_fits (reverse rules) rule free)) fit

  pub measured_more : (lengths lengths' : List ℕ) (n : ℕ) → lengths' ≡ lengths ++ (n ∷ []) → length lengths ≡ length rules → ((i : ℕ) → i < length rules → get_or lengths i 0 ≡ length (spell (reverse rules) (26 + i))) → n ≡ made_length (reverse rules) rule → (i : ℕ) → i < length rules' → get_or lengths' i 0 ≡ length (spell (reverse rules') (26 + i))
  measured_more lengths lengths' n put level old new i lt =
      let long : length (reverse rules) ≡ length rules = length-reverse rules in
      ap (λ l. get_or l i 0) put
      ∙ ⊎_elim
      (λ (l : i < length rules).
      let within : i < length lengths = omega arith in
      let under : 26 + i < known (reverse rules) = omega arith in
      get_or_append_left lengths (n ∷ []) 0 i within ∙ old i l ∙ ap length (sym (spell_older rule (reverse rules) (26 + i) under)))
      (λ (l : length rules ≤ i).
      let end : length rules' ≡ length rules + 1 = ap length pushed ∙ length_push rules rule in
      let here : length lengths ≡ i = omega arith in
      let top : known (reverse rules) ≡ 26 + i = omega arith in
      get_or_push lengths n 0 i here ∙ new ∙ ap length (sym (spell_newest rule (reverse rules)) ∙ ap (spell (rule ∷ reverse rules)) top))
      (cases_lt i (length rules))
      ∙ ap (λ rs. length (spell rs (26 + i))) (sym newest)
