-- What the close of a run keeps: the guarantee, with words within the limits. Assumes nothing.
use Rattle.std.proofs.Common.{◌≡◌, ℕ, ◌<◌, ◌≤◌, true, cond, List, [], length, replicate, is_some, Some, None, sym, ap, ◌∙◌, subst, arith}
use Rattle.std.proofs.lemmas.List.{length-replicate}
use Rattle.model.specs.Witnesses.{Contents, valid, spelled}
use Rattle.systems.specs.declared.Choice.{Choice}
use Rattle.systems.specs.Runs.{Load, opened, loaded, OfSystem, Reaches, Follows}
use Rattle.systems.specs.Sides.{stands_in, Words, Solution}
use Rattle.systems.specs.Standings.{Standing, fresh}
use Rattle.systems.proofs.Forming.{opened_formed, runs_are_well_formed}
use Rattle.writing.proofs.Limited.{live_low}
use Rattle.guarantee.specs.Closing.{close, Closed, close_refusal, witness}
use Rattle.guarantee.specs.Guarantee.{words_of, AllPass, NoneLive, Accepts, Promised}
use Rattle.guarantee.proofs.Whole.{guarantee}
use Rattle.length.specs.declared.value.Capped.{Capped}
use Rattle.length.specs.Capped.{capped, longer_associative, longer_neutral}
use Rattle.tables.specs.declared.types.Limit.{Limit}
use Rattle.answers.specs.Answers.{closes}
use Rattle.answers.specs.Limits.{judging, IsWithin}
use Rattle.answers.proofs.Limits.{passing_is_within, within_passes}

-- a table with room for every letter
some_table : (table : List Capped) × (length table ≡ 538)
some_table = (replicate 538 (capped 0), length-replicate 538 (capped 0))

no_witness : Contents
no_witness = record { rules = []; entries = [] }

-- all words are within the limits
abbrev pub AllWithin : List Load → List Limit → Words → Type 0
AllWithin loads limits w = (x : ℕ) → OfSystem loads x → IsWithin limits x (w x)

low : (loads : List Load) (x : ℕ) → OfSystem loads x → x < 26
low loads x of = live_low (opened loads) (opened_formed loads) x of

passing_within : (loads : List Load) (limits : List Limit) (w : Words) → AllPass (judging limits) loads w → AllWithin loads limits w
passing_within loads limits w pass x of = passing_is_within limits x (w x) (low loads x of) (pass x of)

within_passing : (loads : List Load) (limits : List Limit) (w : Words) → AllWithin loads limits w → AllPass (judging limits) loads w
within_passing loads limits w within x of = within_passes limits x (w x) (low loads x of) (within x of)

-- no run makes more letters than the table has room for
pub few_letters : (loads : List Load) (choices : List Choice) (S : Standing) → Reaches loads choices S → fresh S ≤ 538
few_letters loads choices S run = let few = (runs_are_well_formed loads choices S run).few_rules in omega arith

module _ (loads : List Load) (limits : List Limit) (choices : List Choice) (S : Standing) (run : Reaches loads choices S) where
  table : List Capped
  table = some_table.0

  room : length table ≡ 538
  unfolding table
  room = some_table.1

  abbrev r : Closed Capped
  r = close (judging limits) (stands_in (loaded loads)) S table no_witness

  promised : Promised (judging limits) loads choices S table r
  promised = guarantee Capped (judging limits) longer_associative longer_neutral loads choices S run table no_witness

  same_answer : r.answer ≡ closes loads limits S
  same_answer = ap (close_refusal (judging limits) (stands_in (loaded loads)) S) room

  module _ (free : closes loads limits S ≡ None) where
    accepts : Accepts r
    accepts = same_answer ∙ free

    written_is : r.written ≡ witness (stands_in (loaded loads)) S
    written_is = ap (λ o. cond (is_some o) no_witness (witness (stands_in (loaded loads)) S)) accepts

    pub witness_valid : valid (witness (stands_in (loaded loads)) S) ≡ true
    witness_valid = subst (λ c. valid c ≡ true) written_is (promised.sound.witness_is_valid accepts)

    pub words_solve : Solution (words_of (witness (stands_in (loaded loads)) S)) (loaded loads)
    words_solve = subst (λ c. Solution (words_of c) (loaded loads)) written_is (promised.sound.accepted_words_solve accepts)

    pub words_within : AllWithin loads limits (words_of (witness (stands_in (loaded loads)) S))
    words_within = passing_within loads limits (words_of (witness (stands_in (loaded loads)) S)) (subst (λ c. AllPass (judging limits) loads (words_of c)) written_is (promised.sound.accepted_words_pass accepts))

  module _ (σ τ : Words) (solution : Solution σ (loaded loads)) (follows : Follows loads σ choices S τ) where
    fits : fresh S ≤ length table
    fits = omega (arith, few_letters loads choices S run, room)

    pub accepted_only : closes loads limits S ≡ None → NoneLive S × AllWithin loads limits σ
    accepted_only free =
        let h = ((promised.complete σ τ solution follows).accepts_exactly fits).0 (accepts free) in
        (h.0, passing_within loads limits σ h.1)

    pub accepted_always : NoneLive S → AllWithin loads limits σ → closes loads limits S ≡ None
    accepted_always none within = sym same_answer ∙ ((promised.complete σ τ solution follows).accepts_exactly fits).1 (none, within_passing loads limits σ within)

    pub spells : closes loads limits S ≡ None → (x : ℕ) → OfSystem loads x → spelled (witness (stands_in (loaded loads)) S) x ≡ Some (σ x)
    spells free x of = subst (λ c. spelled c x ≡ Some (σ x)) (written_is free) ((promised.complete σ τ solution follows).same_words (accepts free) x of)
