-- The whole guarantee. Assumes nothing.
use Rattle.std.proofs.Common.{◌≡◌, ℕ, ◌<◌, Bool, true, false, cond, ◌⊎◌, List, length, is_some, Some, None, sym, ap, ◌∙◌, subst, inl, inr}
use Rattle.std.proofs.lemmas.Bool.{cases_Bool}
use Rattle.model.specs.Witnesses.{Contents, valid, spelled}
use Rattle.systems.specs.declared.Choice.{Choice}
use Rattle.systems.specs.Invariants.{WellFormed}
use Rattle.systems.specs.Runs.{Load, opened, loaded, Reaches, Follows}
use Rattle.systems.specs.Sides.{stands_in, Words, Below, Solution}
use Rattle.systems.specs.Standings.{Standing}
use Rattle.systems.specs.Theorems.{SolutionKept}
use Rattle.systems.proofs.Forming.{opened_formed, runs_are_well_formed}
use Rattle.systems.proofs.Keeping.{complete}
use Rattle.systems.proofs.Living.{fill_same}
use Rattle.systems.proofs.Soundness.{sound_at_end}
use Rattle.writing.proofs.Final.{writable}
use Rattle.writing.proofs.Limited.{live_low}
use Rattle.writing.proofs.Refusing.{solves_alike, writer_refuses_rightly}
use Rattle.guarantee.specs.Closing.{Meaning, value_of, found_word, witness, Closed, close}
use Rattle.guarantee.specs.Guarantee.{or_empty, words_of, Accepts, NoneLive, SoundClose, CompleteClose, Guarantee}
use Rattle.guarantee.proofs.Judging.{Accepted, accepted, accepts}
use Rattle.guarantee.proofs.Tables.{table_filled}
use Rattle.guarantee.proofs.Witnesses.{witness_valid, spelled_there, spelled_absent}

module _ {V : Type 0} (m : Meaning V) (loads : List Load) (choices : List Choice) (S : Standing) (run : Reaches loads choices S) (table : List V) (old : Contents) where
  abbrev system : ℕ → Bool
  system = stands_in (loaded loads)

  abbrev r : Closed V
  r = close m system S table old

  formed : WellFormed S
  formed = runs_are_well_formed loads choices S run

  low_system : (x : ℕ) → system x ≡ true → x < 26
  low_system = live_low (opened loads) (opened_formed loads)

  means : Accepts r → Accepted m system S (length table)
  means = accepted m system S (length table) (live_low S formed) low_system

  -- the witness that is written
  witness_is : Accepts r → r.written ≡ witness system S
  witness_is free = ap (λ o. cond (is_some o) old (witness system S)) free

  found_solves : Accepts r → Solution (found_word S) (loaded loads)
  found_solves free = let h = means free in sound_at_end loads choices S run h.none_live h.same

  spelled_is : Accepts r → (x : ℕ) → system x ≡ true → spelled r.written x ≡ Some (found_word S x)
  spelled_is free x of = ap (λ c. spelled c x) (witness_is free) ∙ spelled_there system S x of (low_system x of)

  spelled_none : Accepts r → (x : ℕ) → system x ≡ false → spelled r.written x ≡ None
  spelled_none free x other = ap (λ c. spelled c x) (witness_is free) ∙ spelled_absent system S x other

  words_are : Accepts r → (x : ℕ) → system x ≡ true → words_of r.written x ≡ found_word S x
  words_are free x of = ap or_empty (spelled_is free x of)

  words_a_to_z : Accepts r → (x : ℕ) → (system x ≡ true) ⊎ (system x ≡ false) → Below 26 (words_of r.written x)
  words_a_to_z free x (inl of) = subst (Below 26) (sym (words_are free x of)) ((found_solves free).a_to_z x)
  words_a_to_z free x (inr other) = subst (Below 26) (sym (ap or_empty (spelled_none free x other))) tt

  sound : SoundClose m loads S r
  sound = record {
    accepted_words_solve = λ free. record {
      solves = solves_alike (found_word S) (words_of r.written) (loaded loads) (fill_same (found_word S) (words_of r.written) (loaded loads) (λ x of. sym (words_are free x of))) (found_solves free).solves;
      a_to_z = λ x. words_a_to_z free x (cases_Bool (system x));
    };
    accepted_words_pass = λ free x of. ap (λ w. m.passes x (value_of m w)) (words_are free x of) ∙ (means free).passes x of;
    witness_is_valid = λ free. ap valid (witness_is free) ∙ witness_valid system S formed;
    witness_spells_each = spelled_is;
    witness_has_no_other = spelled_none;
  }

  module _ (σ τ : Words) (solution : Solution σ (loaded loads)) (follows : Follows loads σ choices S τ) where
    kept : SolutionKept loads choices S σ τ
    kept = complete loads choices S σ τ solution follows

    found_is : NoneLive S → (x : ℕ) → system x ≡ true → found_word S x ≡ σ x
    found_is none = kept.same_words none

    completes : CompleteClose m loads S table r σ τ
    completes = record {
      no_needless_refusal = kept.no_needless_refusal;
      accepts_exactly = λ room. (
        λ free. ((means free).none_live, λ x of. ap (λ w. m.passes x (value_of m w)) (sym (found_is (means free).none_live x of)) ∙ (means free).passes x of),
        λ h. accepts m system S (length table) (record { fits = room; none_live = h.0; same = kept.same_sides h.0; passes = λ x of. ap (λ w. m.passes x (value_of m w)) (found_is h.0 x of) ∙ h.1 x of }),
      );
      same_words = λ free x of. spelled_is free x of ∙ ap Some (found_is (means free).none_live x of);
    }

pub guarantee : (V : Type 0) → Guarantee V
guarantee V m assoc neutral loads choices S run table old = record {
  sound = sound m loads choices S run table old;
  complete = λ σ τ solution follows. completes m loads choices S run table old σ τ solution follows;
  writable = λ σ solution few. writable loads σ solution few;
  writer_refuses_rightly = λ buffer spans room. writer_refuses_rightly loads buffer spans room;
  table_filled = table_filled m (stands_in (loaded loads)) S table old assoc neutral;
}
