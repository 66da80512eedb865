-- When a listing is answered, and what it says. Assumes nothing.
use Rattle.std.proofs.Common.{◌≡◌, ℕ, ◌≤◌, true, length, get_or, Some, None, Ok, Err, ◌≢◌, sym, refl, ap, subst, inl, inr, arith}
use Rattle.std.specs.List.{AllByRecursion}
use Rattle.model.specs.Witnesses.{Contents, valid, spelled}
use Rattle.systems.specs.Loading.{side_of}
use Rattle.systems.specs.Runs.{loaded, OfSystem, Reaches, Follows}
use Rattle.systems.specs.Sides.{stands_in, Words, fill, Solution}
use Rattle.systems.specs.Standings.{Standing}
use Rattle.systems.proofs.Determined.{calls_decide_what_stands}
use Rattle.guarantee.specs.Closing.{witness}
use Rattle.guarantee.specs.Guarantee.{NoneLive, words_of}
use Rattle.text.specs.Pieces.{Bytes}
use Rattle.format.specs.Listing.{listing}
use Rattle.format.proofs.Runs.{one_contents}
use Rattle.tables.specs.Lines.{lines_of}
use Rattle.tables.specs.Written.{Tables}
use Rattle.answers.specs.declared.errors.RunError.{RunError}
use Rattle.answers.specs.declared.errors.RunError.TheVariants.{TooLong}
use Rattle.answers.specs.Answers.{Answer, Answers, Accepted, closes}
use Rattle.answers.specs.Printing.{error_text}
use Rattle.answers.specs.Theorems.{ReadAs, Carried, ListedExactly, Sound}
use Rattle.answers.proofs.Closing.{AllWithin, witness_valid, words_solve, words_within, accepted_only, accepted_always, spells}
use Rattle.answers.proofs.Loaded.{each_solved}
use Rattle.answers.proofs.Read.{tables_are_read}
use Rattle.answers.proofs.Plain.{writable_read}

-- all is taken and the close accepts with this witness
pub record Listed (input : Bytes) (c : Contents) (t : Tables) (S : Standing) : Type 0 where
  pub carried : Carried input t S
  pub free : closes t.equations t.limits S ≡ None
  pub is : c ≡ witness (stands_in (loaded t.equations)) S

not_too_long : (c : Contents) → ◌≡◌ {A = Answer} (Ok c) (Err TooLong) → ⊥
not_too_long c e = let z : ◌≡◌ {A = ℕ} 0 1 = cc in omega arith

listed_lines : (input : Bytes) (c : Contents) → length input ≤ 32768 → Accepted (lines_of input) c → (t : Tables) × (S : Standing) × Listed input c t S
listed_lines input c short h =
    let all = h.4 in (
      record { equations = h.0; limits = h.1; choices = h.2 },
      h.3,
      record {
        carried = record { short = short; read = record { writable = writable_read input h.0 h.1 h.2 all.taken all.are; are = all.are }; taken = all };
        free = h.5;
        is = h.6;
      },
    )

listed : (input : Bytes) (c : Contents) → Answers input (Ok c) → (t : Tables) × (S : Standing) × Listed input c t S
listed input c (inl long) = absurd (not_too_long c long.1)
listed input c (inr lines) = listed_lines input c lines.0 lines.1

answered : (input : Bytes) (t : Tables) (S : Standing) → Carried input t S → closes t.equations t.limits S ≡ None → Answers input (Ok (witness (stands_in (loaded t.equations)) S))
answered input t S carried free = inr (carried.short, (t.equations, t.limits, t.choices, S, carried.taken, free, refl))

-- a refusal begins with r, a listing with l
refusal_is_none : (why : RunError) (c : Contents) → error_text why ≢ listing c
refusal_is_none why c e = let z : ◌≡◌ {A = ℕ} 114 108 = ap (λ bytes. get_or bytes 0 0) e in omega arith

pub listed_exactly : ListedExactly
listed_exactly = record {
  only = λ input c answer. let h = listed input c answer in (h.0, h.1, h.2.carried, h.2.free, h.2.is);
  always = answered;
  no_refusal_is_a_listing = refusal_is_none;
}

-- it says so of the tables that are read, and of what stands then

same_standing : (input : Bytes) (c : Contents) (t : Tables) (S T : Standing) → Carried input t S → Listed input c t T → Listed input c t S
same_standing input c t S T carried h = subst (Listed input c t) (calls_decide_what_stands.same t.equations t.choices T S h.carried.taken.reaches carried.taken.reaches) h

listed_tables : (input : Bytes) (c : Contents) (t : Tables) → ReadAs input t → Answers input (Ok c) → (S : Standing) × Listed input c t S
listed_tables input c t read answer =
    let h = listed input c answer in
    (h.1, subst (λ u. Listed input c u h.1) (tables_are_read.same h.0 t input h.2.carried.read read) h.2)

listed_there : (input : Bytes) (c : Contents) (t : Tables) (S : Standing) → Carried input t S → Answers input (Ok c) → Listed input c t S
listed_there input c t S carried answer =
    let h = listed_tables input c t carried.read answer in
    same_standing input c t S h.0 carried h.1

-- what is so of every listing that is answered

spoken : (input : Bytes) (c : Contents) (t : Tables) (S : Standing) → Listed input c t S → AllByRecursion (λ e. fill (words_of c) (side_of e.0) ≡ fill (words_of c) (side_of e.1)) t.equations × AllWithin t.equations t.limits (words_of c)
spoken input c t S h =
    let all = h.carried.taken in
    let run = all.reaches in
    subst (λ c. AllByRecursion (λ e. fill (words_of c) (side_of e.0) ≡ fill (words_of c) (side_of e.1)) t.equations × AllWithin t.equations t.limits (words_of c)) (sym h.is)
    (each_solved (words_of (witness (stands_in (loaded t.equations)) S)) t.equations all.taken.second.first.loaded (words_solve t.equations t.limits t.choices S run h.free).solves, words_within t.equations t.limits t.choices S run h.free)

listed_valid : (input : Bytes) (c : Contents) (t : Tables) (S : Standing) → Listed input c t S → valid c ≡ true
listed_valid input c t S h = subst (λ c. valid c ≡ true) (sym h.is) (witness_valid t.equations t.limits t.choices S h.carried.taken.reaches h.free)

pub sound : Sound
sound input c d t answer read ok same =
    let h = listed_tables input c t read answer in
    let is : c ≡ d = one_contents c d (listed_valid input c t h.0 h.1) ok (sym same) in
    subst (λ c. AllByRecursion (λ e. fill (words_of c) (side_of e.0) ≡ fill (words_of c) (side_of e.1)) t.equations × AllWithin t.equations t.limits (words_of c)) is (spoken input c t h.0 h.1)

module _ (input : Bytes) (t : Tables) (S : Standing) (σ τ : Words) (carried : Carried input t S) (solution : Solution σ (loaded t.equations)) (follows : Follows t.equations σ t.choices S τ) where
  run : Reaches t.equations t.choices S
  run = carried.taken.reaches

  pub solution_listed : NoneLive S → AllWithin t.equations t.limits σ → (c : Contents) × Answers input (Ok c)
  solution_listed none within = (witness (stands_in (loaded t.equations)) S, answered input t S carried (accepted_always t.equations t.limits t.choices S run σ τ solution follows none within))

  module _ (c : Contents) (answer : Answers input (Ok c)) where
    there : Listed input c t S
    there = listed_there input c t S carried answer

    pub listed_within : NoneLive S × AllWithin t.equations t.limits σ
    listed_within = accepted_only t.equations t.limits t.choices S run σ τ solution follows there.free

    pub listed_words : (x : ℕ) → OfSystem t.equations x → spelled c x ≡ Some (σ x)
    listed_words x of = subst (λ c. spelled c x ≡ Some (σ x)) (sym there.is) (spells t.equations t.limits t.choices S run σ τ solution follows there.free x of)
