-- Every solution is written. Assumes nothing.
use Rattle.std.proofs.Common.{◌≡◌, ◌+◌, ◌≤◌, not, ◌&&◌, ltb, leb, List, [], ◌∷◌, ◌++◌, length, None, sym, refl, ap, ◌∙◌, subst, append_assoc, append-nil, arith, lit≤}
use Rattle.std.proofs.lemmas.Bool.{ltb-false}
use Rattle.model.specs.Spelling.{Word, spell_word}
use Rattle.systems.specs.declared.Choice.{Choice}
use Rattle.systems.specs.Choices.{taken}
use Rattle.systems.specs.Loading.{readable, loaded_too, load_refusal, after_load}
use Rattle.systems.specs.Refusals.{choice_refusal}
use Rattle.systems.specs.Runs.{Load, load_all, opened, loaded, Reaches, Follows, beginning, fitting}
use Rattle.systems.specs.Sides.{places, Words, Solution}
use Rattle.systems.specs.Standings.{Standing, new}
use Rattle.systems.specs.Theorems.{SolutionKept}
use Rattle.systems.proofs.Allowing.{unless_refused, after_taken, not_refused}
use Rattle.systems.proofs.Determined.{calls_decide_what_stands}
use Rattle.systems.proofs.Forming.{opened_formed, opened_bare}
use Rattle.systems.proofs.Keeping.{complete}
use Rattle.writing.specs.Counts.{side_letters}
use Rattle.writing.specs.Theorems.{start, NoneRefused, Written, Writable}
use Rattle.writing.specs.Writer.{State, next, follow, leaves, filled_sides, total, letters}
use Rattle.writing.specs.Counts.{weight}
use Rattle.writing.proofs.Limited.{Holds, free, holds_next, holds_follow, run_falls}
use Rattle.writing.proofs.Lists.{total_same}
use Rattle.writing.proofs.Parts.{AllSure, sure_front}
use Rattle.writing.specs.Turns.{list_of, turns_enough}
use Rattle.writing.proofs.Rounds.{turns_are_enough, Out, written, unique}
use Rattle.writing.proofs.Shares.{words_in_sides, few_live, variables_le}

-- the run, choice by choice
follow_run : (loads : List Load) (σ : Words) (earlier : List Choice) (st : State) → Follows loads σ earlier st.stands st.words → (list : List Choice) → Holds σ st → AllSure st list → Follows loads σ (earlier ++ list) (follow st list).stands (follow st list).words
follow_run loads σ earlier st run [] holds sure = subst (λ l. Follows loads σ l st.stands st.words) (sym (append-nil earlier)) run
follow_run loads σ earlier st run (choice ∷ more) holds sure =
    let S : Standing = st.stands in
    let τ' : Words = leaves S st.words choice in
    let none : choice_refusal S choice ≡ None = free σ st choice holds sure.0 in
    let one_more : Follows loads σ (earlier ++ (choice ∷ [])) (taken S choice) τ' = subst (λ T. Follows loads σ (earlier ++ (choice ∷ [])) T τ') (after_taken S choice none) (fitting run choice τ' none sure.0.0) in
    subst (λ l. Follows loads σ l (follow st (choice ∷ more)).stands (follow st (choice ∷ more)).words) (append_assoc earlier (choice ∷ []) more)
    (follow_run loads σ (earlier ++ (choice ∷ [])) (next st choice) one_more more (holds_next σ st choice sure.0 holds) sure.1)

all_taken : (loads : List Load) (σ : Words) → Solution σ (loaded loads) → (list : List Choice) → Holds σ (start loads σ) → AllSure (start loads σ) list → NoneRefused loads list
all_taken loads σ solution list holds sure before behind choice S is run =
    let st : State = start loads σ in
    let parts = sure_front st before (choice ∷ behind) (subst (AllSure st) is sure) in
    let st₁ : State = follow st before in
    let follows : Follows loads σ before st₁.stands st₁.words = follow_run loads σ [] st beginning before holds parts.0 in
    let there : Reaches loads before st₁.stands = (complete loads before st₁.stands σ st₁.words solution follows).reaches in
    subst (λ T. choice_refusal T choice ≡ None) (calls_decide_what_stands.same loads before st₁.stands S there run)
    (free σ st₁ choice (holds_follow σ st before parts.0 holds) parts.1.0)

-- at most 1,024 places are loaded
pub few_loaded : (loads : List Load) (S : Standing) → places S.equations ≤ 1024 → places (load_all S loads).equations ≤ 1024
few_loaded [] S few = few
few_loaded (load ∷ more) S few =
    few_loaded more (after_load S load.0 load.1)
    (unless_refused (λ T. places T.equations ≤ 1024) (load_refusal S load.0 load.1) S (loaded_too S load.0 load.1) few
    (λ none. let p = not_refused (not (readable load.0 && readable load.1)) _ _ none in
    let q = not_refused (leb 32 (length S.equations)) _ _ p.1 in
    let r = not_refused (ltb 1024 (places (loaded_too S load.0 load.1).equations)) _ _ q.1 in
    ltb-false 1024 (places (loaded_too S load.0 load.1).equations) r.0))

plain : (w : Word) → spell_word [] w ≡ w
plain [] = refl
plain (l ∷ w) = ap (λ r. l ∷ r) (plain w)

pub holds_first : (loads : List Load) (σ : Words) → Solution σ (loaded loads) → side_letters (start loads σ) ≤ 512 → Holds σ (start loads σ)
holds_first loads σ solution short =
    let st : State = start loads σ in
    let first : SolutionKept loads [] (opened loads) σ σ = complete loads [] (opened loads) σ σ solution beginning in
    let bare_rules : (opened loads).rules ≡ [] = sym (ap (λ S. S.rules) (opened_bare loads)) in
    let no_rules : length (opened loads).rules ≡ 0 = ap length bare_rules in
    let no_pops : length (opened loads).pops ≡ 0 = ap (λ S. length S.pops) (sym (opened_bare loads)) in
    let spelled : total (λ w. length (spell_word (opened loads).rules w)) (filled_sides st) ≡ letters (filled_sides st) = total_same (λ w. length (spell_word (opened loads).rules w)) length (λ w. ap (λ rules. length (spell_word rules w)) bare_rules ∙ ap length (plain w)) (filled_sides st) in
    record {
      kept = record { below = first.known_words; solves = first.solves; words = first.whole_words };
      formed = opened_formed loads;
      within = record {
        rules = omega (arith, no_rules, short);
        pops = omega (arith, no_pops, words_in_sides st, short);
        variable = omega (arith, variables_le (loaded loads), few_loaded loads new (lit≤ tt));
        spells = omega (arith, spelled, short);
      };
    }

-- the first state is light
pub light_first : (loads : List Load) (σ : Words) → side_letters (start loads σ) ≤ 512 → weight (start loads σ) ≤ 1050
light_first loads σ short = let st : State = start loads σ in omega (arith, short, words_in_sides st, few_live st)

-- the list of the rounds is the one that is written
pub list_written : (loads : List Load) (σ : Words) → Solution σ (loaded loads) → side_letters (start loads σ) ≤ 512 → Written loads σ (list_of turns_enough (start loads σ))
list_written loads σ solution short =
    let st : State = start loads σ in
    let holds : Holds σ st = holds_first loads σ solution short in
    let light : weight st ≤ 1050 = light_first loads σ short in
    let out : Out turns_enough st = written σ turns_enough st holds (omega (arith, light, turns_are_enough)) in
    let less : length out.list + weight (follow st out.list) ≤ weight st = run_falls σ st out.list holds out.sure in
    subst (Written loads σ) (sym out.is)
    (record {
      writes = out.writes;
      only = λ other w. unique out.writes w;
      short = omega (arith, less);
      at_most_1050 = omega (arith, less, light);
      end = (follow st out.list).stands;
      left = (follow st out.list).words;
      each_fits = follow_run loads σ [] st beginning out.list holds out.sure;
      each_taken = all_taken loads σ solution out.list holds out.sure;
      none_live = out.dead;
    })

pub writable : Writable
writable loads σ solution short = (list_of turns_enough (start loads σ), list_written loads σ solution short)
