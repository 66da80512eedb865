-- What a close leaves, by its answer, and the guarantee of it. Assumes nothing.
use Rattle.std.proofs.Common.{◌≡◌, ℕ, zero, suc, ◌+◌, ◌<◌, ◌≤◌, Bool, true, false, cond, List, [], ◌∷◌, ◌++◌, map, reverse, length, get_or, drop, is_some, Some, None, Option, sym, refl, ap, ◌∙◌, subst, ap₂, add-zero, arith}
use Rattle.std.specs.Option.{option_map}
use Rattle.std.proofs.lemmas.List.{length-reverse}
use Rattle.std.proofs.lemmas.Bool.{cond-false}
use Rattle.model.specs.declared.Rule.{Rule}
use Rattle.model.specs.Spelling.{spell}
use Rattle.model.specs.Witnesses.{Contents, rules_fit}
use Rattle.measure.specs.Tables.{Filled, fillable}
use Rattle.measure.proofs.Filling.{fillable_room, fit_in_turn}
use Rattle.systems.specs.declared.Choice.{Choice}
use Rattle.systems.specs.Runs.{Load}
use Rattle.systems.specs.Standings.{Standing, fresh}
use Rattle.systems.specs.Values.{Associative, Neutral}
use Rattle.writing.specs.Writer.{first, from, variables}
use Rattle.guarantee.specs.declared.CloseRefusal.{CloseRefusal}
use Rattle.guarantee.specs.declared.CloseRefusal.TheVariants.{Fails}
use Rattle.guarantee.specs.Closing.{Closed, Meaning, close, close_refusal, fails, filled_table, fills, value_of, witness}
use Rattle.guarantee.specs.Guarantee.{Promised}
use Rattle.guarantee.proofs.Whole.{guarantee}
use Rattle.checker.specs.declared.store.Check.{Check}
use Rattle.checker.specs.Ending.{closed, reasons}
use Rattle.checker.specs.Holding.{CameBy, standing, system_of}
use Rattle.checker.proofs.Formed.{same_system}

-- a list that has f at its first places
table_from : {V : Type 0} (f : ℕ → V) (d : V) (n k : ℕ) (t : List V) → n ≤ length t → ((a : ℕ) → a < n → get_or t a d ≡ f (k + a)) → t ≡ map f (from k n) ++ drop n t
table_from f d zero k t le is = refl
table_from f d (suc n) k [] le is = absurd (omega arith)
table_from f d (suc n) k (v ∷ t) le is =
    ap₂ (λ u r. u ∷ r) (is 0 (omega arith) ∙ ap f (add-zero k)) (table_from f d n (suc k) t (omega arith) (λ a lt. is (suc a) (omega arith) ∙ ap f (omega arith)))

module _ {V : Type 0} (m : Meaning V) (S : Standing) where
  module _ (table new : List V) (stored : List Rule) (is : reverse stored ≡ S.rules) (room : fresh S ≤ length table) (fill : fillable (reverse stored) (length table) ≡ true → Filled m.letter m.empty m.join (reverse stored) new) where
    -- rules that fit fill a table with room for every known letter
    pub can_fill : rules_fit S.rules ≡ true → fillable (reverse stored) (length table) ≡ true
    can_fill fit = sym (fillable_room stored (length table) (omega (arith, length-reverse stored, ap length is))) ∙ fit_in_turn (reverse stored) (ap rules_fit is ∙ fit)

    pub is_filled : rules_fit S.rules ≡ true → Filled m.letter m.empty m.join S.rules new
    is_filled fit = subst (λ rules. Filled m.letter m.empty m.join rules new) is (fill (can_fill fit))

    -- and where the rest is untouched, the table is known
    pub filled_is : rules_fit S.rules ≡ true → length new ≡ length table → drop (26 + length stored) new ≡ drop (26 + length stored) table → new ≡ filled_table m S table
    filled_is fit long rest =
        let n : 26 + length stored ≡ fresh S = omega (arith, length-reverse stored, ap length is) in
        table_from (λ c. value_of m (spell S.rules c)) m.empty (fresh S) 0 new (omega arith) (λ a lt. is_filled fit a lt ∙ ap (λ c. value_of m (spell S.rules c)) (omega arith)) ∙
        ap (λ r. map (λ c. value_of m (spell S.rules c)) (from 0 (fresh S)) ++ r) (ap (λ k. drop k new) (sym n) ∙ rest ∙ ap (λ k. drop k table) n)

  module _ (system : ℕ → Bool) (table : List V) (old : Contents) where
    -- by the refusal that is met
    close_by : (o : Option CloseRefusal) → close_refusal m system S (length table) ≡ o → close m system S table old ≡ closed o (cond (fills o) (filled_table m S table) table) (cond (is_some o) old (witness system S))
    close_by o is = ap (λ p. closed p (cond (fills p) (filled_table m S table) table) (cond (is_some p) old (witness system S))) is

    -- a reason before the measure
    pub refuses : (why : CloseRefusal) → ((later : Option CloseRefusal) → reasons S (length table) later ≡ Some why) → fills (Some why) ≡ false → closed (Some why) table old ≡ close m system S table old
    refuses why is untouched =
        sym (close_by (Some why) (is (option_map Fails (first (fails m system S) variables))) ∙ ap (λ t. closed (Some why) t old) (cond-false (fills (Some why)) (filled_table m S table) table untouched))

    module _ (past : (later : Option CloseRefusal) → reasons S (length table) later ≡ later) (new : List V) (filled : new ≡ filled_table m S table) where
      -- the first variable that fails
      pub fails_first : (x : ℕ) → first (fails m system S) variables ≡ Some x → closed (Some (Fails x)) new old ≡ close m system S table old
      fails_first x is = ap (λ t. closed (Some (Fails x)) t old) filled ∙ sym (close_by (Some (Fails x)) (past (option_map Fails (first (fails m system S) variables)) ∙ ap (option_map Fails) is))

      -- none fails
      pub accepts : (written : Contents) → first (fails m system S) variables ≡ None → written ≡ witness system S → closed None new written ≡ close m system S table old
      accepts written none is = ap₂ (closed None) filled is ∙ sym (close_by None (past (option_map Fails (first (fails m system S) variables)) ∙ ap (option_map Fails) none))

-- the guarantee of a close that answers so
pub guaranteed : {V : Type 0} (m : Meaning V) → Associative m.join → Neutral m.empty m.join → (c : Check) (table : List V) (old : Contents) (r : Closed V) → r ≡ close m (system_of c) (standing c) table old →
    (loads : List Load) (choices : List Choice) → CameBy loads choices c → Promised m loads choices (standing c) table r
guaranteed {V} m assoc neutral c table old r is loads choices run =
    subst (Promised m loads choices (standing c) table) (ap (λ system. close m system (standing c) table old) (sym (same_system loads c.system run.variables_of_system)) ∙ sym is)
    (guarantee V m assoc neutral loads choices (standing c) run.reaches table old)
