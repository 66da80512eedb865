-- The value table behind a close. Assumes nothing.
use Rattle.std.proofs.Common.{◌≡◌, ℕ, zero, suc, ◌+◌, ◌<◌, ◌≤◌, Bool, true, false, cond, ltb, List, ◌++◌, map, length, get_or, drop, Some, Option, refl, ap, ◌∙◌, arith, length-drop}
use Rattle.std.proofs.lemmas.Bool.{cond_both, cond-true, cond-false, false≢true, ltb-false}
use Rattle.model.specs.Spelling.{spell}
use Rattle.model.specs.Witnesses.{Contents}
use Rattle.systems.specs.Standings.{popped_word, Standing, fresh}
use Rattle.systems.specs.Values.{Associative, Neutral}
use Rattle.systems.proofs.Values.{values_follow_spelling}
use Rattle.writing.specs.Writer.{from}
use Rattle.guarantee.specs.declared.CloseRefusal.{CloseRefusal}
use Rattle.guarantee.specs.declared.CloseRefusal.TheVariants.{SmallTable}
use Rattle.guarantee.specs.Closing.{Meaning, value_of, close_refusal, filled_table, fills, close}
use Rattle.guarantee.specs.Guarantee.{TableFilled}

module _ {V : Type 0} (f : ℕ → V) where
  filled_at : (n k : ℕ) (more : List V) (c : ℕ) (v : V) → c < n → get_or (map f (from k n) ++ more) c v ≡ f (k + c)
  filled_at zero k more c v lt = absurd (omega arith)
  filled_at (suc n) k more zero v lt = ap f (omega arith)
  filled_at (suc n) k more (suc c) v lt = filled_at n (suc k) more c v (omega arith) ∙ ap f (omega arith)

  filled_behind : (n k : ℕ) (more : List V) → drop n (map f (from k n) ++ more) ≡ more
  filled_behind zero k more = refl
  filled_behind (suc n) k more = filled_behind n (suc k) more

  filled_length : (n k : ℕ) (more : List V) → length (map f (from k n) ++ more) ≡ n + length more
  filled_length zero k more = omega arith
  filled_length (suc n) k more = omega (arith, filled_length n (suc k) more)

-- where the table is filled, it has room
fills_room : (small : Bool) (later : Option CloseRefusal) → fills (cond small (Some SmallTable) later) ≡ true → small ≡ false
fills_room true later e = absurd (false≢true e)
fills_room false later e = refl

module _ {V : Type 0} (m : Meaning V) (system : ℕ → Bool) (S : Standing) (table : List V) (old : Contents) where
  abbrev refusal : Option CloseRefusal
  refusal = close_refusal m system S (length table)

  value_at : ℕ → V
  value_at c = value_of m (spell S.rules c)

  pub table_filled : Associative m.join → Neutral m.empty m.join → TableFilled m S table (close m system S table old)
  unfolding value_at
  table_filled assoc neutral = record {
    as_long =
        cond_both (fills refusal) (filled_table m S table) table (λ t. length t ≡ length table)
        (λ e. let room : fresh S ≤ length table = ltb-false (length table) (fresh S) (fills_room (ltb (length table) (fresh S)) _ e) in
        omega (arith, filled_length value_at (fresh S) 0 (drop (fresh S) table), length-drop (fresh S) table))
        (λ _. refl);
    known_letters = λ e c v low.
        ap (λ t. get_or t c v) (cond-true (fills refusal) (filled_table m S table) table e) ∙ filled_at value_at (fresh S) 0 (drop (fresh S) table) c v low ∙ ap value_at (omega arith);
    further_untouched =
        cond_both (fills refusal) (filled_table m S table) table (λ t. drop (fresh S) t ≡ drop (fresh S) table)
        (λ _. filled_behind value_at (fresh S) 0 (drop (fresh S) table)) (λ _. refl);
    else_untouched = λ e. cond-false (fills refusal) (filled_table m S table) table e;
    joins_to_words = λ x. (values_follow_spelling V m.letter m.empty m.join assoc neutral).of_word S.rules (popped_word S x);
  }
