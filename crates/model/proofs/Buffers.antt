-- One write after another into a lent buffer. Assumes nothing.
use Rattle.std.proofs.Common.{◌≡◌, ℕ, ◌+◌, ◌<◌, ◌≤◌, List, [], ◌∷◌, ◌++◌, length, take, drop, set, sym, refl, ap, ◌∙◌, append_assoc, append-nil, arith, length-append}
use Rattle.std.proofs.lemmas.List.{take_more_set, take_all, drop-set-lt, drop-drop}
use Rattle.model.specs.Buffers.{Put}

pub put_none : {X : Type 0} (old : List X) (at : ℕ) → Put old at [] old at
put_none old at = record { behind = omega arith; front = sym (append-nil _); rest = refl }

pub put_one : {X : Type 0} (old : List X) (at : ℕ) (x : X) → at < length old → Put old at (x ∷ []) (set old at x) (at + 1)
put_one old at x lt = record { behind = refl; front = take_more_set old at x lt; rest = drop-set-lt (at + 1) old at x (omega arith) }

pub put_then : {X : Type 0} {old mid new xs ys : List X} {at e f : ℕ} → Put old at xs mid e → Put mid e ys new f → Put old at (xs ++ ys) new f
put_then {X} {old} {mid} {new} {xs} {ys} {at} {e} {f} p q = record {
  behind = omega (arith, p.behind, q.behind, length-append xs ys);
  front = q.front ∙ ap (λ l. l ++ ys) p.front ∙ append_assoc (take at old) xs ys;
  rest = q.rest ∙ ap (λ n. drop n mid) q.behind ∙ sym (drop-drop (length ys) e mid) ∙ ap (drop (length ys)) p.rest ∙ drop-drop (length ys) e old ∙ ap (λ n. drop n old) (sym q.behind);
}

-- what is written from the start to the end is all that is there
pub put_whole : {X : Type 0} {old xs new : List X} {e : ℕ} → Put old 0 xs new e → length new ≤ length xs → new ≡ xs
put_whole {X} {old} {xs} {new} {e} p full = sym (take_all e new (omega (arith, p.behind))) ∙ p.front
