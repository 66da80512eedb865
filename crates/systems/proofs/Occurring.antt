-- `Crosses` and `CrossingOccurrence` say the same. Assumes nothing.
use Rattle.std.proofs.Common.{◌≡◌, ℕ, suc, ◌+◌, ◌<◌, ◌≤◌, ◌≢◌, ◌⊎◌, List, [], ◌∷◌, ◌++◌, map, length, sym, refl, ap, ◌∙◌, subst, ap₂, inl, inr, append_assoc, append-nil, arith, length-append}
use Rattle.std.proofs.lemmas.List.{map-append}
use Rattle.model.specs.Spelling.{Word}
use Rattle.systems.specs.declared.Place.{Place}
use Rattle.systems.specs.declared.Place.TheVariants.{Letter, Variable}
use Rattle.systems.specs.Fitting.{EndsWith, BeginsWith, Crosses}
use Rattle.systems.specs.Occurrences.{Traced, traced, IsLetter, CrossingOccurrence}
use Rattle.systems.specs.Sides.{Side, Words, filled, fill}
use Rattle.systems.specs.Theorems.{CrossingIsAnOccurrence}
use Rattle.systems.proofs.Crossing.{shorter}
use Rattle.systems.proofs.Replacing.{later}

-- lists

no_end : {A : Type 0} (u : List A) (a : A) (v : List A) → [] ≡ u ++ (a ∷ v) → ⊥
no_end u a v e = let long = ap length e in omega (arith, length-append u (a ∷ v))

same_last : {A : Type 0} (u v : List A) (a b : A) → u ++ (a ∷ []) ≡ v ++ (b ∷ []) → a ≡ b
same_last [] [] a b e = cc
same_last [] (y ∷ v) a b e = let short : [] ≡ v ++ (b ∷ []) = cc in absurd (no_end v b [] short)
same_last (x ∷ u) [] a b e = let short : [] ≡ u ++ (a ∷ []) = cc in absurd (no_end u a [] short)
same_last (x ∷ u) (y ∷ v) a b e = let more : u ++ (a ∷ []) ≡ v ++ (b ∷ []) = cc in same_last u v a b more

-- where a pair of neighbours stands in the letters of one place and what follows
data Where (τ : Words) (k : ℕ) (place : Place) (w : Word) (rest : List Traced) (s t : Traced) (behind : List Traced) : Type 0 where
  both : s.1 ≡ k → t.1 ≡ k → Where τ k place w rest s t behind
  over : (w₀ : Word) → w ≡ w₀ ++ (s.0 ∷ []) → s.1 ≡ k → s.2 ≡ place → rest ≡ t ∷ behind → Where τ k place w rest s t behind
  past : (before : List Traced) → rest ≡ before ++ (s ∷ t ∷ behind) → Where τ k place w rest s t behind

module _ (τ : Words) (k : ℕ) (place : Place) (rest : List Traced) (s t : Traced) (behind : List Traced) where
  abbrev tag : ℕ → Traced
  tag l = (l, k, place)

  further : (x : ℕ) (w : Word) → Where τ k place w rest s t behind → Where τ k place (x ∷ w) rest s t behind
  further x w (both e f) = both e f
  further x w (over w₀ is e f r) = over (x ∷ w₀) (ap (λ u. x ∷ u) is) e f r
  further x w (past before e) = past before e

  whereabouts : (w : Word) (before : List Traced) → map tag w ++ rest ≡ before ++ (s ∷ t ∷ behind) → Where τ k place w rest s t behind
  whereabouts [] before e = past before e
  whereabouts (x ∷ []) [] e =
      let first : tag x ≡ s = cc in
      let more : rest ≡ t ∷ behind = cc in
      over [] (ap (λ (z : Traced). z.0 ∷ []) first) (sym (ap (λ (z : Traced). z.1) first)) (sym (ap (λ (z : Traced). z.2) first)) more
  whereabouts (x ∷ (y ∷ w)) [] e =
      let first : tag x ≡ s = cc in
      let second : tag y ≡ t = cc in
      both (sym (ap (λ (z : Traced). z.1) first)) (sym (ap (λ (z : Traced). z.1) second))
  whereabouts (x ∷ w) (z ∷ before) e =
      let more : map tag w ++ rest ≡ before ++ (s ∷ t ∷ behind) = cc in
      further x w (whereabouts w before more)

letters_traced : (τ : Words) (k : ℕ) (side : Side) → map (λ (z : Traced). z.0) (traced τ k side) ≡ fill τ side
letters_traced τ k [] = refl
letters_traced τ k (place ∷ rest) =
    map-append (λ (z : Traced). z.0) (map (λ l. (l, k, place)) (filled τ place)) (traced τ (suc k) rest) ∙ ap₂ (λ u v. u ++ v) (back (filled τ place)) (letters_traced τ (suc k) rest)
  where
    back : (w : Word) → map (λ (z : Traced). z.0) (map (λ l. (l, k, place)) w) ≡ w
    back [] = refl
    back (l ∷ w) = ap (λ r. l ∷ r) (back w)

-- from an occurrence to a cut

module _ (a b : ℕ) (τ : Words) (behind : List Traced) (i j : ℕ) (p q : Place) (not_neighbours : j ≡ suc i → IsLetter p → IsLetter q → ⊥) where
  behind_place : (k : ℕ) (place : Place) (rest : Side) (w₀ : Word) → filled τ place ≡ w₀ ++ (a ∷ []) → i ≡ k → p ≡ place → traced τ (suc k) rest ≡ (b, j, q) ∷ behind → ((x : ℕ) × EndsWith (Variable x) (place ∷ [])) ⊎ ((x : ℕ) × BeginsWith (Variable x) rest) → Crosses a b τ (place ∷ rest)
  behind_place k place rest w₀ is at_k at_place r beside = record {
    before = place ∷ [];
    behind = rest;
    cut = refl;
    beside = beside;
    ends = (w₀, append-nil (filled τ place) ∙ is);
    begins = (map (λ (z : Traced). z.0) behind, sym (letters_traced τ (suc k) rest) ∙ ap (map (λ (z : Traced). z.0)) r);
  }

  straddles : (k : ℕ) (place : Place) (rest : Side) (w₀ : Word) → filled τ place ≡ w₀ ++ (a ∷ []) → i ≡ k → p ≡ place → traced τ (suc k) rest ≡ (b, j, q) ∷ behind → Crosses a b τ (place ∷ rest)
  straddles k (Variable x) rest w₀ is at_k at_place r = behind_place k (Variable x) rest w₀ is at_k at_place r (inl (x, ([], refl)))
  straddles k (Letter l) [] w₀ is at_k at_place r = absurd (no_end [] (b, j, q) behind r)
  straddles k (Letter l) (Variable y ∷ more) w₀ is at_k at_place r = behind_place k (Letter l) (Variable y ∷ more) w₀ is at_k at_place r (inr (y, (more, refl)))
  straddles k (Letter l) (Letter m ∷ more) w₀ is at_k at_place r =
      let here : Traced = (m, suc k, Letter m) in
      let there : Traced = (b, j, q) in
      let first : here ≡ there = cc in
      absurd (not_neighbours (sym (ap (λ (z : Traced). z.1) first) ∙ ap suc (sym at_k)) (subst IsLetter (sym at_place) tt) (subst IsLetter (ap (λ (z : Traced). z.2) first) tt))

  find : i ≢ j → (side : Side) (k : ℕ) (before : List Traced) → traced τ k side ≡ before ++ ((a, i, p) ∷ (b, j, q) ∷ behind) → Crosses a b τ side
  find apart [] k before e = absurd (no_end before (a, i, p) ((b, j, q) ∷ behind) e)
  find apart (place ∷ rest) k before e = at (λ before' e'. find apart rest (suc k) before' e') (whereabouts τ k place (traced τ (suc k) rest) (a, i, p) (b, j, q) behind (filled τ place) before e)
    where
      at : ((before' : List Traced) → traced τ (suc k) rest ≡ before' ++ ((a, i, p) ∷ (b, j, q) ∷ behind) → Crosses a b τ rest) → Where τ k place (filled τ place) (traced τ (suc k) rest) (a, i, p) (b, j, q) behind → Crosses a b τ (place ∷ rest)
      at again (both f g) = absurd (apart (f ∙ sym g))
      at again (over w₀ is at_k at_place r) = straddles k place rest w₀ is at_k at_place r
      at again (past before' e') = shorter a b τ place rest (again before' e')

-- from a cut to an occurrence

traced-++ : (τ : Words) (k : ℕ) (p q : Side) → traced τ k (p ++ q) ≡ traced τ k p ++ traced τ (k + length p) q
traced-++ τ k [] q = ap (λ m. traced τ m q) (omega arith)
traced-++ τ k (place ∷ p) q =
    ap (λ r. map (λ l. (l, k, place)) (filled τ place) ++ r) (traced-++ τ (suc k) p q ∙ ap (λ m. traced τ (suc k) p ++ traced τ m q) (omega arith)) ∙
    sym (append_assoc (map (λ l. (l, k, place)) (filled τ place)) (traced τ (suc k) p) (traced τ (k + suc (length p)) q))

last_view : (w : Word) → (w ≡ []) ⊎ ((u : Word) × (c : ℕ) × (w ≡ u ++ (c ∷ [])))
last_view [] = inl refl
last_view (x ∷ w) = step (last_view w)
  where
    step : (w ≡ []) ⊎ ((u : Word) × (c : ℕ) × (w ≡ u ++ (c ∷ []))) → (x ∷ w ≡ []) ⊎ ((u : Word) × (c : ℕ) × (x ∷ w ≡ u ++ (c ∷ [])))
    step (inl e) = inr ([], x, ap (λ r. x ∷ r) e)
    step (inr v) = inr (x ∷ v.0, v.1, ap (λ r. x ∷ r) v.2)

no_letters : (xs : List Traced) → map (λ (z : Traced). z.0) xs ≡ [] → xs ≡ []
no_letters [] e = refl
no_letters (x ∷ xs) e = absurd (no_end [] x.0 (map (λ (z : Traced). z.0) xs) (sym e))

no_places : (s : Side) → length s ≡ 0 → s ≡ []
no_places [] e = refl
no_places (x ∷ s) e = absurd (omega arith)

record Last (a : ℕ) (τ : Words) (k : ℕ) (side : Side) : Type 0 where
  front : List Traced
  i : ℕ
  place : Place
  is : traced τ k side ≡ front ++ ((a, i, place) ∷ [])
  within : i < k + length side
  ends : suc i ≡ k + length side → EndsWith place side

last_traced : (a : ℕ) (τ : Words) (side : Side) (k : ℕ) (u : Word) → fill τ side ≡ u ++ (a ∷ []) → Last a τ k side
last_traced a τ [] k u e = absurd (no_end u a [] e)
last_traced a τ (place ∷ rest) k u e = at (λ v f. last_traced a τ rest (suc k) v f) (last_view (fill τ rest))
  where
    at : ((v : Word) → fill τ rest ≡ v ++ (a ∷ []) → Last a τ (suc k) rest) → (fill τ rest ≡ []) ⊎ ((v : Word) × (c : ℕ) × (fill τ rest ≡ v ++ (c ∷ []))) → Last a τ k (place ∷ rest)
    at again (inl none) =
        let alone : filled τ place ≡ u ++ (a ∷ []) = sym (ap (λ r. filled τ place ++ r) none ∙ append-nil (filled τ place)) ∙ e in
        let nothing : traced τ (suc k) rest ≡ [] = no_letters (traced τ (suc k) rest) (letters_traced τ (suc k) rest ∙ none) in
        record {
          front = map (λ l. (l, k, place)) u;
          i = k;
          place = place;
          is = ap₂ (λ v w. map (λ l. (l, k, place)) v ++ w) alone nothing ∙ append-nil (map (λ l. (l, k, place)) (u ++ (a ∷ []))) ∙ map-append (λ l. (l, k, place)) u (a ∷ []);
          within = omega arith;
          ends = λ f. ([], ap (λ r. place ∷ r) (no_places rest (omega arith)));
        }
    at again (inr v) =
        let same : v.1 ≡ a = same_last (filled τ place ++ v.0) u v.1 a (append_assoc (filled τ place) v.0 (v.1 ∷ []) ∙ sym (ap (λ r. filled τ place ++ r) v.2) ∙ e) in
        let moved : fill τ rest ≡ v.0 ++ (a ∷ []) = subst (λ c. fill τ rest ≡ v.0 ++ (c ∷ [])) same v.2 in
        let more : Last a τ (suc k) rest = again v.0 moved in
        record {
          front = map (λ l. (l, k, place)) (filled τ place) ++ more.front;
          i = more.i;
          place = more.place;
          is = ap (λ r. map (λ l. (l, k, place)) (filled τ place) ++ r) more.is ∙ sym (append_assoc (map (λ l. (l, k, place)) (filled τ place)) more.front ((a, more.i, more.place) ∷ []));
          within = omega (arith, more.within);
          ends = λ f. later more.place place rest (more.ends (omega arith));
        }

record First (b : ℕ) (τ : Words) (k : ℕ) (side : Side) : Type 0 where
  back : List Traced
  j : ℕ
  place : Place
  is : traced τ k side ≡ (b, j, place) ∷ back
  within : k ≤ j
  begins : j ≡ k → BeginsWith place side

first_traced : (b : ℕ) (τ : Words) (side : Side) (k : ℕ) (v : Word) → fill τ side ≡ b ∷ v → First b τ k side
first_traced b τ [] k v e = absurd (no_end [] b v e)
first_traced b τ (place ∷ rest) k v e = at (λ f. first_traced b τ rest (suc k) v f) (filled τ place) refl
  where
    at : (fill τ rest ≡ b ∷ v → First b τ (suc k) rest) → (w : Word) → filled τ place ≡ w → First b τ k (place ∷ rest)
    at again [] is =
        let more : First b τ (suc k) rest = again (sym (ap (λ r. r ++ fill τ rest) is) ∙ e) in
        record {
          back = more.back;
          j = more.j;
          place = more.place;
          is = ap (λ w. map (λ l. (l, k, place)) w ++ traced τ (suc k) rest) is ∙ more.is;
          within = omega (arith, more.within);
          begins = λ f. absurd (omega (arith, more.within));
        }
    at again (x ∷ w) is =
        let whole : x ∷ (w ++ fill τ rest) ≡ b ∷ v = sym (ap (λ r. r ++ fill τ rest) is) ∙ e in
        let same : x ≡ b = cc in
        record {
          back = map (λ l. (l, k, place)) w ++ traced τ (suc k) rest;
          j = k;
          place = place;
          is = ap (λ u. map (λ l. (l, k, place)) u ++ traced τ (suc k) rest) is ∙ ap (λ c. (c, k, place) ∷ (map (λ l. (l, k, place)) w ++ traced τ (suc k) rest)) same;
          within = omega arith;
          begins = λ f. (rest, refl);
        }

occurring : (a b : ℕ) (τ : Words) (side : Side) → Crosses a b τ side → CrossingOccurrence a b τ side
occurring a b τ side k =
    let l : Last a τ 0 k.before = last_traced a τ k.before 0 k.ends.0 k.ends.1 in
    let f : First b τ (0 + length k.before) k.behind = first_traced b τ k.behind (0 + length k.before) k.begins.0 k.begins.1 in
    record {
      before = l.front;
      behind = f.back;
      i = l.i;
      j = f.j;
      p = l.place;
      q = f.place;
      occurs = ap (traced τ 0) k.cut ∙ traced-++ τ 0 k.before k.behind ∙ ap₂ (λ u v. u ++ v) l.is f.is ∙ append_assoc l.front ((a, l.i, l.place) ∷ []) ((b, f.j, f.place) ∷ f.back);
      apart = λ e. omega (arith, l.within, f.within);
      not_neighbours = λ e p_letter q_letter. neither l f e p_letter q_letter k.beside;
    }
  where
    no_letter : (x : ℕ) (place : Place) → place ≡ Variable x → IsLetter place → ⊥
    no_letter x place e h = subst IsLetter e h

    neither : (l : Last a τ 0 k.before) (f : First b τ (0 + length k.before) k.behind) → f.j ≡ suc l.i → IsLetter l.place → IsLetter f.place → ((x : ℕ) × EndsWith (Variable x) k.before) ⊎ ((x : ℕ) × BeginsWith (Variable x) k.behind) → ⊥
    neither l f e p_letter q_letter (inl v) =
        let end : EndsWith l.place k.before = l.ends (omega (arith, l.within, f.within)) in
        no_letter v.0 l.place (same_last end.0 v.1.0 l.place (Variable v.0) (sym end.1 ∙ v.1.1)) p_letter
    neither l f e p_letter q_letter (inr v) =
        let begin : BeginsWith f.place k.behind = f.begins (omega (arith, l.within, f.within)) in
        let both_ways : f.place ∷ begin.0 ≡ Variable v.0 ∷ v.1.0 = sym begin.1 ∙ v.1.1 in
        let same : f.place ≡ Variable v.0 = cc in
        no_letter v.0 f.place same q_letter

pub crossing_is_an_occurrence : CrossingIsAnOccurrence
crossing_is_an_occurrence a b τ side = (occurring a b τ side, λ o. find a b τ o.behind o.i o.j o.p o.q o.not_neighbours o.apart side 0 o.before o.occurs)
