-- What it means that a choice is not refused, and by what a choice that fits may be refused. Assumes nothing.
use Rattle.std.proofs.Common.{◌≡◌, ℕ, ◌^◌, ◌<◌, ◌≤◌, Bool, true, false, cond, not, eqb, ltb, leb, List, [], ◌∷◌, ◌++◌, length, is_some, Some, None, Option, refl, ap, subst, arith, lit≤}
use Rattle.std.specs.Option.{option_map}
use Rattle.std.proofs.lemmas.Bool.{true≢false, both_ways, not-false, ltb-true, ltb-false, leb-false, lt-ltb, le-leb, ne_eqb, and_from, not_from_true, not_from_false, cond_both}
use Rattle.model.specs.declared.Rule.{Rule}
use Rattle.model.specs.declared.Rule.TheVariants.{Pair as PairRule, Block as BlockRule}
use Rattle.model.specs.Spelling.{Word, known}
use Rattle.model.specs.Witnesses.{lower, apart, counted, made_length, rule_refusal}
use Rattle.model.proofs.Fitting.{FitsAfter, taken_fits}
use Rattle.systems.specs.declared.Choice.{Choice}
use Rattle.systems.specs.declared.Choice.TheVariants.{Left, Right, Erase, Pair, Block}
use Rattle.systems.specs.declared.ChoiceRefusal.{ChoiceRefusal}
use Rattle.systems.specs.declared.ChoiceRefusal.TheVariants.{NotLive, UnknownLetter, TooManyPops, TooManyPlaces}
use Rattle.systems.specs.Choices.{taken}
use Rattle.systems.specs.Fitting.{Fits}
use Rattle.systems.specs.Refusals.{of_rule, pop_refusal, choice_refusal, after_choice}
use Rattle.systems.specs.Sides.{places, Words, Below}
use Rattle.systems.specs.Standings.{Standing, fresh, live}
use Rattle.systems.specs.Theorems.{ByLimit}
use Rattle.model.specs.declared.RuleRefusal.TheVariants as rule

none_some : {A : Type 0} (x : A) → ◌≡◌ {A = Option A} (Some x) None → ⊥
none_some x e = let z : ◌≡◌ {A = ℕ} 0 1 = cc in omega arith

-- a call that is refused changes nothing
pub unless_refused : {A E : Type 0} (P : A → Type 0) (refusal : Option E) (before behind : A) → P before → (refusal ≡ None → P behind) → P (cond (is_some refusal) before behind)
unless_refused P None before behind h k = k refl
unless_refused P (Some e) before behind h k = h

pub after_taken : (S : Standing) (choice : Choice) → choice_refusal S choice ≡ None → after_choice S choice ≡ taken S choice
after_taken S choice free = ap (λ o. cond (is_some o) S (taken S choice)) free

pub after_refused : (S : Standing) (choice : Choice) (why : ChoiceRefusal) → choice_refusal S choice ≡ Some why → after_choice S choice ≡ S
after_refused S choice why because = ap (λ o. cond (is_some o) S (taken S choice)) because

-- no refusal: the first reason does not hold, and there is no later one
pub not_refused : {E : Type 0} (t : Bool) (e : E) (rest : Option E) → cond t (Some e) rest ≡ None → (t ≡ false) × (rest ≡ None)
not_refused true e rest h = absurd (none_some e h)
not_refused false e rest h = (refl, h)

mapped_none : {A B : Type 0} (f : A → B) (o : Option A) → option_map f o ≡ None → o ≡ None
mapped_none f None h = refl
mapped_none f (Some x) h = absurd (none_some (f x) h)

-- the letter a may be popped from x
pub record MayPop (S : Standing) (x a places_then : ℕ) : Type 0 where
  pub alive : live S x ≡ true
  pub low : a < fresh S
  pub room : length S.pops < 1024
  pub small : places_then ≤ 2048

may_pop : (S : Standing) (x a places_then : ℕ) → pop_refusal S x a places_then ≡ None → MayPop S x a places_then
may_pop S x a places_then h =
    let p = not_refused (not (live S x)) _ _ h in
    let q = not_refused (not (ltb a (fresh S))) _ _ p.1 in
    let r = not_refused _ _ _ q.1 in
    let s = not_refused _ _ _ r.1 in
    record { alive = not-false (live S x) p.0; low = ltb-true a (fresh S) (not-false (ltb a (fresh S)) q.0); room = leb-false _ _ r.0; small = ltb-false _ _ s.0 }

-- what no refusal means
abbrev pub Allowed : Standing → Choice → Type 0
Allowed S (Left x a) = MayPop S x a (places (taken S (Left x a)).equations)
Allowed S (Right x a) = MayPop S x a (places (taken S (Right x a)).equations)
Allowed S (Erase x) = live S x ≡ true
Allowed S (Pair a b) = FitsAfter S.rules (PairRule a b)
Allowed S (Block a n) = FitsAfter S.rules (BlockRule a n)

pub allowed : (S : Standing) (choice : Choice) → choice_refusal S choice ≡ None → Allowed S choice
allowed S (Left x a) h = may_pop S x a (places (taken S (Left x a)).equations) h
allowed S (Right x a) h = may_pop S x a (places (taken S (Right x a)).equations) h
allowed S (Erase x) h = not-false (live S x) (not_refused (not (live S x)) _ _ h).0
allowed S (Pair a b) h = taken_fits S.rules (PairRule a b) (mapped_none of_rule (rule_refusal S.rules (PairRule a b)) h)
allowed S (Block a n) h = taken_fits S.rules (BlockRule a n) (mapped_none of_rule (rule_refusal S.rules (BlockRule a n)) h)

-- where the reasons 11 to 14 do not hold, only 21 to 24 are left

pop_limits : (x : ℕ) (dead unknown many large : Bool) → dead ≡ false → unknown ≡ false → ByLimit (cond dead (Some (NotLive x)) (cond unknown (Some UnknownLetter) (cond many (Some TooManyPops) (cond large (Some TooManyPlaces) None))))
pop_limits x true unknown many large e f = absurd (true≢false e)
pop_limits x false true many large e f = absurd (true≢false f)
pop_limits x false false true large e f = (lit≤ tt, lit≤ tt)
pop_limits x false false false true e f = (lit≤ tt, lit≤ tt)
pop_limits x false false false false e f = tt

rule_limits : (unknown equal ranged many long : Bool) → unknown ≡ false → equal ≡ false → ranged ≡ false → ByLimit (option_map of_rule (cond unknown (Some rule.UnknownLetter) (cond equal (Some rule.EqualLetters) (cond ranged (Some rule.CountOutOfRange) (cond many (Some rule.TooManyRules) (cond long (Some rule.TooLong) None))))))
rule_limits true equal ranged many long e f g = absurd (true≢false e)
rule_limits false true ranged many long e f g = absurd (true≢false f)
rule_limits false false true many long e f g = absurd (true≢false g)
rule_limits false false false true long e f g = (lit≤ tt, lit≤ tt)
rule_limits false false false false true e f g = (lit≤ tt, lit≤ tt)
rule_limits false false false false false e f g = tt

pop_by_limit : (S : Standing) (x a places_then : ℕ) → live S x ≡ true → a < fresh S → ByLimit (pop_refusal S x a places_then)
pop_by_limit S x a places_then alive low =
    pop_limits x (not (live S x)) (not (ltb a (fresh S))) (leb 1024 (length S.pops)) (ltb 2048 places_then)
    (not_from_true (live S x) alive) (not_from_true (ltb a (fresh S)) (lt-ltb a (fresh S) low))

rule_by_limit : (older : List Rule) (made : Rule) → lower (known older) made ≡ true → apart made ≡ true → counted made ≡ true → ByLimit (option_map of_rule (rule_refusal older made))
rule_by_limit older made low two ranged =
    rule_limits (not (lower (known older) made)) (not (apart made)) (not (counted made)) (leb 512 (length older)) (ltb (10 ^ 12) (made_length older made))
    (not_from_true (lower (known older) made) low) (not_from_true (apart made) two) (not_from_true (counted made) ranged)

last_below : (k : ℕ) (u : Word) (a : ℕ) → Below k (u ++ (a ∷ [])) → a < k
last_below k [] a h = h.0
last_below k (x ∷ u) a h = last_below k u a h.1

-- a choice that fits words over known letters is refused by none but 21 to 24
pub fits_by_limit : (S : Standing) (τ : Words) (choice : Choice) (τ' : Words) → ((x : ℕ) → Below (fresh S) (τ x)) → Fits S τ choice τ' → ByLimit (choice_refusal S choice)
fits_by_limit S τ (Left x a) τ' below fits = pop_by_limit S x a (places (taken S (Left x a)).equations) fits.0 (subst (Below (fresh S)) fits.1 (below x)).0
fits_by_limit S τ (Right x a) τ' below fits = pop_by_limit S x a (places (taken S (Right x a)).equations) fits.0 (last_below (fresh S) (τ' x) a (subst (Below (fresh S)) fits.1 (below x)))
fits_by_limit S τ (Erase x) τ' below fits = cond_both (not (live S x)) (Some (NotLive x)) None ByLimit (λ e. absurd (both_ways (not (live S x)) (not_from_true (live S x) fits.0) e)) (λ _. tt)
fits_by_limit S τ (Pair a b) τ' below fits =
    rule_by_limit S.rules (PairRule a b)
    (and_from (ltb a (fresh S)) (ltb b (fresh S)) (lt-ltb a (fresh S) fits.0) (lt-ltb b (fresh S) fits.1)) (not_from_false (eqb a b) (ne_eqb a b fits.2)) refl
fits_by_limit S τ (Block a n) τ' below fits =
    rule_by_limit S.rules (BlockRule a n)
    (lt-ltb a (fresh S) fits.0) refl (and_from (leb 2 n) (leb n 1000000) (le-leb 2 n fits.1) (le-leb n 1000000 fits.2))
