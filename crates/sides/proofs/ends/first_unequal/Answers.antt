use Rattle.std.proofs.Common.{◌≡◌, ◌+◌, ◌-◌, ◌<◌, List, [], ◌∷◌, ◌++◌, map, length, take, drop, sym, ap, ◌∙◌, subst, not, Decides, arith, rules}
use Rattle.std.proofs.ByRecursion.{All-more}
use Rattle.std.proofs.lemmas.Bool.{both_ways}
use Rattle.std.proofs.lemmas.Slice.Eq.{slice_eq-Decides}
use Rattle.std.specs.List.{AllByRecursion}
use Rattle.systems.specs.Sides.{Equation, SameSides}
use Rattle.sides.specs.declared.mark.Mark.{Mark}
use Rattle.sides.specs.declared.mark.Mark.TheVariants.{End, At}
use Rattle.sides.specs.Marks.{marks_of, equations_in}
use Rattle.sides.proofs.Ending.{at_equation, open_one, front, behind, ends, same_map}
use Rattle.sides.proofs.ends.first_unequal.Goals as goal
use Rattle.sides.proofs.ends.first_unequal.Goals.{In-loop-k, After-ne}

abbrev here : (c : In-loop-k) → Equation
here c = at_equation (equations_in c.args.marks.now) c.loop-k.k

-- the marks after the first side of the equation
abbrev half : (c : In-loop-k) → List Mark
half c = map At (here c).1 ++ (End ∷ marks_of (drop (c.loop-k.k + 1) (equations_in c.args.marks.now)))

inside : (c : In-loop-k) → c.loop-k.k < length (equations_in c.args.marks.now)
inside c = omega (arith, c.requires.counted, c.loop-k-test.true)

opened : (c : In-loop-k) → c.loop-k.rest.now ≡ map At (here c).0 ++ (End ∷ half c)
opened c = open_one (equations_in c.args.marks.now) c.loop-k.k c.loop-k.rest.now (inside c) c.loop-k.invariant.0

pub split-requires : goal.split-requires
split-requires c = ends c.loop-k.rest.now (here c).0 (half c) (opened c)

pub split-requires-in-loop-k : goal.split-requires-in-loop-k
split-requires-in-loop-k c =
    let p = (goal.at.split-requires-in-loop-k c).In-loop-k in
    ends c.split.result.1.now (here p).1 (marks_of (drop (c.loop-k.k + 1) (equations_in c.args.marks.now))) (c.split.ensures.rest ∙ behind c.loop-k.rest.now (here p).0 (half p) (opened p))

-- what the two splits gave
parts : (c : After-ne) → let p = (goal.at.After-ne c).In-loop-k in (c.split.result.0.now ≡ map At (here p).0) × (c.split-in-loop-k.result.0.now ≡ map At (here p).1) × (c.split-in-loop-k.result.1.now ≡ marks_of (drop (c.loop-k.k + 1) (equations_in c.args.marks.now)))
parts c =
    let p = (goal.at.After-ne c).In-loop-k in
    let rest = c.loop-k.rest.now in
    let last = marks_of (drop (c.loop-k.k + 1) (equations_in c.args.marks.now)) in
    let second = c.split.ensures.rest ∙ behind rest (here p).0 (half p) (opened p) in (
      c.split.ensures.first ∙ front rest (here p).0 (half p) (opened p),
      c.split-in-loop-k.ensures.first ∙ front c.split.result.1.now (here p).1 last second,
      c.split-in-loop-k.ensures.rest ∙ behind c.split.result.1.now (here p).1 last second,
    )

-- the two sides are compared by their marks
same : (c : After-ne) → Decides (not c.ne.result) (c.split.result.0.now ≡ c.split-in-loop-k.result.0.now)
same c = search (rules, slice_eq-Decides)

pub returns-then-ne : goal.returns-then-ne
returns-then-ne c =
    let q = (goal.at.returns-then-ne c).After-ne in
    let p = (goal.at.After-ne q).In-loop-k in
    let e = parts q in
    let E = equations_in c.args.marks.now in
    let k : c.loop-k.k ≡ (c.loop-k.k + 1) - 1 = omega arith in (
      omega arith,
      omega (arith, inside p),
      subst (λ i. AllByRecursion SameSides (take i E)) k c.loop-k.invariant.1,
      subst (λ i. SameSides (at_equation E i) → ⊥) k (λ equal. both_ways (not c.ne.result) (ap not c.if-ne.true) ((same q).1 (e.0 ∙ ap (map At) equal ∙ sym e.1))),
    )

pub loop-k-preserved : goal.loop-k-preserved
loop-k-preserved c =
    let q = (goal.at.loop-k-preserved c).After-ne in
    let p = (goal.at.After-ne q).In-loop-k in
    let e = parts q in (
      e.2,
      All-more SameSides (equations_in c.args.marks.now) c.loop-k.k ([], []) (inside p) c.loop-k.invariant.1 (same_map (here p).0 (here p).1 (sym e.0 ∙ (same q).0 (ap not c.if-ne.false) ∙ e.1)),
    )
