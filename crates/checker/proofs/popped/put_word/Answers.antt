use Rattle.std.proofs.Common.{rules, ◌≡◌, ◌+◌, ◌++◌, [], ◌∷◌, reverse, length, get_or, take, sym, ap, ◌∙◌, arith, length-append, append_assoc, append-nil}
use Rattle.std.specs.List.{flat_map}
use Rattle.std.proofs.lemmas.Iterator.Adapters.{YieldsList-from_rev_slice}
use Rattle.std.proofs.lemmas.Iterator.Consumers.{YieldsList-end, YieldsList-turn}
use Rattle.std.proofs.lemmas.List.{length-reverse, length_push, take_all}
use Rattle.systems.specs.declared.Pop.TheVariants.{AtLeft}
use Rattle.systems.specs.Standings.{left_of, right_of}
use Rattle.checker.proofs.Popping.{front_more, front_room, no_more_letters, rights_back}
use Rattle.checker.proofs.popped.put_word.Goals as goal

pub loop-pop-init : goal.loop-pop-init
loop-pop-init c = c.clear.ensures

pub add-requires : goal.add-requires
add-requires c =
    let x = c.args.x in
    let pops = c.args.pops.now in
    omega (arith, front_room (left_of x) pops c.loop-pop.pop-index (AtLeft 0 0) c.loop-pop-test.true, no_more_letters x pops, ap length c.loop-pop.invariant, ap length c.at_left.ensures, c.requires)

pub loop-pop-preserved : goal.loop-pop-preserved
loop-pop-preserved c =
    let f = left_of c.args.x in
    let pops = c.args.pops.now in
    let i = c.loop-pop.pop-index in
    c.add.ensures ∙ (λ j. c.loop-pop.invariant j ++ c.at_left.ensures j) ∙ sym (front_more f pops i (AtLeft 0 0) c.loop-pop-test.true)

pub loop-pop-2-init : goal.loop-pop-2-init
loop-pop-2-init c =
    c.loop-pop.invariant ∙ ap (flat_map (left_of c.args.x)) (take_all c.loop-pop.pop-index c.args.pops.now c.loop-pop-test.false) ∙ sym (append-nil (flat_map (left_of c.args.x) c.args.pops.now))

pub add-requires-in-loop-pop-2 : goal.add-requires-in-loop-pop-2
add-requires-in-loop-pop-2 c =
    let x = c.args.x in
    let pops = c.args.pops.now in
    let done = c.loop-pop-2.yielded in
    let t = YieldsList-turn (YieldsList-from_rev_slice pops (search rules)) done _ c.loop-pop-2.yielded_by _ _ c.in-Some.pop c.in-Some.is c.next.ensures.steps in
    omega (
      arith,
      c.requires,
      no_more_letters x pops,
      front_room (right_of x) (reverse pops) (length done) c.in-Some.pop.now t.0,
      ap (λ pop. length (right_of x pop)) t.1,
      ap length (rights_back x pops),
      length-reverse (flat_map (right_of x) pops),
      ap length c.loop-pop-2.invariant,
      length-append (flat_map (left_of x) pops) (flat_map (right_of x) (take (length done) (reverse pops))),
      ap length c.at_right.ensures,
    )

pub loop-pop-2-preserved : goal.loop-pop-2-preserved
loop-pop-2-preserved c =
    let f = right_of c.args.x in
    let pops = c.args.pops.now in
    let lefts = flat_map (left_of c.args.x) pops in
    let done = c.loop-pop-2.yielded in
    let pop = c.in-Some.pop.now in
    let t = YieldsList-turn (YieldsList-from_rev_slice pops (search rules)) done _ c.loop-pop-2.yielded_by _ _ c.in-Some.pop c.in-Some.is c.next.ensures.steps in
    let n : length done + 1 ≡ length (done ++ (c.in-Some.pop ∷ [])) = sym (length_push done c.in-Some.pop) in
    c.add-in-loop-pop-2.ensures
    ∙ (λ j. c.loop-pop-2.invariant j ++ (c.at_right.ensures ∙ ap f t.1) j)
    ∙ append_assoc lefts (flat_map f (take (length done) (reverse pops))) (f (get_or (reverse pops) (length done) pop))
    ∙ ap (λ w. lefts ++ w) (sym (front_more f (reverse pops) (length done) pop t.0) ∙ ap (λ k. flat_map f (take k (reverse pops))) n)

pub returns : goal.returns
returns c =
    let x = c.args.x in
    let pops = c.args.pops.now in
    let done = c.loop-pop-2.yielded in
    let e = YieldsList-end (YieldsList-from_rev_slice pops (search rules)) done _ c.loop-pop-2.yielded_by _ _ c.in-None.is c.next.ensures.steps in
    c.loop-pop-2.invariant ∙ ap (λ w. flat_map (left_of x) pops ++ w) (ap (flat_map (right_of x)) (take_all (length done) (reverse pops) (omega (arith, e.1))) ∙ rights_back x pops)
