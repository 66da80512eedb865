use Rattle.std.proofs.Common.{◌≡◌, List, [], ◌∷◌, ◌++◌, map, length, ap, ◌∙◌, append_assoc, arith}
use Rattle.std.proofs.lemmas.List.{length-append}
use Rattle.systems.specs.Loading.{side_of}
use Rattle.systems.specs.Sides.{Side, places}
use Rattle.sides.specs.declared.mark.Mark.{Mark}
use Rattle.sides.specs.declared.mark.Mark.TheVariants.{End, At}
use Rattle.sides.specs.Marks.{equations_in, Whole}
use Rattle.sides.proofs.Flat.{places_length, one_more_holds}
use Rattle.sides.proofs.store.Sides.add.Goals as goal
use Rattle.sides.proofs.store.Sides.add.Goals.{After-put_side-2}

pub put_side-requires : goal.put_side-requires
put_side-requires c = record { room = omega (arith, places_length c.self.inside.marks c.self.invariant.whole, ap places c.self.view_is, ap length c.self.view_is) }

pub put_side-requires-2 : goal.put_side-requires-2
put_side-requires-2 c = record { room = omega (arith, places_length c.self.inside.marks c.self.invariant.whole, ap places c.self.view_is, ap length c.self.view_is) }

-- the two sides in a row
joined : (old one two l r : List Mark) → one ≡ old ++ (l ++ (End ∷ [])) → two ≡ one ++ (r ++ (End ∷ [])) → two ≡ old ++ (l ++ (End ∷ (r ++ (End ∷ []))))
joined old one two l r a b =
    b ∙ ap (λ t. t ++ (r ++ (End ∷ []))) a ∙ append_assoc old (l ++ (End ∷ [])) (r ++ (End ∷ [])) ∙ ap (λ t. old ++ t) (append_assoc l (End ∷ []) (r ++ (End ∷ [])))

after : (c : After-put_side-2) → (equations_in c.put_side-2.new.out ≡ equations_in c.self.inside.marks ++ ((side_of c.args.left.now, side_of c.args.right.now) ∷ [])) × Whole c.put_side-2.new.out
after c =
    let l : Side = side_of c.args.left.now in
    let r : Side = side_of c.args.right.now in
    one_more_holds l r c.self.inside.marks c.put_side-2.new.out c.self.invariant.whole (joined c.self.inside.marks c.put_side.new.out c.put_side-2.new.out (map At l) (map At r) c.put_side.ensures.items c.put_side-2.ensures.items)

pub invariant_of-self : goal.invariant_of-self
invariant_of-self c =
    let e = after (goal.at.invariant_of-self c).After-put_side-2 in
    let more = ap length e.0 ∙ length-append (equations_in c.self.inside.marks) ((side_of c.args.left.now, side_of c.args.right.now) ∷ []) in
    record {
      whole = e.1;
      counted = omega (arith, more);
      few = omega (arith, ap length c.self.view_is);
      short = omega (arith, places_length c.self.inside.marks c.self.invariant.whole, ap places c.self.view_is);
    }

pub returns : goal.returns
returns c = (after (goal.at.returns c).After-put_side-2).0 ∙ ap (λ E. E ++ ((side_of c.args.left.now, side_of c.args.right.now) ∷ [])) c.self.view_is
