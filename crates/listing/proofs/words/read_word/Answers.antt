use Rattle.std.proofs.Common.{eqb, ◌∷◌, [], sym, ◌∙◌, subst, rules}
use Rattle.std.proofs.lemmas.Iterator.Consumers.{YieldsList-turn, YieldsList-end}
use Rattle.std.proofs.lemmas.Iterator.Splits.{YieldsList-from_slice_split}
use Rattle.std.proofs.lemmas.List.{map-append, length-map}
use Rattle.std.proofs.lemmas.Slice.Eq.{slice_eq-Decides}
use Rattle.std.proofs.lemmas.Bool.{true≢false}
use Rattle.std.proofs.lemmas.Bool.Decides.{Decides-eqb}
use Rattle.witness.specs.Holding.{contents_of}
use Rattle.listing.specs.Words.{Midway}
use Rattle.listing.proofs.Holding.{known_few}
use Rattle.listing.proofs.Letters.{midway_all, midway_more, no_word}
use Rattle.listing.proofs.words.read_word.Goals as goal

pub returns-in_err-push_piece : goal.returns-in_err-push_piece
returns-in_err-push_piece c =
    let turn = YieldsList-turn (YieldsList-from_slice_split {s = c.into_iter-piece-iterator.result} _ (λ b. eqb b 44) {f = tt} c.args.field.now (cc) (cc) (cc) (λ x b q h. search rules)) c.loop-piece.yielded _ c.loop-piece.yielded_by _ _ c.in-Some.piece c.in-Some.is c.next.ensures.steps in
    rw c.from_residual.ensures (no_word (contents_of c.args.witness.now) c.args.field.now _ (contents_of c.loop-piece.witness) c.in-Some.piece.now _ (known_few c.args.witness.now)
    (λ is. true≢false (sym ((slice_eq-Decides Decides-eqb _ _ _ c.eq.ensures).1 (is ∙ sym c.as_slice.ensures)) ∙ c.if-eq.false)) c.loop-piece.invariant (length-map c.loop-piece.yielded (λ x. x.now)) turn c.in_err-push_piece.ensures)

pub loop-piece-preserved : goal.loop-piece-preserved
loop-piece-preserved c =
    subst (λ l. Midway (contents_of c.args.witness.now) l (contents_of c.push_piece.new.witness)) (sym (map-append (λ x. x.now) c.loop-piece.yielded (c.in-Some.piece ∷ [])))
    (midway_more (contents_of c.args.witness.now) _ (contents_of c.loop-piece.witness) (contents_of c.push_piece.new.witness) c.in-Some.piece.now c.loop-piece.invariant c.in_ok-push_piece.ensures)

pub returns : goal.returns
returns c =
    let all = YieldsList-end (YieldsList-from_slice_split {s = c.into_iter-piece-iterator.result} _ (λ b. eqb b 44) {f = tt} c.args.field.now (cc) (cc) (cc) (λ x b q h. search rules)) c.loop-piece.yielded _ c.loop-piece.yielded_by _ _ c.in-None.is c.next.ensures.steps in
    midway_all (contents_of c.args.witness.now) c.args.field.now _ (contents_of c.loop-piece.witness) c.loop-piece.invariant all.0
