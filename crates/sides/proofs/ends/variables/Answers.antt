use Rattle.std.proofs.Common.{◌≡◌, ℕ, ◌+◌, ◌<◌, Bool, true, false, ◌||◌, eqb, List, length, get_or, drop, sym, refl, ap, ◌∙◌, arith}
use Rattle.std.proofs.Math.Bool.{or-false}
use Rattle.std.proofs.lemmas.List.{at_drop_more, get_or-replicate, length-set}
use Rattle.systems.specs.declared.Place.TheVariants.{Variable}
use Rattle.systems.specs.Rows.{any}
use Rattle.systems.specs.Sides.{is_variable}
use Rattle.sides.specs.declared.mark.Mark.{Mark}
use Rattle.sides.specs.declared.mark.Mark.TheVariants.{End, At}
use Rattle.sides.specs.Marks.{lifted}
use Rattle.sides.proofs.Finding.{found_more, noted}
use Rattle.sides.proofs.ends.variables.Goals as goal
use Rattle.sides.proofs.ends.variables.Goals.{in-Some, in_default}

pub loop-mark-init : goal.loop-mark-init
loop-mark-init c = (refl, λ y lt. ap (λ b. b || any (lifted (is_variable y)) c.args.marks.now) (get_or-replicate 26 y false false lt))

pub loop-mark-preserved : goal.loop-mark-preserved
loop-mark-preserved c =
    let ms = c.args.marks.now in
    let i = c.loop-mark.mark-index in
    let m = get_or ms i End in
    let found = c.loop-mark.found in
    let found' = c.match-capital.found in
    let stands : ℕ → List Mark → Bool = λ y. any (lifted (is_variable y)) in
    let more : (y : ℕ) → y < 26 → get_or found' y false ≡ (get_or found y false || lifted (is_variable y) m) → (get_or found' y false || stands y (drop (i + 1) ms)) ≡ stands y ms =
    λ y lt note. found_more (get_or found y false) (get_or found' y false) (lifted (is_variable y) m) (stands y (drop (i + 1) ms)) (stands y (drop i ms)) (stands y ms) note (at_drop_more (stands y) ms i End c.loop-mark-test.true) (c.loop-mark.invariant.1 y lt) in
    elim c.match-capital.branch [
      | in-Some w ↦
          let here : m ≡ At (Variable w.in-Some.x) = w.in-Some.ensures.1 in
          let inside : w.from.result < length found = omega (arith, w.from.ensures, w.in-Some.ensures.0, c.loop-mark.invariant.0) in (
            ap length w.found-is ∙ length-set found w.from.result true ∙ c.loop-mark.invariant.0,
            λ y lt. more y lt (ap (λ f. get_or f y false) w.found-is ∙ noted found w.from.result y inside ∙ ap (λ z. get_or found y false || eqb y z) w.from.ensures ∙ ap (λ n. get_or found y false || lifted (is_variable y) n) (sym here)),
          )
      | in_default w ↦ (
        ap length w.found-is ∙ c.loop-mark.invariant.0,
        λ y lt. more y lt (ap (λ f. get_or f y false) w.found-is ∙ sym (or-false (get_or found y false)) ∙ ap (λ b. get_or found y false || b) (sym (w.in_default.ensures y lt))),
      )
    ]
