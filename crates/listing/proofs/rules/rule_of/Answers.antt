use Rattle.std.proofs.Common.{sym, ◌∙◌}
use Rattle.std.proofs.lemmas.Slice.Eq.{slice_eq-Decides}
use Rattle.std.proofs.lemmas.Bool.{true≢false}
use Rattle.listing.proofs.RuleLines.{other_make}
use Rattle.listing.proofs.rules.rule_of.Goals as goal
use Rattle.std.proofs.lemmas.Bool.Decides.{Decides-eqb}

pub returns-else-eq-2 : goal.returns-else-eq-2
returns-else-eq-2 c =
    let cut = c.in_ok-make.ensures in
    other_make c.args.fields.now c.in_ok-make.make.now c.in_ok-make.letters.now cut.0 cut.1
    (λ is. true≢false (sym ((slice_eq-Decides Decides-eqb _ _ _ c.eq.ensures).1 (is ∙ sym c.as_slice.ensures)) ∙ c.if-eq.false))
    (λ is. true≢false (sym ((slice_eq-Decides Decides-eqb _ _ _ c.eq-else-eq.ensures).1 (is ∙ sym c.as_slice-else-eq.ensures)) ∙ c.if-eq-2.false))
