use Rattle.std.proofs.Common.{◌-◌, take, drop, Some, ap, ◌∙◌}
use Rattle.std.proofs.lemmas.Slice.{between_is}
use Rattle.witness.proofs.store.Witness.word.Goals as goal

pub returns : goal.returns
returns c =
    let span = c.in_ok-span.span in
    ap (λ l. Some (take (span.end - span.start) (drop span.start l))) c.as_slice.ensures.value ∙ ap Some (between_is c.args.self.now.letters span.start span.end) ∙ c.in_ok-span.ensures.word
