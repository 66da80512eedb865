use Rattle.std.proofs.Common.{rules}
use Rattle.measure.proofs.Symbols.{numbers_from_places}
use Rattle.measure.proofs.symbol.Symbol.all.Goals as goal

pub returns : goal.returns
returns g c =
    numbers_from_places (λ s. s.number) c.from_fn.result 26 c.from_fn.ensures.items.long (λ i e lt.
    let called = c.from_fn.ensures.items.at i e lt in
    search rules)
