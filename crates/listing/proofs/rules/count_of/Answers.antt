use Rattle.std.proofs.Common.{◌≡◌, ℕ, ◌^◌, ◌<◌, Some, Ok, Err, decimal, Result, sym, ap, ◌∙◌, arith}
use Rattle.std.specs.Result.{OkIff, result_ok}
use Rattle.std.proofs.lemmas.Fmt.{decimal_injective}
use Rattle.text.specs.Pieces.{Bytes}
use Rattle.text.specs.Reading.{Below, Reads}
use Rattle.listing.proofs.rules.count_of.Goals as goal

counted : {E : Type 0} (field : Bytes) (n : ℕ) (r : Result ℕ E) → Reads (Below (10 ^ 16)) decimal field (Some n) → OkIff r (n < 2 ^ 32) n → Reads (Below (2 ^ 32)) decimal field (result_ok r)
counted field n (Ok m) h k = (omega (arith, k.0, k.1), h.1 ∙ ap decimal (sym k.1))
counted field n (Err e) h k = λ m lt is.
    let few : n < 10 ^ 16 = h.0 in
    let same : n ≡ m = decimal_injective n m (omega arith) (omega arith) (sym h.1 ∙ is) in
    k (omega arith)

pub returns : goal.returns
returns c = rw c.ok.ensures.value (counted c.args.field.now c.in_ok-number.field-0 c.try_from.result c.in_ok-number.ensures c.try_from.ensures)
