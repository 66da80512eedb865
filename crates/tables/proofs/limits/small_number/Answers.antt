use Rattle.std.proofs.Common.{◌≡◌, ◌^◌, ◌<◌, sym, ◌∙◌, arith}
use Rattle.std.proofs.lemmas.Fmt.{decimal_injective}
use Rattle.text.proofs.Tokens.{other_token}
use Rattle.tables.proofs.limits.small_number.Goals as goal

pub returns-in_default : goal.returns-in_default
returns-in_default c = λ n lt e. other_token c.token_of.result c.args.field c.token_of.ensures c.in_default.not-Number n (omega arith) e

pub returns-in_err-n : goal.returns-in_err-n
returns-in_err-n c = rw c.from_residual.ensures (λ n lt e. c.in_err-n.ensures n (omega arith) (c.in-Number.ensures.0 ∙ e))

pub returns-else-n-lt-SEVEN_DIGITS : goal.returns-else-n-lt-SEVEN_DIGITS
returns-else-n-lt-SEVEN_DIGITS c = λ m lt e.
    let few : c.in_ok-n.n < 10 ^ 16 = c.in_ok-n.ensures.0 in
    let same : c.in_ok-n.n ≡ m = decimal_injective c.in_ok-n.n m (omega arith) (omega arith) (sym c.in_ok-n.ensures.1 ∙ c.in-Number.ensures.0 ∙ e) in
    omega arith
