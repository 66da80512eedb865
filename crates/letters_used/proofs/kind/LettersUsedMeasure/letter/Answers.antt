use Rattle.std.proofs.Common.{◌^◌, ◌<◌, arith}
use lib.Pow.{pow-lt}
use Rattle.std.proofs.lemmas.Nat.{one_shl}
use Rattle.letters_used.proofs.kind.LettersUsedMeasure.letter.Goals as goal

pub invariant_of-result : goal.invariant_of-result
invariant_of-result c =
    let n = c.number.result in
    let low : n < 26 = omega arith in
    let bit = one_shl n 32 (omega arith) in
    let small : 2 ^ n < 2 ^ 26 = pow-lt low in
    record {
      ok = omega arith;
    }
