use Rattle.std.proofs.Common.{arith}
use Rattle.std.proofs.lemmas.List.{length-reverse}
use Rattle.letters.proofs.store.Letters.known.Goals as goal

pub returns : goal.returns
returns c =
    let s = c.args.self.now in
    record { value = omega (arith, length-reverse s.rules); bound = omega arith }
