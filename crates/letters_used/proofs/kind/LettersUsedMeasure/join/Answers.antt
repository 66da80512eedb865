use Rattle.std.proofs.lemmas.Nat.{or_lt}
use Rattle.letters_used.proofs.kind.LettersUsedMeasure.join.Goals as goal

pub invariant_of-result : goal.invariant_of-result
invariant_of-result c = record {
  ok = or_lt 26 c.args.a.bits c.args.b.bits c.args.a.ok c.args.b.ok;
}
