use Rattle.std.proofs.Common.{refl, rules}
use Rattle.std.specs.Char.{is_ascii_lowercase}
use Rattle.std.proofs.lemmas.List.Recursion.{and_is}
use Rattle.writing.specs.Refusals.{a_to_z}
use Rattle.given.proofs.words.is_a_to_z.Goals as goal

pub returns : goal.returns
returns c = and_is a_to_z is_ascii_lowercase refl (λ _ _. refl) c.args.bytes.now 0 _ (search rules) (search rules)
