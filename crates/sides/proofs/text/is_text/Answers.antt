use Rattle.std.proofs.Common.{is_some, refl, rules}
use Rattle.std.proofs.lemmas.List.Recursion.{and_is}
use Rattle.systems.specs.Loading.{place_of, readable}
use Rattle.sides.proofs.text.is_text.Goals as goal

pub returns : goal.returns
returns c = and_is readable (λ b. is_some (place_of b)) refl (λ _ _. refl) c.args.bytes.now 0 _ (search rules) (search rules)
