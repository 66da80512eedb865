use Rattle.std.proofs.Common.{[], ◌∷◌}
use Rattle.systems.specs.declared.Choice.TheVariants.{Pair}
use Rattle.writing.specs.Writer.{each, for_pair, variables}
use Rattle.writer.proofs.Following.{does_then, ready_behind, ready_front}
use Rattle.writer.proofs.store.Draft.join_pair.Goals as goal

pub prepare_pairs-requires : goal.prepare_pairs-requires
prepare_pairs-requires c = ready_front (each (for_pair c.args.a c.args.b) variables) (λ _. Pair c.args.a c.args.b ∷ []) c.args.self.now c.requires

pub pair-requires : goal.pair-requires
pair-requires c = ready_behind (each (for_pair c.args.a c.args.b) variables) (λ _. Pair c.args.a c.args.b ∷ []) c.args.self.now c.prepare_pairs.new.self c.requires c.prepare_pairs.ensures

pub returns : goal.returns
returns c = does_then (each (for_pair c.args.a c.args.b) variables) (λ _. Pair c.args.a c.args.b ∷ []) c.args.self.now c.prepare_pairs.new.self c.pair.new.self c.prepare_pairs.ensures c.pair.ensures
