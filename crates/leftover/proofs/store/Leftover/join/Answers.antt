use Rattle.std.proofs.Common.{◌≡◌, None, ap, get_or, length, rules, set, ◌∙◌, arith}
use Rattle.std.specs.Option.{option_map}
use Rattle.leftover.specs.Leaving.{joined_word}
use Rattle.leftover.proofs.Words.{map_over_next}
use Rattle.leftover.proofs.store.Leftover.join.Goals as goal

pub loop-x-preserved : goal.loop-x-preserved
loop-x-preserved c =
    let all : length c.args.self.now.words ≡ 26 = search rules in
    let so_far = c.loop-x.invariant in (
      map_over_next (option_map (joined_word c.args.rule c.args.self.now.fresh)) c.args.self.now.words c.loop-x.self.words c.join_in_word.new.self.words c.loop-x.x None (omega arith) so_far.0
          (c.join_in_word.ensures.words ∙ ap (λ k. set c.loop-x.self.words c.loop-x.x (option_map (joined_word c.args.rule k) (get_or c.loop-x.self.words c.loop-x.x None))) so_far.2),
      c.join_in_word.ensures.filled ∙ so_far.1,
      c.join_in_word.ensures.fresh ∙ so_far.2,
    )
