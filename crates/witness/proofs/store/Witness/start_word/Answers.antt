use Rattle.std.proofs.Common.{rules, ◌<◌, reverse, length, arith}
use Rattle.std.proofs.lemmas.List.{length-reverse}
use Rattle.letters.specs.Holding.{rules_of}
use Rattle.witness.specs.Seats.{entries}
use Rattle.witness.proofs.Cutting.{count_entries, entries_rise}
use Rattle.witness.proofs.store.Witness.start_word.Goals as goal

pub unwrap-requires : goal.unwrap-requires
unwrap-requires c =
    let s = c.args.self.now in
    let seats = reverse s.seats in
    let room : length s.seats < 26 = omega (arith, entries_rise (rules_of s.made) (entries seats s.letters) s.fit, count_entries seats s.letters, length-reverse s.seats, c.least.ensures, c.from.ensures) in
    search rules
