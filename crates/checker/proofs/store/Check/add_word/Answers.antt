use Rattle.std.proofs.Common.{◌≡◌, length, ap, ◌∙◌, arith}
use Rattle.model.specs.Spelling.{known}
use Rattle.model.specs.Witnesses.{Contents, Entry, all_below, letters_in}
use Rattle.model.proofs.Entries.{entry_after}
use Rattle.guarantee.specs.Closing.{entry}
use Rattle.witness.specs.Answers.{with_word}
use Rattle.witness.specs.Holding.{contents_of}
use Rattle.checker.specs.Holding.{standing}
use Rattle.checker.specs.Popped.{lengthened_by, with_entries}
use Rattle.checker.proofs.Adding.{ok_taken, word_free, word_starts}
use Rattle.checker.proofs.store.Check.add_word.Goals as goal

pub unwrap-requires : goal.unwrap-requires
unwrap-requires c = ok_taken c.start_word.result _ _ _ (word_free (contents_of c.args.witness.now) (entry (standing c.args.self.now) c.args.x) c.requires) c.start_word.ensures

pub add_letters-requires : goal.add_letters-requires
add_letters-requires c =
    let old : Contents = contents_of c.args.witness.now in
    let e : Entry = entry (standing c.args.self.now) c.args.x in
    let fits = entry_after old.rules old.entries e c.requires in
    let started : contents_of c.start_word.new.self ≡ with_word c.args.x old = word_starts old (contents_of c.start_word.new.self) e c.start_word.result c.requires c.start_word.ensures in
    let letters : c.as_slice.result.now ≡ e.word = c.as_slice.ensures.value ∙ c.put_word.ensures in
    record {
      started = omega (arith, ap (λ k. length k.entries) started);
      below = ap (λ k. all_below (known k.rules) c.as_slice.result.now) started ∙ ap (all_below (known old.rules)) letters ∙ fits.low;
      room = omega (arith, ap (λ k. letters_in k.entries) started, ap length letters, fits.few);
    }

pub returns : goal.returns
returns c =
    let old : Contents = contents_of c.args.witness.now in
    let e : Entry = entry (standing c.args.self.now) c.args.x in
    let started : contents_of c.start_word.new.self ≡ with_word c.args.x old = word_starts old (contents_of c.start_word.new.self) e c.start_word.result c.requires c.start_word.ensures in
    let letters : c.as_slice.result.now ≡ e.word = c.as_slice.ensures.value ∙ c.put_word.ensures in
    c.add_letters.ensures ∙ λ i. with_entries (started i) (lengthened_by (letters i) (started i).entries)
