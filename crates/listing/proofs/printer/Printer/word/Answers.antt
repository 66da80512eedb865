use Rattle.std.proofs.Common.{◌≡◌, ◌+◌, ◌-◌, ◌<◌, ◌++◌, length, get_or, take, drop, sym, refl, ap, ◌∙◌, subst, arith, length-append, rules}
use Rattle.model.specs.Spelling.{Word}
use Rattle.text.specs.Names.{letter_name}
use Rattle.text.proofs.Parts.{headed}
use Rattle.format.specs.Listing.{word_text}
use Rattle.listing.specs.Printing.{Printed}
use Rattle.listing.specs.Words.{names_after}
use Rattle.listing.proofs.Printers.{printed_then}
use Rattle.listing.proofs.Texts.{word_after}
use Rattle.listing.proofs.printer.Printer.word.Goals as goal

parts : (w : Word) → 0 < length w → letter_name (get_or w 0 0) ++ names_after (take (length w - 1) (drop 1 w)) ≡ word_text w
parts w some = word_after (get_or w 0 0) (take (length w - 1) (drop 1 w)) ∙ ap word_text (headed w (get_or w 0 0) some refl)

room : (w : Word) → 0 < length w → length (word_text w) ≡ length (letter_name (get_or w 0 0)) + length (names_after (take (length w - 1) (drop 1 w)))
room w some = ap length (sym (parts w some)) ∙ length-append (letter_name (get_or w 0 0)) (names_after (take (length w - 1) (drop 1 w)))

pub more_letters-requires : goal.more_letters-requires
more_letters-requires c =
    let some : 0 < length c.args.word.now = search rules in
    omega (arith, c.requires, room c.args.word.now some, c.letter.ensures.put.behind, c.letter.ensures.long)

pub returns-in-len1-up : goal.returns-in-len1-up
returns-in-len1-up c =
    let some : 0 < length c.args.word.now = search rules in
    subst (λ bs. Printed c.args.self.now bs c.more_letters.new.self) (parts c.args.word.now some)
    (printed_then c.letter.ensures c.more_letters.ensures)
