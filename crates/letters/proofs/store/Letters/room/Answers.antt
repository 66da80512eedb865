use Rattle.std.proofs.Common.{◌≡◌, ◌^◌, true, false, ltb, leb, length, arith}
use Rattle.std.proofs.lemmas.List.{length-reverse}
use Rattle.std.proofs.lemmas.Bool.{le-leb, lt-leb, lt-ltb, le-ltb}
use Rattle.letters.specs.Holding.{rules_of}
use Rattle.letters.proofs.store.Letters.room.Goals as goal

pub returns-then-len-ge-MOST_RULES : goal.returns-then-len-ge-MOST_RULES
returns-then-len-ge-MOST_RULES c =
    let s = c.args.self.now in
    let full : leb 512 (length (rules_of s)) ≡ true = le-leb 512 (length (rules_of s)) (omega (arith, length-reverse s.rules)) in
    simp full

pub returns-then-length-gt-MOST_LENGTH : goal.returns-then-length-gt-MOST_LENGTH
returns-then-length-gt-MOST_LENGTH c =
    let s = c.args.self.now in
    let free : leb 512 (length (rules_of s)) ≡ false = lt-leb 512 (length (rules_of s)) (omega (arith, length-reverse s.rules)) in
    let over : ltb (10 ^ 12) c.args.length ≡ true = lt-ltb (10 ^ 12) c.args.length (omega arith) in
    simp (free, over)

pub returns-else-length-gt-MOST_LENGTH : goal.returns-else-length-gt-MOST_LENGTH
returns-else-length-gt-MOST_LENGTH c =
    let s = c.args.self.now in
    let free : leb 512 (length (rules_of s)) ≡ false = lt-leb 512 (length (rules_of s)) (omega (arith, length-reverse s.rules)) in
    let under : ltb (10 ^ 12) c.args.length ≡ false = le-ltb (10 ^ 12) c.args.length (omega arith) in
    simp (free, under)
