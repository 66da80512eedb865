use Rattle.std.proofs.Common.{rules, ◌≡◌, ◌+◌, ◌<◌, ◌≤◌, true, false, leb, reverse, length, refl, ap, ap₂, ◌∙◌, arith}
use Rattle.std.proofs.lemmas.Bool.{lt-leb, le-leb}
use Rattle.std.proofs.lemmas.List.{length-reverse, length_push}
use Rattle.std.proofs.lemmas.Result.{err_from_is_err_and}
use Rattle.letters.specs.Holding.{rules_of}
use Rattle.letters.proofs.Judging.{known_length, unknown_length}
use Rattle.model.specs.Spelling.{known}
use Rattle.model.specs.Witnesses.{entries_fit, letters_in}
use Rattle.model.proofs.Fitting.{spell_short, spell_word_short}
use Rattle.reserved.proofs.Pushing.{pushed}
use Rattle.witness.specs.Seats.{entries}
use Rattle.witness.specs.declared.refusals.LetterRefusal.TheVariants.{UnknownLetter}
use Rattle.witness.proofs.Counting.{counted_push, upto_all}
use Rattle.witness.proofs.Cutting.{begun, letters_in_entries, push_entry, push_fits, push_tight}
use Rattle.witness.proofs.store.Witness.push_letter.Goals as goal

pub returns-in_err-length : goal.returns-in_err-length
returns-in_err-length c =
    let s = c.args.self.now in
    let p = err_from_is_err_and c.from_residual.result c.from_residual.ensures.1 in
    let why : c.in_err-length.field-0.0 ≡ UnknownLetter = search rules in
    let some = begun s.seats s.letters c.len.result c.len.ensures.value (omega arith) in
    let unknown : leb (known (rules_of s.made)) c.args.letter ≡ true = le-leb (known (rules_of s.made)) c.args.letter (unknown_length (rules_of s.made) c.args.letter (search rules)) in
    rw (p.1, p.2, why) (simp (some, unknown), refl)

pub overflow_add-total : goal.overflow_add-total
overflow_add-total c =
    let s = c.args.self.now in
    let known_rules = rules_of s.made in
    let found = known_length known_rules c.args.letter c.in_ok-length.length (search rules) in
    let few : length s.letters ≤ 1024 = omega (arith, c.len-2.ensures) in
    omega (arith, upto_all known_rules s.letters c.len-2.result c.upto.result c.len-2.ensures.value c.upto.ensures, spell_word_short known_rules s.letters s.made.fit, spell_short known_rules s.made.fit c.args.letter)

pub returns-in_err-push : goal.returns-in_err-push
returns-in_err-push c =
    let s = c.args.self.now in
    let known_rules = rules_of s.made in
    let es = entries (reverse s.seats) s.letters in
    let found = known_length known_rules c.args.letter c.in_ok-length.length (search rules) in
    let some = begun s.seats s.letters c.len.result c.len.ensures.value (omega arith) in
    let low : leb (known known_rules) c.args.letter ≡ false = lt-leb (known known_rules) c.args.letter found.0 in
    let full : leb 1024 (letters_in es) ≡ true = le-leb 1024 (letters_in es) (omega (arith, letters_in_entries (reverse s.seats) s.letters s.whole, c.in_err-push.ensures.0)) in
    let p = err_from_is_err_and c.from_residual-in_err-push.result c.from_residual-in_err-push.ensures.1 in
    rw (p.1, p.2) (simp (some, low, full), ap (λ l. record { rules = known_rules; entries = entries (reverse s.seats) l }) c.in_err-push.ensures.1)

pub invariant_of-self-2 : goal.invariant_of-self-2
invariant_of-self-2 c =
    let s = c.args.self.now in
    let known_rules = rules_of s.made in
    let seats = reverse s.seats in
    let es = entries seats s.letters in
    let a = c.args.letter in
    let found = known_length known_rules a c.in_ok-length.length (search rules) in
    let put = c.in_ok-push.ensures in
    let more : length s.letters ≤ length c.push.new.self = omega (arith, ap length put.1, length_push s.letters a) in
    let few : letters_in es < 1024 = omega (arith, letters_in_entries seats s.letters s.whole, put.0) in
    let counts = pushed c.push-2.result s.ends c.push-2.new.self (c.upto.result + c.in_ok-length.length) 1024 c.push-2.ensures (omega (arith, s.level, put.0)) in
    let before = upto_all known_rules s.letters c.len-2.result c.upto.result c.len-2.ensures.value c.upto.ensures in
    let some : 0 < length seats = omega (arith, length-reverse s.seats, c.len.ensures.value, c.if-len-eq0.false) in
    record {
      level = omega (arith, s.level, ap length put.1, length_push s.letters a, ap length counts, length_push s.ends (c.upto.result + c.in_ok-length.length));
      whole = push_tight seats (length s.letters) (length c.push.new.self) some more s.whole;
      fit = ap (entries_fit known_rules) (ap (entries seats) put.1 ∙ push_entry seats s.letters a s.whole) ∙ push_fits known_rules es a found.0 few s.fit;
      counted = counted_push known_rules s.letters c.push.new.self s.ends c.push-2.new.self a (c.upto.result + c.in_ok-length.length) put.1 counts s.level (ap₂ (λ m n. m + n) before found.1) s.counted;
    }

pub returns : goal.returns
returns c =
    let s = c.args.self.now in
    let known_rules = rules_of s.made in
    let seats = reverse s.seats in
    let es = entries seats s.letters in
    let found = known_length known_rules c.args.letter c.in_ok-length.length (search rules) in
    let put = c.in_ok-push.ensures in
    let some = begun s.seats s.letters c.len.result c.len.ensures.value (omega arith) in
    let low : leb (known known_rules) c.args.letter ≡ false = lt-leb (known known_rules) c.args.letter found.0 in
    let free : leb 1024 (letters_in es) ≡ false = lt-leb 1024 (letters_in es) (omega (arith, letters_in_entries seats s.letters s.whole, put.0)) in
    (simp (some, low, free), ap (λ l. record { rules = known_rules; entries = l }) (ap (entries seats) put.1 ∙ push_entry seats s.letters c.args.letter s.whole))
