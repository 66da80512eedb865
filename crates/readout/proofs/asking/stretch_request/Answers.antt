use Rattle.std.proofs.Common.{◌≡◌, ℕ, ◌^◌, ◌<◌, ◌≤◌, decimal, sym, ap, ◌∙◌, arith}
use Rattle.std.proofs.lemmas.Fmt.{decimal_injective}
use Rattle.text.specs.Pieces.{Bytes}
use Rattle.readout.specs.Asking.{Askable, three_words}
use Rattle.readout.specs.declared.request.Request.{Request}
use Rattle.readout.specs.declared.request.Request.TheVariants.{Table, Stretch}
use Rattle.readout.proofs.asking.stretch_request.Goals as goal

too_many : (name start count : Bytes) (n : ℕ) → 1000000 < n → n < 10 ^ 16 → count ≡ decimal n → (request : Request) → Askable request → (name, start, count) ≡ three_words request → ⊥
too_many name start count n many few is Table ok e = ok
too_many name start count n many few is (Stretch s) ok e =
    let under : s.count ≤ 1000000 = ok.2 in
    let same : n ≡ s.count = decimal_injective n s.count (omega arith) (omega arith) (sym is ∙ ap (λ w. w.2) e) in
    omega arith

pub returns-then-count-gt-MOST_LETTERS : goal.returns-then-count-gt-MOST_LETTERS
returns-then-count-gt-MOST_LETTERS c =
    let counted = c.in_ok-count.ensures in
    too_many c.args.name.now c.args.start.now c.args.count.now c.in_ok-count.count c.if-count-gt-MOST_LETTERS.true counted.0 counted.1
