use Rattle.std.proofs.Common.{◌≡◌, ℕ, ◌<◌, true, false, slice_index_or}
use Rattle.writing.specs.Refusals.{is_word, span_of}
use Rattle.given.proofs.reading.judge_words.Given as goal

abbrev pub invariant-loop-x : goal.invariant-loop-x
invariant-loop-x l = (y : ℕ) → y < l.x → slice_index_or l.system y false ≡ true → is_word l.given.buffer.now (span_of l.given.spans y) ≡ true
