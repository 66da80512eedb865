use Rattle.std.proofs.Common.{Err, ap, length, sym, ◌∙◌, subst, arith}
use Rattle.std.proofs.lemmas.Result.{err_from_is_err_and}
use Rattle.writing.proofs.Refusing.{writer_refuses_rightly}
use Rattle.checker.specs.Holding.{loading}
use Rattle.writer.specs.Solutions.{EverySolutionWritten}
use Rattle.writer.proofs.Loads.{none_refused, outcome, starts}
use Rattle.writer.proofs.list.Writer.write.Goals as goal

pub returns-then-list-lt-MOST_CHOICES-clause-every_solution : goal.returns-then-list-lt-MOST_CHOICES-clause-every_solution
returns-then-list-lt-MOST_CHOICES-clause-every_solution c loads σ run solution stand few enough = absurd (omega arith)

pub returns-then-list-lt-MOST_CHOICES-clause-rightly : goal.returns-then-list-lt-MOST_CHOICES-clause-rightly
returns-then-list-lt-MOST_CHOICES-clause-rightly c loads _ = writer_refuses_rightly loads _ _ _

pub returns-in_err-read-clause-every_solution : goal.returns-in_err-read-clause-every_solution
returns-in_err-read-clause-every_solution c =
    let p = err_from_is_err_and c.from_residual.result c.from_residual.ensures.1 in
    let buffer = c.args.words.now.buffer.now in
    let spans = c.args.words.now.spans in
    let S = loading c.args.system.now in
    let list = c.args.list.now in
    subst (λ r. EverySolutionWritten S buffer spans (length list) r list) (sym (p.1 ∙ ap Err p.2)) (none_refused buffer spans S (length list) c.in_err-read.field-0.0 list c.in_err-read.ensures)

pub returns-in_err-read-clause-rightly : goal.returns-in_err-read-clause-rightly
returns-in_err-read-clause-rightly c loads _ = writer_refuses_rightly loads _ _ _

pub write_rounds-requires-clause-starts : goal.write_rounds-requires-clause-starts
write_rounds-requires-clause-starts c = let s = c.args.system.now in starts _ _ (loading s) s.run c.read.new.left c.in_ok-read.ensures

pub returns-clause-list : goal.returns-clause-list
returns-clause-list c =
    let s = c.args.system.now in
    (outcome _ _ (loading s) s.run c.read.new.left c.in_ok-read.ensures c.args.list.now c.write_rounds.new.list c.write_rounds.result c.write_rounds.ensures.put).list

pub returns-clause-count : goal.returns-clause-count
returns-clause-count c =
    let s = c.args.system.now in
    (outcome _ _ (loading s) s.run c.read.new.left c.in_ok-read.ensures c.args.list.now c.write_rounds.new.list c.write_rounds.result c.write_rounds.ensures.put).count

pub returns-clause-tail : goal.returns-clause-tail
returns-clause-tail c =
    let s = c.args.system.now in
    (outcome _ _ (loading s) s.run c.read.new.left c.in_ok-read.ensures c.args.list.now c.write_rounds.new.list c.write_rounds.result c.write_rounds.ensures.put).tail

pub returns-clause-writable : goal.returns-clause-writable
returns-clause-writable c =
    let s = c.args.system.now in
    (outcome _ _ (loading s) s.run c.read.new.left c.in_ok-read.ensures c.args.list.now c.write_rounds.new.list c.write_rounds.result c.write_rounds.ensures.put).writable

pub returns-clause-every_solution : goal.returns-clause-every_solution
returns-clause-every_solution c =
    let s = c.args.system.now in
    (outcome _ _ (loading s) s.run c.read.new.left c.in_ok-read.ensures c.args.list.now c.write_rounds.new.list c.write_rounds.result c.write_rounds.ensures.put).solutions _

pub returns-clause-rightly : goal.returns-clause-rightly
returns-clause-rightly c loads _ = writer_refuses_rightly loads _ _ _
