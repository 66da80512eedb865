use Rattle.std.proofs.Common.{ap, length, rules, sym, subst, arith}
use Rattle.systems.specs.Sides.{Words}
use Rattle.writing.specs.Writer.{State}
use Rattle.model.specs.Buffers.{Put}
use Rattle.writing.specs.Records.{records_of}
use Rattle.writing.specs.Turns.{list_of, turns_enough}
use Rattle.writer.specs.Following.{Starts}
use Rattle.writer.proofs.Turning.{starts_at, starts_ready}
use Rattle.writer.proofs.turns.write_rounds.Goals as goal

pub write-requires : goal.write-requires
write-requires c =
    let made = c.new-draft.ensures in
    starts_ready c.new-draft.result made.none (omega (arith, ap length made.kept, c.requires.room)) (subst (λ r. ∥ ((σ : Words) × (st : State) × Starts σ r st) ∥₁) (sym made.left) c.requires.starts)

pub returns-clause-put : goal.returns-clause-put
returns-clause-put c σ st starts =
    let made = c.new-draft.ensures in
    let w = c.new-draft.result in
    let at = starts_at w σ st made.none (omega (arith, ap length made.kept, c.requires.room)) (subst (λ r. Starts σ r st) (sym made.left) starts) in
    let put = (c.write.ensures.writes σ st at).0.put in
    subst (λ new. Put c.args.list.now 0 (records_of (list_of turns_enough st)) new c.write.new.self.count) (sym (search (rules, c.write.ensures.same, made.same)))
    (subst (λ old. Put old 0 (records_of (list_of turns_enough st)) c.write.new.self.list.now c.write.new.self.count) made.kept
    (subst (λ k. Put w.list.now k (records_of (list_of turns_enough st)) c.write.new.self.list.now c.write.new.self.count) made.none put))
