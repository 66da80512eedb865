use Rattle.std.proofs.Common.{◌≡◌, Some, None, refl, sym, ap, ◌∙◌}
use Rattle.std.specs.Option.{option_map}
use Rattle.std.proofs.lemmas.Result.{err_from_is_err_and}
use Rattle.model.specs.Witnesses.{Contents}
use Rattle.guarantee.specs.declared.CloseRefusal.TheVariants.{Fails}
use Rattle.guarantee.specs.Closing.{Meaning, close, close_detail, close_number, filled_table}
use Rattle.witness.specs.Holding.{contents_of}
use Rattle.checker.specs.declared.store.Check.{Check}
use Rattle.checker.specs.Ending.{closed, meaning}
use Rattle.checker.specs.Holding.{standing, system_of}
use Rattle.checker.proofs.Closes.{accepts, can_fill, fails_first, filled_is, guaranteed, is_filled, refuses}
use Rattle.checker.proofs.store.Check.close.Goals as goal

pub returns-in_err-finished : goal.returns-in_err-finished
returns-in_err-finished g c =
    let s : Check = c.args.self.now in
    let k = c.args.kind.now in
    let m : Meaning g.row.K-Value.Denot = meaning (g.K.Measure.single k) (g.K.Measure.nothing k) (g.K.Measure.joined k) (g.K.Measure.passed k) in
    let table = c.args.table.now in
    let old : Contents = contents_of c.args.witness.now in
    let why = c.in_err-finished.field-0.0 in
    let p = err_from_is_err_and c.from_residual.result c.from_residual.ensures.1 in
    let is : closed (Some why) table old ≡ close m (system_of s) (standing s) table old = refuses m (standing s) (system_of s) table old why c.in_err-finished.ensures.reason c.in_err-finished.ensures.untouched in
    rw (p.1, p.2) (record { answer = is; number = ap (λ r. option_map close_number r.answer) is; detail = ap (λ r. option_map close_detail r.answer) is; guarantee = guaranteed m (g.K.Measure.associative k) (g.K.Measure.neutral k) s table old _ is })

pub unwrap-requires : goal.unwrap-requires
unwrap-requires g c =
    let s : Check = c.args.self.now in
    let k = c.args.kind.now in
    let m : Meaning g.row.K-Value.Denot = meaning (g.K.Measure.single k) (g.K.Measure.nothing k) (g.K.Measure.joined k) (g.K.Measure.passed k) in
    let table = c.args.table.now in
    let new = c.fill_values.new.table in
    c.fill_values.ensures.taken ∙ can_fill m (standing s) table new c.rules.result.now c.rules.ensures.value (c.in_ok-finished.ensures.suffices refl) (λ e. c.fill_values.ensures.filled (c.fill_values.ensures.taken ∙ e)) c.rules.ensures.fit

pub first_failing-requires : goal.first_failing-requires
first_failing-requires g c =
    let s : Check = c.args.self.now in
    let k = c.args.kind.now in
    let m : Meaning g.row.K-Value.Denot = meaning (g.K.Measure.single k) (g.K.Measure.nothing k) (g.K.Measure.joined k) (g.K.Measure.passed k) in
    let table = c.args.table.now in
    let new = c.fill_values.new.table in
    is_filled m (standing s) table new c.rules.result.now c.rules.ensures.value (c.in_ok-finished.ensures.suffices refl) (λ e. c.fill_values.ensures.filled (c.fill_values.ensures.taken ∙ e)) c.rules.ensures.fit

pub returns-in-Some : goal.returns-in-Some
returns-in-Some g c =
    let s : Check = c.args.self.now in
    let k = c.args.kind.now in
    let m : Meaning g.row.K-Value.Denot = meaning (g.K.Measure.single k) (g.K.Measure.nothing k) (g.K.Measure.joined k) (g.K.Measure.passed k) in
    let table = c.args.table.now in
    let new = c.fill_values.new.table in
    let old : Contents = contents_of c.args.witness.now in
    let all : new ≡ filled_table m (standing s) table = filled_is m (standing s) table new c.rules.result.now c.rules.ensures.value (c.in_ok-finished.ensures.suffices refl) (λ e. c.fill_values.ensures.filled (c.fill_values.ensures.taken ∙ e)) c.rules.ensures.fit c.fill_values.auto.table c.fill_values.ensures.rest in
    let x = c.in-Some.x in
    let is : closed (Some (Fails x)) new old ≡ close m (system_of s) (standing s) table old = fails_first m (standing s) (system_of s) table old c.in_ok-finished.ensures.reason new all x (sym c.first_failing.ensures ∙ c.in-Some.is) in
    record { answer = is; number = ap (λ r. option_map close_number r.answer) is; detail = ap (λ r. option_map close_detail r.answer) is; guarantee = guaranteed m (g.K.Measure.associative k) (g.K.Measure.neutral k) s table old _ is }

pub returns : goal.returns
returns g c =
    let s : Check = c.args.self.now in
    let k = c.args.kind.now in
    let m : Meaning g.row.K-Value.Denot = meaning (g.K.Measure.single k) (g.K.Measure.nothing k) (g.K.Measure.joined k) (g.K.Measure.passed k) in
    let table = c.args.table.now in
    let new = c.fill_values.new.table in
    let old : Contents = contents_of c.args.witness.now in
    let all : new ≡ filled_table m (standing s) table = filled_is m (standing s) table new c.rules.result.now c.rules.ensures.value (c.in_ok-finished.ensures.suffices refl) (λ e. c.fill_values.ensures.filled (c.fill_values.ensures.taken ∙ e)) c.rules.ensures.fit c.fill_values.auto.table c.fill_values.ensures.rest in
    let written : Contents = contents_of c.write.new.witness in
    let is : closed None new written ≡ close m (system_of s) (standing s) table old = accepts m (standing s) (system_of s) table old c.in_ok-finished.ensures.reason new all written (sym c.first_failing.ensures ∙ c.in_default.is) c.write.ensures in
    record { answer = is; number = ap (λ r. option_map close_number r.answer) is; detail = ap (λ r. option_map close_detail r.answer) is; guarantee = guaranteed m (g.K.Measure.associative k) (g.K.Measure.neutral k) s table old _ is }
