use Rattle.std.proofs.Common.{◌≡◌, ℕ, ◌<◌, ◌≤◌, length, Some, None, Option, refl, ap, ◌∙◌, subst, arith}
use Rattle.std.proofs.lemmas.List.{length-reverse}
use Rattle.systems.specs.Sides.{stands_in}
use Rattle.systems.specs.Standings.{Standing, fresh, live}
use Rattle.sides.specs.Seeking.{First, FirstUnequal}
use Rattle.writing.specs.Writer.{first, variables}
use Rattle.checker.specs.declared.store.Check.{Check}
use Rattle.checker.specs.Holding.{standing}
use Rattle.checker.proofs.Ends.{by_live, by_room, by_sides, differing_is, first_is}
use Rattle.checker.proofs.Formed.{low_where_live}
use Rattle.checker.proofs.store.Check.finished.Goals as goal

-- the first live variable of a check
lives : (c : Check) (o : Option ℕ) → First o (live (standing c)) → first (live (standing c)) variables ≡ o
lives c o h = first_is (live (standing c)) (low_where_live (standing c) c.system c.run) o h

pub returns-then-room-rules : goal.returns-then-room-rules
returns-then-room-rules c =
    let S : Standing = standing c.args.self.now in
    let short : c.args.room < fresh S = omega (arith, c.if-room-rules.true, length-reverse c.rules.result.now, ap length c.rules.ensures.value) in
    record { reason = by_room S c.args.room short; untouched = refl; suffices = λ e. absurd (grind arith) }

pub returns-in-Some : goal.returns-in-Some
returns-in-Some c =
    let s : Check = c.args.self.now in
    let S : Standing = standing s in
    let fits : fresh S ≤ c.args.room = omega (arith, c.if-room-rules.false, length-reverse c.rules.result.now, ap length c.rules.ensures.value) in
    let o = c.first_live.result in
    let h : First o (live S) = subst (λ E. First o (stands_in E)) c.sides-sides.ensures c.first_live.ensures in
    record { reason = by_live S c.args.room fits o (lives s o h) c.in-Some.x c.in-Some.is; untouched = refl; suffices = λ _. fits }

pub returns-in-Some-first_unequal : goal.returns-in-Some-first_unequal
returns-in-Some-first_unequal c =
    let s : Check = c.args.self.now in
    let S : Standing = standing s in
    let fits : fresh S ≤ c.args.room = omega (arith, c.if-room-rules.false, length-reverse c.rules.result.now, ap length c.rules.ensures.value) in
    let o = c.first_live.result in
    let k = c.first_unequal.result in
    let h : First o (live S) = subst (λ E. First o (stands_in E)) c.sides-sides.ensures c.first_live.ensures in
    let d : FirstUnequal k S.equations = subst (FirstUnequal k) c.sides-sides.ensures c.first_unequal.ensures.value in
    record { reason = by_sides S c.args.room fits o (lives s o h) (Some c.in-Some-first_unequal.i) c.in_default.is (differing_is S.equations k d ∙ c.in-Some-first_unequal.is); untouched = refl; suffices = λ _. fits }

pub returns : goal.returns
returns c =
    let s : Check = c.args.self.now in
    let S : Standing = standing s in
    let fits : fresh S ≤ c.args.room = omega (arith, c.if-room-rules.false, length-reverse c.rules.result.now, ap length c.rules.ensures.value) in
    let o = c.first_live.result in
    let k = c.first_unequal.result in
    let h : First o (live S) = subst (λ E. First o (stands_in E)) c.sides-sides.ensures c.first_live.ensures in
    let d : FirstUnequal k S.equations = subst (FirstUnequal k) c.sides-sides.ensures c.first_unequal.ensures.value in
    record { reason = by_sides S c.args.room fits o (lives s o h) None c.in_default.is (differing_is S.equations k d ∙ c.in_default-first_unequal.is); untouched = tt; suffices = λ _. fits }
