use Rattle.std.proofs.Common.{◌≡◌, ℕ, ◌<◌, Ok, true, false, refl, inr, arith}
use Rattle.std.proofs.lemmas.Result.{MatchResult-at_ok}
use Rattle.runner.proofs.Listing.{flag_is, least_set, most_set, flag_set, order_of, disorder_own, order_own}
use Rattle.runner.proofs.limits.Limits.set_row.Goals as goal

pub returns-then-self-x : goal.returns-then-self-x
returns-then-self-x c = λ rows holds.
    let row = c.in_ok-row.row in
    let ok : c.read_limit.result ≡ Ok row = grind arith in
    let is = MatchResult-at_ok _ _ _ ok c.read_limit.ensures in
    (refl, inr (row, is, flag_is c.args.self.now.listed rows row.variable c.from-x.result true holds.listed c.from-x.ensures is.0.0 c.if-self-x.true, refl))

pub returns-in-Err : goal.returns-in-Err
returns-in-Err c = λ rows holds.
    let row = c.in_ok-row.row in
    let ok : c.read_limit.result ≡ Ok row = grind arith in
    let is = MatchResult-at_ok _ _ _ ok c.read_limit.ensures in
    let new = flag_is c.args.self.now.listed rows row.variable c.from-x.result false holds.listed c.from-x.ensures is.0.0 c.if-self-x.false in
    let bad = c.in-Err.ensures.1 in
    (refl, (row, is, new, disorder_own _ _ rows row bad.0 (least_set c.args.self.now.least rows row c.from-x.result holds.least new c.from-x.ensures is.0.0) (most_set c.args.self.now.most rows row c.from-x.result holds.most new c.from-x.ensures is.0.0) new holds.in_order bad.1 bad.2))

pub returns-in-Ok : goal.returns-in-Ok
returns-in-Ok c = λ rows holds.
    let row = c.in_ok-row.row in
    let ok : c.read_limit.result ≡ Ok row = grind arith in
    let is = MatchResult-at_ok _ _ _ ok c.read_limit.ensures in
    let new = flag_is c.args.self.now.listed rows row.variable c.from-x.result false holds.listed c.from-x.ensures is.0.0 c.if-self-x.false in
    let kind = c.in-Ok.ensures in
    let least = least_set c.args.self.now.least rows row c.from-x.result holds.least new c.from-x.ensures is.0.0 in
    let most = most_set c.args.self.now.most rows row c.from-x.result holds.most new c.from-x.ensures is.0.0 in
    let order = λ (x : ℕ) (lt : x < 26). order_of _ _ _ x least most lt (kind.2 x lt) in
    record {
      l = row;
      is = is;
      new = new;
      in_order = order_own rows row new (order row.variable is.0.0);
      holds = record {
        least = least;
        most = most;
        listed = flag_set c.args.self.now.listed rows row c.from-x.result holds.listed c.from-x.ensures is.0.0;
        kind_least = kind.0;
        kind_most = kind.1;
        in_order = order;
      };
    }
