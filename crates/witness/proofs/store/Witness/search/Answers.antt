use Rattle.std.proofs.Common.{rules, ◌≡◌, ◌-◌, ◌≤◌, leb, length, take, sym, subst, arith}
use Rattle.std.proofs.lemmas.List.Sorted.{IsPartitionPoint-from_clause, IsPartitionedBy-leb}
use Rattle.letters.specs.Holding.{rules_of}
use Rattle.witness.specs.Rows.{Found}
use Rattle.witness.specs.Seats.{Counted}
use Rattle.witness.proofs.Counting.{before, ends_rise, point_found}
use Rattle.witness.proofs.store.Witness.search.Goals as goal

-- where the closure's test changes over, the place is found
found : (c : goal.After-upto) → (before (rules_of c.args.self.now.made) c.args.self.now.letters c.partition_point-index.result ≤ c.args.place) × Found (rules_of c.args.self.now.made) (take c.args.end c.args.self.now.letters) c.args.place c.partition_point-index.result (c.args.place - before (rules_of c.args.self.now.made) c.args.self.now.letters c.partition_point-index.result)
found c =
    let s = c.args.self.now in
    let known_rules = rules_of s.made in
    let shown = subst (λ ends. (length ends ≡ length s.letters) × Counted known_rules s.letters ends) (sym c.as_slice.ensures.value) (s.level, s.counted) in
    let rise = ends_rise known_rules s.letters c.as_slice.result.now c.args.end c.args.place shown.0 shown.1 c.requires in
    let parted = IsPartitionedBy-leb (λ n. n) _ c.args.place rise in
    let point = IsPartitionPoint-from_clause (λ n. leb n c.args.place) _ _ c.partition_point-index.ensures.partitioned parted (λ a r q k. search rules) in
    point_found known_rules s.letters c.as_slice.result.now c.args.end c.args.place shown.0 shown.1 c.requires c.partition_point-index.result c.partition_point-index.ensures.bound point

pub overflow_sub-result : goal.overflow_sub-result
overflow_sub-result c = omega (arith, (found c).0, c.upto.ensures)

pub returns : goal.returns
returns c =
    let s = c.args.self.now in
    subst (λ n. Found (rules_of s.made) (take c.args.end s.letters) c.args.place c.partition_point-index.result (c.args.place - n)) (sym c.upto.ensures) (found c).1
