use Rattle.std.proofs.Common.{◌≡◌, true, false, ◌&&◌, ltb, leb, length, refl, ap, arith, rules}
use Rattle.std.proofs.lemmas.Bool.{and_parts, lt-ltb, le-ltb, lt-leb}
use Rattle.systems.specs.Loading.{loaded_too, readable}
use Rattle.systems.specs.Sides.{places}
use Rattle.sides.specs.Holding.{only}
use Rattle.sides.proofs.Keeps.{places_loaded}
use Rattle.sides.proofs.store.Sides.load.Goals as goal

pub returns-then-saturating_add-gt-MOST_LOADED : goal.returns-then-saturating_add-gt-MOST_LOADED
returns-then-saturating_add-gt-MOST_LOADED c =
    let E = c.args.self.now in
    let l = c.args.left.now in
    let r = c.args.right.now in
    let good : (readable l && readable r) ≡ true = search rules in
    let parts = and_parts (readable l) (readable r) good in
    let then = places (loaded_too (only E) l r).equations in
    let few : leb 32 (length E) ≡ false = lt-leb 32 (length E) (omega (arith, ap length c.self.view_is)) in
    let over : ltb 1024 then ≡ true = lt-ltb 1024 then (omega (arith, places_loaded E l r parts.0 parts.1)) in
    (simp (good, few, over), refl)

pub returns : goal.returns
returns c =
    let E = c.args.self.now in
    let l = c.args.left.now in
    let r = c.args.right.now in
    let good : (readable l && readable r) ≡ true = search rules in
    let parts = and_parts (readable l) (readable r) good in
    let then = places (loaded_too (only E) l r).equations in
    let few : leb 32 (length E) ≡ false = lt-leb 32 (length E) (omega (arith, ap length c.self.view_is)) in
    let under : ltb 1024 then ≡ false = le-ltb 1024 then (omega (arith, places_loaded E l r parts.0 parts.1)) in
    (simp (good, few, under), c.add.ensures)
