use Rattle.std.proofs.Common.{ap}
use Rattle.std.specs.Option.{option_map}
use Rattle.systems.specs.Refusals.{load_number}
use Rattle.checker.proofs.Runs.{load_more, some_load_more}
use Rattle.checker.proofs.store.System.load.Goals as goal

pub invariant_of-self : goal.invariant_of-self
invariant_of-self c =
    let old = c.args.self.now in
    record {
      run = some_load_more c.args.left.now c.args.right.now old.stand c.load.new.self old.run c.load.ensures.stands;
    }

pub returns : goal.returns
returns c =
    let old = c.args.self.now in
    record {
      refusal = c.load.ensures.refusal;
      number = ap (option_map load_number) c.load.ensures.refusal;
      stands = c.load.ensures.stands;
      run = λ loads run. load_more loads c.args.left.now c.args.right.now old.stand c.load.new.self run c.load.ensures.stands;
    }
