use Rattle.std.proofs.Common.{refl, ap}
use Rattle.std.specs.Option.{option_map}
use Rattle.systems.specs.Refusals.{choice_detail, choice_number}
use Rattle.checker.proofs.Runs.{choice_more, some_choice_more}
use Rattle.checker.proofs.store.Check.choose.Goals as goal

pub invariant_of-self : goal.invariant_of-self
invariant_of-self c =
    let old = c.args.self.now in
    record {
      run = some_choice_more c.args.choice old.stand c.choose.new.self old.system old.run c.choose.ensures.stands;
    }

pub returns : goal.returns
returns c =
    let old = c.args.self.now in
    record {
      refusal = c.choose.ensures.refusal;
      number = ap (option_map choice_number) c.choose.ensures.refusal;
      detail = ap (option_map choice_detail) c.choose.ensures.refusal;
      stands = c.choose.ensures.stands;
      system = refl;
      run = λ loads choices run. choice_more loads choices c.args.choice old.stand c.choose.new.self old.system run c.choose.ensures.stands;
    }
