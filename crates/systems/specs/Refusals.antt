-- Which refusal a choice meets, if any, and the number and the detail of each refusal. Assumes nothing.
use Rattle.std.specs.Prelude.{ℕ, cond, not, length, is_some, Some, None, Option, nat_le, nat_lt}
use Rattle.std.specs.Option.{option_map}
use Rattle.model.specs.declared.Rule.TheVariants.{Pair as PairRule, Block as BlockRule}
use Rattle.model.specs.declared.RuleRefusal.{RuleRefusal}
use Rattle.model.specs.Witnesses.{rule_refusal}
use Rattle.systems.specs.declared.Choice.{Choice}
use Rattle.systems.specs.declared.Choice.TheVariants.{Left, Right, Erase, Pair, Block}
use Rattle.systems.specs.declared.LoadRefusal.{LoadRefusal}
use Rattle.systems.specs.declared.ChoiceRefusal.{ChoiceRefusal}
use Rattle.systems.specs.declared.ChoiceRefusal.TheVariants.{NotLive, UnknownLetter, EqualLetters, CountOutOfRange, TooManyRules, TooManyPops, TooManyPlaces, TooLong}
use Rattle.systems.specs.declared.Detail.{Detail}
use Rattle.systems.specs.declared.Detail.TheVariants.{Variable}
use Rattle.systems.specs.Choices.{taken}
use Rattle.systems.specs.Sides.{places}
use Rattle.systems.specs.Standings.{Standing, fresh, live}
use Rattle.model.specs.declared.RuleRefusal.TheVariants as rule
use Rattle.systems.specs.declared.LoadRefusal.TheVariants as load

-- the number of each refusal
abbrev pub load_number : LoadRefusal → ℕ
load_number load.NoLetter = 1
load_number load.TooManyEquations = 2
load_number load.TooManyPlaces = 3

abbrev pub choice_number : ChoiceRefusal → ℕ
choice_number (NotLive x) = 11
choice_number UnknownLetter = 12
choice_number EqualLetters = 13
choice_number CountOutOfRange = 14
choice_number TooManyPlaces = 21
choice_number TooManyRules = 22
choice_number TooManyPops = 23
choice_number TooLong = 24

-- the variable that the refusal names, if it names one
abbrev pub choice_detail : ChoiceRefusal → Option Detail
choice_detail (NotLive x) = Some (Variable x)
choice_detail UnknownLetter = None
choice_detail EqualLetters = None
choice_detail CountOutOfRange = None
choice_detail TooManyPlaces = None
choice_detail TooManyRules = None
choice_detail TooManyPops = None
choice_detail TooLong = None

-- a choice that makes a rule is refused as the rule is
abbrev pub of_rule : RuleRefusal → ChoiceRefusal
of_rule rule.UnknownLetter = UnknownLetter
of_rule rule.EqualLetters = EqualLetters
of_rule rule.CountOutOfRange = CountOutOfRange
of_rule rule.TooManyRules = TooManyRules
of_rule rule.TooLong = TooLong

-- the first reason, in this order, why the letter a may not be popped from x, where so many places would stand then
abbrev pub pop_refusal : Standing → ℕ → ℕ → ℕ → Option ChoiceRefusal
pop_refusal S x a places_then =
    cond (not (live S x)) (Some (NotLive x))
    (cond (not (nat_lt a (fresh S))) (Some UnknownLetter)
    (cond (nat_le 1024 (length S.pops)) (Some TooManyPops)
    (cond (nat_lt 2048 places_then) (Some TooManyPlaces)
    None)))

-- the first reason why the choice may not be taken
abbrev pub choice_refusal : Standing → Choice → Option ChoiceRefusal
choice_refusal S (Left x a) = pop_refusal S x a (places (taken S (Left x a)).equations)
choice_refusal S (Right x a) = pop_refusal S x a (places (taken S (Right x a)).equations)
choice_refusal S (Erase x) = cond (not (live S x)) (Some (NotLive x)) None
choice_refusal S (Pair a b) = option_map of_rule (rule_refusal S.rules (PairRule a b))
choice_refusal S (Block a n) = option_map of_rule (rule_refusal S.rules (BlockRule a n))

-- what stands after the call, which changes nothing where it is refused
abbrev pub after_choice : Standing → Choice → Standing
after_choice S choice = cond (is_some (choice_refusal S choice)) S (taken S choice)
