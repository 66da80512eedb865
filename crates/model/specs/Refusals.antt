-- The number of each refusal. Assumes nothing.
use Rattle.std.specs.Prelude.{ℕ}
use Rattle.model.specs.declared.RuleRefusal.{RuleRefusal}
use Rattle.model.specs.declared.RuleRefusal.TheVariants.{UnknownLetter, EqualLetters, CountOutOfRange, TooManyRules, TooLong}

abbrev pub rule_number : RuleRefusal → ℕ
rule_number UnknownLetter = 12
rule_number EqualLetters = 13
rule_number CountOutOfRange = 14
rule_number TooManyRules = 22
rule_number TooLong = 24
