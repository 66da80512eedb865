use Rattle.std.proofs.Common.{◌≡◌, [], length, MatchOption, sym, ap, ◌∙◌, subst, true-eqb, rules}
use Rattle.std.specs.Option.{option_map}
use Rattle.std.proofs.lemmas.List.{nil_from_length}
use Rattle.std.proofs.lemmas.Bool.{both_ways, eq-eqb}
use Rattle.format.specs.Steps.{Stuck}
use Rattle.witness.specs.Holding.{contents_of}
use Rattle.listing.specs.Stages.{Even, Led, state_of}
use Rattle.listing.specs.declared.reading.Stage.TheVariants.{Rules, Gap, Variables}
use Rattle.listing.proofs.Passing.{led_empty, read_rules, read_variables}
use Rattle.listing.proofs.reading.read_line.Goals as goal

pub returns-in-Rules : goal.returns-in-Rules
returns-in-Rules c =
    let d = contents_of c.args.witness.now in
    let none : c.args.line.now ≡ [] = nil_from_length c.args.line.now (true-eqb _ 0 c.if-is_empty.ensures) in
    subst (λ s. Led s d c.args.line.now Gap d) (sym c.in-Rules.is) (led_empty d c.args.line.now (subst (λ s. Even s d) c.in-Rules.is c.requires) none)

pub returns-in-Rules-2 : goal.returns-in-Rules-2
returns-in-Rules-2 c =
    let d = contents_of c.args.witness.now in
    let l = c.args.line.now in
    let new = contents_of c.read_rule.new.witness in
    let some : l ≡ [] → ⊥ = λ e. both_ways c.is_empty.result c.if-is_empty.false (c.is_empty.ensures ∙ eq-eqb (length l) 0 (ap length e)) in
    let to : c.map.result ≡ option_map (λ _. Rules) c.read_rule.result = search rules in
    rw to (subst (λ s. MatchOption (option_map (λ _. Rules) c.read_rule.result) (Stuck (state_of s d) l) (λ next. Led s d l next new)) (sym c.in-Rules-2.is) (read_rules d l new c.read_rule.result (subst (λ s. Even s d) c.in-Rules-2.is c.requires) some c.read_rule.ensures))

pub returns-in-Variables : goal.returns-in-Variables
returns-in-Variables c =
    let d = contents_of c.args.witness.now in
    let l = c.args.line.now in
    let new = contents_of c.read_entry.new.witness in
    let to : c.map-in-Variables.result ≡ option_map (λ _. Variables) c.read_entry.result = search rules in
    rw to (subst (λ s. MatchOption (option_map (λ _. Variables) c.read_entry.result) (Stuck (state_of s d) l) (λ next. Led s d l next new)) (sym c.in-Variables.is) (read_variables d l new c.read_entry.result c.read_entry.ensures))
