use Rattle.std.proofs.Common.{rules, ◌≡◌, length, ◌==◌, false}
use Rattle.std.proofs.lemmas.Result.{on_ok_weaker}
use Rattle.hol_match.specs.Fixed.{stays}
use Rattle.hol_match.proofs.Apartness.{of_none, of_theorem}
use Rattle.hol_match.proofs.binder.add_rule_variables.Goals as goal

pub returns-then-is_empty : goal.returns-then-is_empty
returns-then-is_empty c = of_none c.args.rules.now (stays c.args.fixed.now) c.args.variables.now.items (search rules)

-- what stays is put there, and then the right sides' variables
pub returns : goal.returns
returns c =
    let some : (length c.args.rules.now == 0) ≡ false = search rules in
    on_ok_weaker c.add_right_sides.result (λ h. of_theorem c.args.rules.now (stays c.args.fixed.now) c.args.variables.now.items c.add_to.new.variables.items c.add_right_sides.new.variables.items some c.in_ok-add_to.ensures h) c.add_right_sides.ensures
