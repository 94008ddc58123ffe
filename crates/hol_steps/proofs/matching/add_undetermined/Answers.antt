use Rattle.std.proofs.Common.{◌≡◌, ◌++◌, ◌∷◌, [], rules}
use Rattle.hol_terms.specs.Nameless.{nameless}
use Rattle.hol_subst.specs.Substitution.{variable_inst}
use Rattle.hol_steps.proofs.Undetermined.{determined, not_determined}
use Rattle.hol_steps.proofs.matching.add_undetermined.Goals as goal

pub returns-then-not-is_undetermined : goal.returns-then-not-is_undetermined
returns-then-not-is_undetermined c =
    determined c.args.found.now.types (nameless [] c.args.s.now) (nameless [] c.args.t.now) c.args.rest.now.items c.args.v.now c.if-not-is_undetermined.ensures

pub returns : goal.returns
returns c =
    let is : c.in_ok-own.own ≡ variable_inst c.args.found.now.types c.args.v.now = search rules in
    let push : c.push.new.self.items ≡ c.args.rest.now.items ++ c.in_ok-own.own ∷ [] = search rules in
    not_determined c.args.found.now.types (nameless [] c.args.s.now) (nameless [] c.args.t.now) c.args.rest.now.items c.push.new.self.items c.args.v.now c.in_ok-own.own c.if-not-is_undetermined.ensures is push
