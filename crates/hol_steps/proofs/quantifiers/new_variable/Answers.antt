use Rattle.std.specs.Prelude.{List}
use Rattle.std.proofs.Common.{[], map, ◌≡◌, ap, rules}
use Rattle.hol_subst.specs.FreeName.{is_taken}
use Rattle.hol_terms.specs.Nameless.{Nameless, nameless}
use Rattle.hol_just.specs.Leaving.{goal_terms}
use Rattle.hol_steps.proofs.FreshNames.{fresh_among}
use Rattle.hol_steps.proofs.quantifiers.new_variable.Goals as goal

pub returns : goal.returns
returns c =
    let terms : map (nameless []) c.as_slice.result.now ≡ goal_terms c.args.goal.now = search rules in
    fresh_among c.fresh_variable.result (map (nameless []) c.as_slice.result.now) (goal_terms c.args.goal.now) c.args.names.now c.args.x.now (λ a. ap (λ (ns : List Nameless). is_taken ns a) terms) c.fresh_variable.ensures
