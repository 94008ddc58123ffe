use Rattle.std.specs.Prelude.{List, ℕ}
use Rattle.std.proofs.Common.{[], map, ◌≡◌, rules}
use Rattle.hol_subst.specs.FreeName.{is_taken}
use Rattle.hol_terms.specs.Nameless.{nameless}
use Rattle.hol_just.specs.QuantifierTacs.{terms_by}
use Rattle.hol_steps.proofs.FreshNames.{fresh_among}
use Rattle.hol_steps.proofs.choosing.chosen_variable.Goals as goal

pub returns : goal.returns
returns c =
    let terms : (a : List ℕ) → is_taken (map (nameless []) c.as_slice.result.now) a ≡ is_taken (terms_by c.args.th.now c.args.goal.now) a = search rules in
    fresh_among c.fresh_variable.result (map (nameless []) c.as_slice.result.now) (terms_by c.args.th.now c.args.goal.now) c.args.names.now c.args.x.now terms c.fresh_variable.ensures
