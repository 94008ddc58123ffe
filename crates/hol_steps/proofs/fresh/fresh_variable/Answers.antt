use Rattle.std.proofs.Common.{◌≡◌, [], map, rules}
use Rattle.hol_terms.specs.Nameless.{nameless, base_of}
use Rattle.hol_steps.proofs.FreshNames.{fresh_variable_is}
use Rattle.hol_steps.proofs.fresh.fresh_variable.Goals as goal

pub returns : goal.returns
returns c =
    let found = c.in_ok-name.field-0 in
    let based : c.in_ok-base.base ≡ base_of c.args.x.now.0 = search rules in
    let is : c.in_ok-new.field-0 ≡ (found.name, c.ty.result.now) = search rules in
    fresh_variable_is c.args.names.now (map (nameless []) c.args.avoid.now) c.args.x.now c.in_ok-new.field-0 c.in_ok-base.base found.name found.tested.items c.ty.result.now based c.ty.ensures is c.in_ok-name.ensures.is c.in_ok-name.ensures.absent
