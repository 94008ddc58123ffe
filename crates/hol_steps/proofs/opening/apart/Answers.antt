use Rattle.std.proofs.Common.{◌≡◌, rules}
use Rattle.hol_terms.specs.Nameless.{base_of}
use Rattle.hol_steps.proofs.Stages.{apart_is, apart_absent}
use Rattle.hol_steps.proofs.opening.apart.Goals as goal

pub returns-clause-is : goal.returns-clause-is
returns-clause-is c =
    let base : c.in_ok-base.base ≡ base_of c.args.x.now.0 = search rules in
    apart_is c.new-2.result c.args.avoid.now c.args.x.now c.in_ok-base.base c.in_ok-name.name c.ty.result.now base c.in_ok-name.ensures c.ty.ensures c.new-2.ensures

pub returns-clause-absent : goal.returns-clause-absent
returns-clause-absent c = apart_absent c.new-2.result c.args.avoid.now c.in_ok-base.base c.in_ok-name.name c.ty.result.now c.in_ok-name.ensures c.new-2.ensures
