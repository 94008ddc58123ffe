use Rattle.std.proofs.lemmas.List.{nil_from_length}
use Rattle.hol_steps.proofs.Undetermined.{rest_next, rest_none, rest_all}
use Rattle.hol_steps.proofs.matching.after.Goals as goal

pub own-preserved : goal.own-preserved
own-preserved c =
    rest_next c.own.own.now c.in-Some.vs.now c.in-Some.field-0-0.now c.own.rest.now c.in-Some-split_first.us.now c.args.variables.now c.in-Some-split_first.field-0-0.now c.args.own.now c.in-Some.ensures.cases.0
    c.in-Some-split_first.ensures.cases.0 c.own.invariant

pub returns : goal.returns
returns c = rest_all c.own.own.now c.own.rest.now c.args.variables.now c.args.own.now (nil_from_length c.own.own.now c.in_default.ensures.cases) c.own.invariant

pub returns-in_default-split_first : goal.returns-in_default-split_first
returns-in_default-split_first c =
    rest_none c.own.own.now c.own.rest.now c.args.variables.now c.args.own.now (nil_from_length c.own.rest.now c.in_default-split_first.ensures.cases) c.own.invariant
