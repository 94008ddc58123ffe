use Rattle.std.proofs.Common.{◌≡◌, sym, subst, rules}
use Rattle.hol_typing.specs.declared.scheme.Variables.TheVariants.{Distinct}
use Rattle.hol_typing.proofs.Linear.{apart_args, linear_args, linear_whole}
use Rattle.hol_typing.specs.Linear.{IsLinearBut}
use Rattle.hol_typing.proofs.generate.Graph.applied.Goals as goal

pub split-requires-clause-apart : goal.split-requires-clause-apart
split-requires-clause-apart c =
    let distinct : c.variables-variables.result ≡ Distinct = search rules in
    apart_args c.args.args.now (linear_whole c.args.name.now c.args.args.now c.args.generic.now c.requires.parts (c.variables-variables.ensures distinct))

pub split-requires-clause-linear : goal.split-requires-clause-linear
split-requires-clause-linear c = λ distinct. linear_args c.args.args.now (linear_whole c.args.name.now c.args.args.now c.args.generic.now c.requires.parts (c.variables-variables.ensures distinct))

pub tied-requires-clause-linear : goal.tied-requires-clause-linear
tied-requires-clause-linear c = subst (IsLinearBut c.in-Some.names.now.value.items) (sym c.requires.parts) c.in-Some.ensures.0
