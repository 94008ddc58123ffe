use Rattle.std.proofs.Common.{◌∙◌, [], ap, refl}
use Rattle.std.proofs.lemmas.Result.{IfOk-weaker}
use Rattle.hol_notation_terms.specs.Text.{DefinitionText}
use Rattle.hol_notation_terms.specs.declared.operator.Operator.TheVariants.{Equals}
use Rattle.hol_typing.specs.RawView.{raw_tree}
use Rattle.hol_infer.specs.Resolving.{without, operator_raw}
use Rattle.hol_infer.proofs.Resolved.{definition_built}
use Rattle.hol_infer.proofs.definition.resolve_definition.Goals as goal

pub returns-clause-ok : goal.returns-clause-ok
returns-clause-ok c =
    let sign = operator_raw c.args.constants.now [] Equals in
    IfOk-weaker c.applied.result _ _
    (λ t is. (
      definition_built c.args.arities.now c.args.constants.now (without c.args.definition.now.name c.args.constants.now) c.args.definition.now c.as_str.result.now
          (raw_tree t.value) (raw_tree c.in_ok-left.left.value) sign (raw_tree c.in_ok-value.value.value)
          is c.in_ok-left.ensures.ok refl (c.as_str.ensures.value ∙ ap (λ (d : DefinitionText). d.name) c.definition.view_is) c.in_ok-value.ensures.ok.0 refl,
      c.in_ok-value.ensures.ok.1,
    ))
    c.applied.ensures.ok
