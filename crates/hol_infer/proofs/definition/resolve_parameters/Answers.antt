use Rattle.std.proofs.Common.{◌≡◌, ◌∙◌, ℕ, List, [], ap, sym, true, false}
use Rattle.std.proofs.lemmas.Result.{IfOk-weaker, IfErr-weaker}
use Rattle.hol_types.specs.Tree.{TypeTree}
use Rattle.hol_notation_terms.specs.Text.{VariableText, DefinitionText}
use Rattle.hol_typing.specs.RawView.{raw_tree}
use Rattle.hol_infer.specs.declared.resolving.ResolveError.TheVariants.{Arity}
use Rattle.hol_infer.specs.Resolving.{value_raw, value_has_arities, definition_has_arities, without}
use Rattle.hol_infer.proofs.definition.resolve_parameters.Goals as goal

-- the fields that the code reads are those of the definition's text
pub returns-clause-ok : goal.returns-clause-ok
returns-clause-ok c =
    let others : c.deref.result.now ≡ without c.args.definition.now.name c.args.constants.now =
    c.deref.ensures.value ∙ c.in_ok-others.ensures ∙ ap (λ (name : List ℕ). without name c.args.constants.now) (c.as_str.ensures.value ∙ ap (λ (d : DefinitionText). d.name) c.definition.view_is) in
    let right : value_has_arities c.args.arities.now c.deref-2.result.now c.definition.inside.right ≡ definition_has_arities c.args.arities.now c.args.definition.now =
    ap (λ (vs : List VariableText). value_has_arities c.args.arities.now vs c.definition.inside.right) c.deref-2.ensures.value
    ∙ ap (λ (d : DefinitionText). value_has_arities c.args.arities.now d.parameters d.right) c.definition.view_is in
    let value : value_raw c.args.arities.now c.deref.result.now [] c.deref-2.result.now c.definition.inside.right ≡ value_raw c.args.arities.now (without c.args.definition.now.name c.args.constants.now) [] c.args.definition.now.parameters c.args.definition.now.right =
    ap (λ (vs : List VariableText). value_raw c.args.arities.now c.deref.result.now [] vs c.definition.inside.right) c.deref-2.ensures.value
    ∙ ap (λ (d : DefinitionText). value_raw c.args.arities.now c.deref.result.now [] d.parameters d.right) c.definition.view_is
    ∙ ap (λ (o : List (List ℕ × TypeTree)). value_raw c.args.arities.now o [] c.args.definition.now.parameters c.args.definition.now.right) others in
    IfOk-weaker c.resolve_value.result
    (λ t. (raw_tree t.value ≡ value_raw c.args.arities.now c.deref.result.now [] c.deref-2.result.now c.definition.inside.right) × (value_has_arities c.args.arities.now c.deref-2.result.now c.definition.inside.right ≡ true))
    (λ t. (raw_tree t.value ≡ value_raw c.args.arities.now (without c.args.definition.now.name c.args.constants.now) [] c.args.definition.now.parameters c.args.definition.now.right) × (definition_has_arities c.args.arities.now c.args.definition.now ≡ true))
    (λ t h. (h.0 ∙ value, sym right ∙ h.1))
    c.resolve_value.ensures.ok

pub returns-clause-arity : goal.returns-clause-arity
returns-clause-arity c =
    let right : value_has_arities c.args.arities.now c.deref-2.result.now c.definition.inside.right ≡ definition_has_arities c.args.arities.now c.args.definition.now =
    ap (λ (vs : List VariableText). value_has_arities c.args.arities.now vs c.definition.inside.right) c.deref-2.ensures.value
    ∙ ap (λ (d : DefinitionText). value_has_arities c.args.arities.now d.parameters d.right) c.definition.view_is in
    IfErr-weaker c.resolve_value.result
    (λ e. e ≡ Arity → value_has_arities c.args.arities.now c.deref-2.result.now c.definition.inside.right ≡ false)
    (λ e. e ≡ Arity → definition_has_arities c.args.arities.now c.args.definition.now ≡ false)
    (λ e h is. sym right ∙ h is)
    c.resolve_value.ensures.arity
