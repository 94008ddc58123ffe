use Rattle.std.proofs.Common.{[], map, ap, ◌∙◌}
use Rattle.std.proofs.lemmas.Result.{IfOk-weaker}
use Rattle.hol_terms.specs.Nameless.{nameless}
use Rattle.hol_subst.specs.Substitution.{variable_inst}
use Rattle.hol_subst.specs.Variant.{is_free_in}
use Rattle.hol_subst.proofs.Alike.{variant_at}
use Rattle.hol_subst.proofs.instances.new_binder.Goals as goal

pub returns-clause-is : goal.returns-clause-is
returns-clause-is c =
    IfOk-weaker c.variant.result _ _
    (λ u h. variant_at _ _ _ (variable_inst c.args.types.now c.args.v.now) u (c.in_ok-own.ensures.is ∙ ap (λ ps. variable_inst ps c.args.v.now) c.in_ok-others.ensures.kept) (λ w e. ap (λ ts. is_free_in (map (λ t. nameless [] t) ts) w) c.deref.ensures.value ∙ c.in_ok-others.ensures.is w e) h)
    c.variant.ensures
