use Rattle.std.proofs.Common.{ap, sym, ◌∙◌, subst}
use Rattle.hol_kernel.specs.Items.{Items, IsSubset}
use Rattle.hol_kernel.specs.declared.error.Rule.TheVariants as rule
use Rattle.hol_kernel.proofs.Subsets.{within_itself}
use Rattle.hol_exec.proofs.NewNames.{only_memory}
use Rattle.hol_exec.proofs.MadeKeys.{type_define_named}
use Rattle.hol_exec.proofs.declaring.made.type_defined.Goals as goal

pub new_type_definition-requires : goal.new_type_definition-requires
new_type_definition-requires c = record { within = subst (λ (b : Items). IsSubset c.args.member.now.basis b) (sym c.basis.ensures) (within_itself c.args.member.now.basis) }

pub memory_alone-requires : goal.memory_alone-requires
memory_alone-requires c =
    only_memory rule.TypeDefine _ c.in-Err.error c.in-Err.ensures.refused
    (λ refused. refused (record { basis = c.requires.some.0; abs_rep = c.requires.some.1.0; rep_abs = c.requires.some.1.1.0 })
    (type_define_named _ _ _ _ _ _ _ _ c.args.member.now c.requires.some.1.0 c.requires.some.1.1.0 c.requires.some.0 (sym c.basis.ensures)
    (ap (λ d. d.ty) (sym c.definition.view_is) ∙ sym (c.in_ok-name.ensures ∙ c.as_str.ensures.value))
    (ap (λ d. d.abs) (sym c.definition.view_is) ∙ sym (c.in_ok-abs.ensures ∙ c.as_str-2.ensures.value))
    (ap (λ d. d.rep) (sym c.definition.view_is) ∙ sym (c.in_ok-rep.ensures ∙ c.as_str-3.ensures.value)) c.requires.some.1.1.1))
