use Rattle.std.proofs.Common.{[], ◌∷◌, sym, ◌∙◌, subst, ℕ}
use Rattle.hol_terms.specs.Nameless.{nameless}
use Rattle.hol_kernel.specs.Extends.{IsDefine}
use Rattle.hol_kernel.specs.Items.{Items}
use Rattle.hol_kernel.specs.Theorem.{Theorem}
use Rattle.hol_resolve.specs.Readings.{ATerm}
use Rattle.hol_exec.specs.Making.{formula_basis}
use Rattle.hol_exec.proofs.CitedBases.{resolved_fine}
use Rattle.hol_exec.proofs.ReadOver.{definition_over}
use Rattle.hol_exec.proofs.MadeDefinitions.{can_define}
use Rattle.hol_exec.proofs.declaring.made.defined_by.Goals as goal

pub defined-requires : goal.defined-requires
defined-requires c =
    let h = c.first_taken.ensures.theory in
    let place : ℕ = c.definition.inside.place in
    let p = nameless [] c.args.equation.now in
    subst (λ (b : Items). (larger : Items) × ((th : Theorem) × IsDefine b c.args.definition.now.name (nameless [] c.right_of-right.result.now) larger th)) (sym c.in_ok-basis.ensures)
    (can_define c.args.reads.now.cited c.args.reads.now.made h (formula_basis c.args.reads.now place p) c.args.name.now c.args.definition.now.name p c.right_of-right.result.now _
    (resolved_fine h.entries h.theory ((place, ATerm p) ∷ []) c.args.reads.now.cited h.cited_stand).0 c.requires.made (sym c.in_default.ensures.key)
    (definition_over c.args.reads.now.cited c.args.reads.now.made place c.args.definition.now p h c.requires.read) c.right_of-right.ensures c.type_of-ty.ensures.named
    (sym c.in_ok-variable.ensures ∙ c.in_default-2.is) (sym c.in_ok-variable-2.ensures ∙ c.in_default-3.is))
