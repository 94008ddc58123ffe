use Rattle.std.proofs.Common.{◌∙◌, sym, ap}
use Rattle.hol_kernel.specs.declared.basis.BasisShared.{BasisShared}
use Rattle.hol_kernel.specs.Items.{items_code}
use Rattle.hol_kernel.proofs.basis.Basis.same_node.Goals as goal

-- the marks say the sets, one to one
pub returns : goal.returns
returns c t =
    let own = ap (λ (s : BasisShared). s.mark) c.deref.ensures in
    let its = ap (λ (s : BasisShared). s.mark) c.deref-2.ensures in
    sym c.self.view_is ∙ items_code.inj _ _ (sym c.self.invariant.0 ∙ sym own ∙ c.same.ensures t ∙ its ∙ c.other.invariant.0) ∙ c.other.view_is
