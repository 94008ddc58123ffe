use Rattle.std.proofs.Common.{◌∙◌, sym, ap}
use Rattle.hol_types.specs.declared.ty.TyShared.{TyShared}
use Rattle.hol_types.specs.Code.{type_inj}
use Rattle.hol_types.proofs.ty.Ty.same_node.Goals as goal

-- the marks say the types, one to one
pub returns : goal.returns
returns c t =
    let own = ap (λ (s : TyShared). s.mark) c.deref.ensures in
    let its = ap (λ (s : TyShared). s.mark) c.deref-2.ensures in
    sym c.self.view_is ∙ type_inj _ _ (sym c.self.invariant.0 ∙ sym own ∙ c.same.ensures t ∙ its ∙ c.other.invariant.0) ∙ c.other.view_is
