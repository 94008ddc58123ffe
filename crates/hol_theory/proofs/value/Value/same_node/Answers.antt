use Rattle.std.proofs.Common.{◌∙◌, sym, ap}
use Rattle.hol_theory.specs.declared.value.ValueShared.{ValueShared}
use Rattle.hol_theory.specs.Codes.{coded_entry}
use Rattle.hol_theory.proofs.value.Value.same_node.Goals as goal

-- the marks say the values, one to one
pub returns : goal.returns
returns c t =
    let own = ap (λ (s : ValueShared). s.mark) c.deref.ensures in
    let its = ap (λ (s : ValueShared). s.mark) c.deref-2.ensures in
    sym c.self.view_is ∙ coded_entry.inj _ _ (sym c.self.invariant ∙ sym own ∙ c.same.ensures t ∙ its ∙ c.other.invariant) ∙ c.other.view_is
