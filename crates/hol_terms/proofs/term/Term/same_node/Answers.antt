use Rattle.std.proofs.Common.{◌∙◌, sym, ap}
use Rattle.hol_terms.specs.declared.term.TermShared.{TermShared}
use Rattle.hol_terms.specs.Code.{named_inj}
use Rattle.hol_terms.proofs.term.Term.same_node.Goals as goal

-- the marks say the terms, one to one
pub returns : goal.returns
returns c t =
    let own = ap (λ (s : TermShared). s.mark) c.deref.ensures in
    let its = ap (λ (s : TermShared). s.mark) c.deref-2.ensures in
    sym c.self.view_is ∙ named_inj _ _ (sym c.self.invariant.0 ∙ sym own ∙ c.same.ensures t ∙ its ∙ c.other.invariant.0) ∙ c.other.view_is
