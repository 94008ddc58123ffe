use Rattle.std.proofs.Common.{◌∙◌, sym}
use Rattle.hol_types.specs.Code.{type_inj}
use Rattle.hol_typing.proofs.scheme.Scheme.has_mark_of.Goals as goal

-- the marks say the types, one to one
pub returns-in-Some-Some : goal.returns-in-Some-Some
returns-in-Some-Some c t =
    let mine = rw c.in-Some-Some.is-0 at c.self.invariant.2 in
    let its = rw c.in-Some-Some.is-1 at c.other.invariant.2 in
    sym c.self.view_is ∙ type_inj _ _ (sym mine ∙ sym c.deref.ensures ∙ c.same.ensures t ∙ c.deref-in-Some-Some.ensures ∙ its) ∙ c.other.view_is
