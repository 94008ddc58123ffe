use Rattle.std.proofs.Common.{ap, sym, ◌∙◌, subst}
use Rattle.hol_subst.specs.Capture.{comes_in, IsRenaming}
use Rattle.hol_subst.proofs.Steps.{entry_kept, entry_renamed}
use Rattle.hol_subst.proofs.substitution.entering.Goals as goal

pub returns-then-not-comes_in : goal.returns-then-not-comes_in
returns-then-not-comes_in c =
    entry_kept c.args.pairs.now c.in_ok-rest.rest.items c.args.v.now c.args.b.now c.in_ok-copy.field-0
    c.requires c.in_ok-rest.ensures
    (ap (λ x. comes_in x c.args.v.now c.args.b.now) (sym c.deref.ensures.value) ∙ sym c.comes_in.ensures ∙ c.if-not-comes_in.true)
    c.in_ok-copy.ensures

pub returns : goal.returns
returns c =
    entry_renamed c.args.pairs.now c.in_ok-rest.rest.items c.in_ok-pairs.pairs.items c.args.v.now c.args.b.now c.in_ok-u.u
    c.requires c.in_ok-rest.ensures
    (ap (λ x. comes_in x c.args.v.now c.args.b.now) (sym c.deref.ensures.value) ∙ sym c.comes_in.ensures ∙ c.if-not-comes_in.false)
    (subst (λ x. IsRenaming x c.args.b.now c.args.v.now c.in_ok-u.u) c.deref-2.ensures.value c.in_ok-u.ensures)
    c.in_ok-pairs.ensures
