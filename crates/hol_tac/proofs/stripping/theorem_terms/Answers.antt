use Rattle.std.proofs.Common.{[], ap, ◌∙◌}
use Rattle.hol_terms.specs.Nameless.{nameless}
use Rattle.hol_tac.proofs.StripLaws.{theorem_alike}
use Rattle.hol_tac.proofs.stripping.theorem_terms.Goals as goal

pub returns : goal.returns
returns c =
    theorem_alike c.args.th.now c.new-terms.result.items c.push.new.self.items c.add_copies.new.to.items c.hyps.result.now c.in_ok-copy.field-0 c.new-terms.ensures.items c.in_ok-push.ensures.items c.in_ok-add_copies.ensures
    (ap (nameless []) c.in_ok-copy.ensures ∙ c.concl.ensures.concl) c.hyps.ensures
