use Rattle.std.proofs.Common.{[], map, ap, ◌∙◌}
use Rattle.hol_terms.specs.Nameless.{nameless}
use Rattle.hol_kernel.specs.Given.{given_sequent}
use Rattle.hol_just.specs.Leaving.{goal_terms}
use Rattle.hol_steps.proofs.TermsBy.{taken_by, collected}
use Rattle.hol_steps.proofs.choosing.all_terms_by.Goals as goal

pub returns : goal.returns
returns c =
    let all = c.add_copies.new.to.items in
    let copied = c.in_ok-copy.field-0 in
    λ a. taken_by c.args.th.now c.args.goal.now (map (nameless []) all) c.hyps.result.now a c.hyps.ensures
    (collected c.in_ok-terms.terms.items c.push.new.self.items all c.hyps.result.now copied (goal_terms c.args.goal.now) (given_sequent c.args.th.now).concl c.in_ok-terms.ensures c.in_ok-push.ensures.items
    c.in_ok-add_copies.ensures (ap (nameless []) c.in_ok-copy.ensures ∙ c.concl.ensures.concl))
