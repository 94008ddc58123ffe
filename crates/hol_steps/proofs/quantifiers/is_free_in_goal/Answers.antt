use Rattle.std.proofs.Common.{[], sym, ◌∙◌}
use Rattle.hol_terms.specs.Nameless.{nameless}
use Rattle.hol_steps.proofs.Instances.{free_elsewhere}
use Rattle.hol_steps.proofs.quantifiers.is_free_in_goal.Goals as goal

pub returns : goal.returns
returns c =
    c.is_free_in_one.ensures
    ∙ free_elsewhere c.args.goal.now (nameless [] c.conclusion.result.now) c.assumptions.result.now c.args.v.now c.conclusion.ensures.term c.assumptions.ensures.terms (sym c.if-vfree_in.ensures.free)
