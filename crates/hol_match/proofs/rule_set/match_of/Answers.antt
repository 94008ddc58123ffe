use Rattle.std.proofs.Common.{◌∙◌, sym, []}
use Rattle.hol_terms.specs.Nameless.{nameless}
use Rattle.hol_match.specs.SetView.{set_rule}
use Rattle.hol_match.proofs.Outlines.{fit_apart}
use Rattle.hol_match.proofs.rule_set.match_of.Goals as goal

pub returns-then-not-may_match-clause-fit : goal.returns-then-not-may_match-clause-fit
returns-then-not-may_match-clause-fit c =
    fit_apart (set_rule c.args.rule.now) (nameless [] c.left-left.result.now) (nameless [] c.args.t.now)
    c.left-left.ensures.side (sym c.may_match.ensures ∙ c.if-not-may_match.true)
