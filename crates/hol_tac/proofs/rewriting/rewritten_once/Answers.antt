use Rattle.std.proofs.Common.{[], List, Option, subst}
use Rattle.hol_types.specs.Tree.{TypeTree}
use Rattle.hol_terms.specs.Nameless.{Nameless}
use Rattle.hol_match.specs.Contracta.{contracta}
use Rattle.hol_match.specs.SetView.{set_rules}
use Rattle.hol_conv.specs.Once.{once}
use Rattle.hol_conv.specs.Outcomes.{Tells}
use Rattle.hol_just.specs.ConversionTacs.{rules_by}
use Rattle.hol_tac.proofs.GivenTo.{used_given}
use Rattle.hol_tac.proofs.rewriting.rewritten_once.Goals as goal

-- the rules make of each term what those of all that is given make of it
pub returns-clause-answer : goal.returns-clause-answer
returns-clause-answer c = λ givens is.
    let outcome = λ (f : List TypeTree → Nameless → Option Nameless) (n : Nameless). once f [] (λ u. u) c.args.turns n in
    let rules = contracta (set_rules c.args.rules.now.rules.items) in
    let asked = contracta (rules_by givens) in
    let tells : Tells c.once-outcome.result (outcome rules c.args.goal.now.conclusion) = subst (λ n. Tells c.once-outcome.result (outcome rules n)) c.conclusion.ensures.term c.once-outcome.ensures.tells in
    c.converted.ensures.answer (outcome asked c.args.goal.now.conclusion) c.args.turns
    (subst (λ f. Tells c.once-outcome.result (outcome f c.args.goal.now.conclusion)) is tells)

pub returns-clause-valid : goal.returns-clause-valid
returns-clause-valid c = λ givens are.
    c.converted.ensures.valid givens
    (used_given givens c.args.rules.now.rules.items c.once-outcome.result are c.once-outcome.ensures.used)
