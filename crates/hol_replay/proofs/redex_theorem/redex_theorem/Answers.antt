use Rattle.std.proofs.Common.{◌≡◌, ◌∙◌, [], ap, Some}
use Rattle.std.proofs.lemmas.Result.{IfOk-weaker}
use Rattle.hol_terms.specs.Nameless.{nameless}
use Rattle.hol_subst.specs.Hypotheses.{hyps_of}
use Rattle.hol_kernel.specs.Given.{given_sequent}
use Rattle.hol_match.specs.Matches.{IsMatch}
use Rattle.hol_match.specs.RuleSets.{fit}
use Rattle.hol_match.specs.SetView.{set_rule, set_given}
use Rattle.hol_replay.proofs.Known.{known_has}
use Rattle.hol_replay.proofs.Instances.{terms_fit, joined_fits, redex_is}
use Rattle.hol_replay.proofs.redex_theorem.redex_theorem.Goals as goal

pub at_instance-requires-clause-terms : goal.at_instance-requires-clause-terms
at_instance-requires-clause-terms c =
    let found : fit (set_rule c.args.rule.now) (nameless [] c.args.t.now) ≡ Some c.in-Some.found = rw c.in-Some.is at c.in_ok-found.ensures.fit in
    terms_fit c.args.basis.now c.args.rule.now c.in_ok-general.general c.in_ok-general.ensures c.args.t.now c.requires.known c.in-Some.found found

pub refl-requires : goal.refl-requires
refl-requires c = record { typed = known_has c.args.basis.now c.args.t.now c.args.ty.now c.requires.known c.requires.typed }

pub trans-requires-clause-applies : goal.trans-requires-clause-applies
trans-requires-clause-applies c =
    let R = c.args.rule.now in
    let found : fit (set_rule R) (nameless [] c.args.t.now) ≡ Some c.in-Some.found = rw c.in-Some.is at c.in_ok-found.ensures.fit in
    let matches : IsMatch (set_rule R).stays (set_rule R).rule.left (nameless [] c.args.t.now) c.in-Some.found = rw c.in-Some.is at c.in_ok-found.ensures.matches in
    let hyps : hyps_of c.hyps-hyps.result.now ≡ (given_sequent (set_given R)).hyps = c.hyps-hyps.ensures ∙ ap (λ g. (given_sequent g).hyps) c.given.ensures in
    joined_fits c.args.basis.now R c.in_ok-general.general c.in_ok-general.ensures c.args.t.now c.requires.known c.sound.ensures.source c.hyps-hyps.result.now hyps c.in-Some.found found matches c.args.ty.now c.in_ok-same.same c.in_ok-own.own c.in_ok-same.ensures c.in_ok-own.ensures

pub returns : goal.returns
returns c =
    let R = c.args.rule.now in
    let found : fit (set_rule R) (nameless [] c.args.t.now) ≡ Some c.in-Some.found = rw c.in-Some.is at c.in_ok-found.ensures.fit in
    let matches : IsMatch (set_rule R).stays (set_rule R).rule.left (nameless [] c.args.t.now) c.in-Some.found = rw c.in-Some.is at c.in_ok-found.ensures.matches in
    let hyps : hyps_of c.hyps-hyps.result.now ≡ (given_sequent (set_given R)).hyps = c.hyps-hyps.ensures ∙ ap (λ g. (given_sequent g).hyps) c.given.ensures in
    IfOk-weaker c.trans.result _ _
    (λ th e. redex_is c.args.basis.now R c.in_ok-general.general c.in_ok-general.ensures c.args.t.now c.requires.known c.sound.ensures.source c.hyps-hyps.result.now hyps c.in-Some.found found matches c.args.ty.now c.in_ok-same.same c.in_ok-own.own c.in_ok-same.ensures c.in_ok-own.ensures th e)
    c.trans.ensures
