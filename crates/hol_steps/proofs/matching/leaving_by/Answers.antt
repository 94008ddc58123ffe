use Rattle.std.proofs.Common.{[], ◌++◌, List, ap, sym, ◌∙◌, refl}
use Rattle.std.specs.Prelude.{ℕ, is_some}
use Rattle.std.proofs.lemmas.List.{append-nil}
use Rattle.std.proofs.lemmas.Result.{IfOk-weaker}
use Rattle.hol_types.specs.Tree.{TypeTree}
use Rattle.hol_terms.specs.Nameless.{nameless}
use Rattle.hol_just.specs.Matching.{bound_variables}
use Rattle.hol_just.proofs.MatchApplied.{no_variables}
use Rattle.hol_steps.specs.Matching.{LeavesByGeneral}
use Rattle.hol_steps.proofs.MatchMpLaws.{leaves_as}
use Rattle.hol_steps.proofs.matching.leaving_by.Goals as goal

pub returns : goal.returns
returns c =
    let body = c.args.opened.now.body in
    let vs = c.args.opened.now.variables.items in
    let us = c.args.variables.now in
    let p = nameless [] c.args.premise.now in
    let w = c.args.goal.now.conclusion in
    let none = no_variables body (sym (ap is_some c.requires.last)) in
    let named =
    c.in_ok-formula.ensures.bound ∙ ap (λ (ns : List (List ℕ × TypeTree)). ns ++ bound_variables body) c.deref.ensures.value
    ∙ ap (λ (ns : List (List ℕ × TypeTree)). vs ++ ns) none ∙ append-nil vs in
    IfOk-weaker c.match_mp_tac-just.result _ (LeavesByGeneral c.args.th.now vs us p w)
    (λ just made. record {
      general = c.in_ok-general.general;
      is = c.in_ok-general.ensures;
      formula = c.conclusion_typed.ensures;
      leaves = leaves_as c.in_ok-general.general (bound_variables c.in_ok-formula.formula) vs us us p p (nameless [] c.conclusion.result.now) w just named refl refl c.conclusion.ensures.term made;
    })
    c.match_mp_tac-just.ensures
