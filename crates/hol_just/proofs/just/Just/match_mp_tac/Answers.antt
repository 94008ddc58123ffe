use Rattle.std.proofs.Common.{[], ap, subst, ◌∙◌, ◌++◌}
use Rattle.hol_terms.specs.Nameless.{Nameless, nameless}
use Rattle.hol_just.specs.Gives.{moved}
use Rattle.hol_just.specs.Matching.{bound_variables}
use Rattle.hol_just.specs.Justifies.{LeavesConsequent}
use Rattle.hol_just.proofs.MatchChain.{leaves_premise}
use Rattle.hol_just.proofs.just.Just.match_mp_tac.Goals as goal

pub returns : goal.returns
returns c =
    let th = c.args.th.now in
    let own = bound_variables c.args.formula.now in
    let p = nameless [] c.args.premise.now in
    let w = nameless [] c.args.conclusion.now in
    let chosen = c.in_ok-chosen.chosen in
    leaves_premise th own p w c.args.variables.now c.in_ok-just.just c.in_ok-assuming.assuming chosen.just c.then_at.new.self c.in_ok-just.ensures
    (subst (λ (n : Nameless). LeavesConsequent n c.in_ok-assuming.assuming) c.in_ok-chosen.ensures.whole c.in_ok-assuming.ensures)
    (c.in_ok-chosen.ensures.just th own w c.in_ok-closing.ensures)
    (c.in_ok-then_at.ensures ∙ ap (λ ms. ms ++ moved 0 chosen.just) c.in_ok-just-2.ensures)
