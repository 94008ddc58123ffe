use Rattle.std.specs.FinSet as set
use Rattle.std.proofs.Common.{[], ◌∷◌, ◌≡◌, List, ap, sym, ◌∙◌, subst, Some, None, rules}
use Rattle.std.specs.Prelude.{ℕ}
use Rattle.hol_types.specs.Tree.{TypeTree}
use Rattle.hol_terms.specs.Nameless.{nameless}
use Rattle.hol_kernel.specs.Given.{given_sequent}
use Rattle.hol_formulas.specs.Formula.{dest_imp}
use Rattle.hol_match.specs.Fixed.{stays_of}
use Rattle.hol_match.specs.Matching.{matched}
use Rattle.hol_match.specs.Instance.{instantiated}
use Rattle.hol_just.specs.Leaving.{concluding}
use Rattle.hol_just.specs.MatchMp.{OpenedValue, left_open, completed, premise_at}
use Rattle.hol_steps.specs.Matching.{IsFound, LeavesByGeneral}
use Rattle.hol_steps.proofs.MatchMpLaws.{no_implication, no_match, leaves, justified, conclusion_apart}
use Rattle.hol_steps.proofs.matching.opened_step.Goals as goal

pub matching_instance-requires : goal.matching_instance-requires
matching_instance-requires c =
    let s = nameless [] c.in-Some.s.now in
    let t = nameless [] c.in-Some.t.now in
    let body = nameless [] c.args.under.now.body in
    let parts : dest_imp body ≡ Some (s, t) = search rules in
    conclusion_apart (set.items (given_sequent c.args.th.now).hyps) body s t parts c.requires.apart

pub returns-in_default-clause-goals : goal.returns-in_default-clause-goals
returns-in_default-clause-goals c =
    let o : OpenedValue = record { variables = c.args.under.now.variables.items; body = nameless [] c.args.under.now.body } in
    let none : dest_imp o.body ≡ None = search rules in
    no_implication c.args.th.now c.args.goal.now o c.requires.opened none

pub returns-clause-goals : goal.returns-clause-goals
returns-clause-goals c =
    let th = c.args.th.now in
    let g = c.args.goal.now in
    let o : OpenedValue = record { variables = c.args.under.now.variables.items; body = nameless [] c.args.under.now.body } in
    let s = nameless [] c.in-Some.s.now in
    let t = nameless [] c.in-Some.t.now in
    let parts : dest_imp o.body ≡ Some (s, t) = search rules in
    let found : IsFound th g t c.in-Some-2.found = search rules in
    let f = c.in-Some-2.found in
    let hs = set.items (given_sequent th).hyps in
    let own = c.requires.own in
    leaves th g o c.requires.opened s t f parts found c.requires.new
    ∙ ap Some (sym (c.in_ok-step.ensures.goals ∙ ap (λ (ns : List (List ℕ × TypeTree)). concluding g (premise_at hs ns o.variables (s, t) f) ∷ []) own))

pub returns-clause-valid : goal.returns-clause-valid
returns-clause-valid c =
    let th = c.args.th.now in
    let g = c.args.goal.now in
    let o : OpenedValue = record { variables = c.args.under.now.variables.items; body = nameless [] c.args.under.now.body } in
    let s = nameless [] c.in-Some.s.now in
    let t = nameless [] c.in-Some.t.now in
    let parts : dest_imp o.body ≡ Some (s, t) = search rules in
    let found : IsFound th g t c.in-Some-2.found = search rules in
    let f = c.in-Some-2.found in
    let hs = set.items (given_sequent th).hyps in
    let own = c.requires.own in
    justified th g o c.requires.opened c.requires.new c.requires.apart s t f parts found c.in_ok-step.step
    (subst
    (λ (ns : List (List ℕ × TypeTree)).
    LeavesByGeneral th o.variables (left_open ns o.variables (s, t) f) (instantiated (completed hs ns o.variables (s, t) f) 0 s) g.conclusion c.in_ok-step.step.just)
    own c.in_ok-step.ensures.just)
    (c.in_ok-step.ensures.goals ∙ ap (λ (ns : List (List ℕ × TypeTree)). concluding g (premise_at hs ns o.variables (s, t) f) ∷ []) own)

pub returns-in_default-2-clause-goals : goal.returns-in_default-2-clause-goals
returns-in_default-2-clause-goals c =
    let th = c.args.th.now in
    let g = c.args.goal.now in
    let o : OpenedValue = record { variables = c.args.under.now.variables.items; body = nameless [] c.args.under.now.body } in
    let s = nameless [] c.in-Some.s.now in
    let t = nameless [] c.in-Some.t.now in
    let parts : dest_imp o.body ≡ Some (s, t) = search rules in
    let none : matched 0 t (stays_of (set.items (given_sequent th).hyps)) g.conclusion ≡ None = search rules in
    no_match th g o c.requires.opened s t parts none
