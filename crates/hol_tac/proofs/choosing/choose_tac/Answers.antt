use Rattle.std.specs.Prelude.{List, ℕ, Ok}
use Rattle.std.proofs.Common.{[], ◌∷◌, ap, sym, subst, refl}
use Rattle.hol_types.specs.Tree.{TypeTree}
use Rattle.hol_terms.specs.Nameless.{free, nameless, base_of}
use Rattle.hol_just.specs.Fresh.{fresh}
use Rattle.hol_just.specs.QuantifierTacs.{terms_by, assuming_of}
use Rattle.hol_formulas.specs.Formula.{Abstraction}
use Rattle.hol_goal.specs.ArgumentsView.{args_value}
use Rattle.hol_goal.specs.declared.tac_args.TacArgs.{TacArgs}
use Rattle.hol_goal.specs.declared.tac_code.TacCode.TheVariants as code
use Rattle.hol_just.specs.Answering.{AnswersCode}
use Rattle.hol_just.specs.declared.tried.Tried.{Tried}
use Rattle.hol_tac.proofs.Justified.{by_theorem_among}
use Rattle.hol_tac.proofs.ChoosingLaws.{chosen_valid, choose_answers}
use Rattle.hol_tac.proofs.choosing.choose_tac.Goals as goal

pub returns-clause-valid : goal.returns-clause-valid
returns-clause-valid c =
    let x = c.in-Some.x.now in
    let th = c.in-Theorem.th in
    let v : List ℕ × TypeTree = ((fresh c.args.names.now (terms_by th c.args.goal.now) (base_of x.0)).name, x.1) in
    let property : Abstraction = record { base = base_of x.0; domain = x.1; body = nameless (x ∷ []) c.in-Some.p.now } in
    by_theorem_among c.args.goal.now c.in_ok-step.field-0.step c.in_ok-step.field-0.step.just (assuming_of c.args.goal.now (free v) property ∷ []) refl (ap (λ r. r.0) c.in_ok-step.ensures.goals) c.args.args.now th c.in-Theorem.is
    (chosen_valid th c.args.goal.now (nameless [] c.concl.result.now) property v c.in_ok-step.field-0.step.just c.concl.ensures.concl c.in-Some.ensures.parts refl c.in_ok-step.ensures.absent c.in_ok-step.ensures.just)

pub returns-clause-answer : goal.returns-clause-answer
returns-clause-answer c =
    let x = c.in-Some.x.now in
    let th = c.in-Theorem.th in
    let property : Abstraction = record { base = base_of x.0; domain = x.1; body = nameless (x ∷ []) c.in-Some.p.now } in
    let tried : Tried = record { step = c.in_ok-step.field-0.step; left = c.args.turns; tested = c.in_ok-step.field-0.tested } in
    subst (λ (a : TacArgs). AnswersCode code.ChooseTac (args_value a) c.args.goal.now c.args.names.now c.args.turns (Ok tried)) (sym c.in-Theorem.is)
    (choose_answers th c.args.goal.now c.args.names.now c.args.turns (nameless [] c.concl.result.now) property tried c.concl.ensures.concl c.in-Some.ensures.parts refl c.in_ok-step.ensures.goals)
