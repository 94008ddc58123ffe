use Rattle.std.specs.Prelude.{Ok}
use Rattle.std.proofs.Common.{[], ◌∷◌, ap, sym, subst, refl}
use Rattle.hol_terms.specs.Nameless.{free, nameless, base_of}
use Rattle.hol_subst.specs.Closing.{open_with}
use Rattle.hol_formulas.specs.Formula.{Abstraction}
use Rattle.hol_goal.specs.ArgumentsView.{args_value}
use Rattle.hol_goal.specs.declared.tac_args.TacArgs.{TacArgs}
use Rattle.hol_goal.specs.declared.tac_code.TacCode.TheVariants as code
use Rattle.hol_just.specs.Answering.{AnswersCode}
use Rattle.hol_just.specs.Fresh.{fresh}
use Rattle.hol_just.specs.Leaving.{concluding, goal_terms}
use Rattle.hol_just.specs.declared.tried.Tried.{Tried}
use Rattle.hol_tac.proofs.Justified.{by_nothing}
use Rattle.hol_tac.proofs.QuantifierLaws.{gen_valid, gen_answers}
use Rattle.hol_tac.proofs.quantifiers.gen_tac.Goals as goal

pub returns-clause-valid : goal.returns-clause-valid
returns-clause-valid c =
    let x = c.in-Some.x.now in
    let name = (fresh c.args.names.now (goal_terms c.args.goal.now) (base_of x.0)).name in
    let body = nameless (x ∷ []) c.in-Some.p.now in
    by_nothing c.args.goal.now c.in_ok-step.field-0.step c.in_ok-step.field-0.step.just (concluding c.args.goal.now (open_with (free (name, x.1)) 0 body) ∷ []) refl (ap (λ r. r.0) c.in_ok-step.ensures.goals) c.args.args.now c.in-Nothing.is
    (gen_valid c.args.goal.now (nameless [] c.conclusion.result.now) c.conclusion.ensures.term c.in_ok-step.field-0.step.just (record { base = base_of x.0; domain = x.1; body = body }) (name, x.1) c.in-Some.ensures.parts refl
    c.in_ok-step.ensures.absent c.in_ok-step.ensures.just)

pub returns-clause-answer : goal.returns-clause-answer
returns-clause-answer c =
    let x = c.in-Some.x.now in
    let property : Abstraction = record { base = base_of x.0; domain = x.1; body = nameless (x ∷ []) c.in-Some.p.now } in
    let tried : Tried = record { step = c.in_ok-step.field-0.step; left = c.args.turns; tested = c.in_ok-step.field-0.tested } in
    subst (λ (a : TacArgs). AnswersCode code.GenTac (args_value a) c.args.goal.now c.args.names.now c.args.turns (Ok tried)) (sym c.in-Nothing.is)
    (gen_answers c.args.goal.now c.args.names.now c.args.turns (nameless [] c.conclusion.result.now) property tried c.conclusion.ensures.term c.in-Some.ensures.parts refl c.in_ok-step.ensures.goals)
