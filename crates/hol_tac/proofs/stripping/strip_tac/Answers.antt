use Rattle.std.specs.Prelude.{◌≡◌, None, is_some, Err, IfOk}
use Rattle.std.proofs.Common.{[], ap, sym, ◌∙◌, subst, refl}
use Rattle.hol_terms.specs.Nameless.{Nameless, nameless}
use Rattle.hol_formulas.specs.Formula.{dest_conj, dest_forall, dest_imp, dest_neg}
use Rattle.hol_goal.specs.ArgumentsView.{args_value}
use Rattle.hol_goal.specs.declared.tac_args.TacArgs.{TacArgs}
use Rattle.hol_goal.specs.declared.tac_code.TacCode.TheVariants as code
use Rattle.hol_just.specs.Answering.{AnswersCode, IsJustified}
use Rattle.hol_just.specs.declared.tried.TacFault.TheVariants.{Refused}
use Rattle.hol_tac.proofs.StripLaws.{generalizes, splits, strips_imp, strips_neg, strips_nothing, found, not_found}
use Rattle.hol_tac.proofs.stripping.strip_tac.Goals as goal

pub returns-then-is_forall-clause-answer : goal.returns-then-is_forall-clause-answer
returns-then-is_forall-clause-answer c =
    let g = c.args.goal.now in
    let d = found (dest_forall g.conclusion) (c.if-is_forall.ensures ∙ ap (λ (t : Nameless). is_some (dest_forall t)) c.conclusion.ensures.term) in
    generalizes g c.args.names.now c.args.turns c.gen_tac.result (args_value c.args.args.now) d.0 d.1 c.gen_tac.ensures.answer

pub returns-then-is_conj-clause-answer : goal.returns-then-is_conj-clause-answer
returns-then-is_conj-clause-answer c =
    let g = c.args.goal.now in
    let none : dest_forall g.conclusion ≡ None = not_found (dest_forall g.conclusion) (c.if-is_forall.ensures ∙ ap (λ (t : Nameless). is_some (dest_forall t)) c.conclusion.ensures.term) in
    let d = found (dest_conj g.conclusion) (c.if-is_conj.ensures ∙ ap (λ (t : Nameless). is_some (dest_conj t)) c.conclusion-2.ensures.term) in
    splits g c.args.names.now c.args.turns c.conj_tac.result (args_value c.args.args.now) d.0 none d.1 c.conj_tac.ensures.answer

pub returns-in-Some-clause-answer : goal.returns-in-Some-clause-answer
returns-in-Some-clause-answer c =
    let g = c.args.goal.now in
    let none : dest_forall g.conclusion ≡ None = not_found (dest_forall g.conclusion) (c.if-is_forall.ensures ∙ ap (λ (t : Nameless). is_some (dest_forall t)) c.conclusion.ensures.term) in
    let neither : dest_conj g.conclusion ≡ None = not_found (dest_conj g.conclusion) (c.if-is_conj.ensures ∙ ap (λ (t : Nameless). is_some (dest_conj t)) c.conclusion-2.ensures.term) in
    subst (λ (a : TacArgs). AnswersCode code.StripTac (args_value a) g c.args.names.now c.args.turns c.strip_imp.result) (sym c.in-Nothing.is)
    (strips_imp g c.args.names.now c.args.turns c.strip_imp.result none neither (nameless [] c.in-Some.p.now) (nameless [] c.in-Some.q.now) (ap dest_imp (sym c.conclusion-3.ensures.term) ∙ c.in-Some.ensures.parts) c.strip_imp.ensures.answer)

pub returns-in-Some-clause-valid : goal.returns-in-Some-clause-valid
returns-in-Some-clause-valid c = subst (λ (a : TacArgs). IfOk c.strip_imp.result (λ tried. IsJustified (args_value a) c.args.goal.now tried.step)) (sym c.in-Nothing.is) c.strip_imp.ensures.valid

pub returns-in-Some-dest_neg-clause-answer : goal.returns-in-Some-dest_neg-clause-answer
returns-in-Some-dest_neg-clause-answer c =
    let g = c.args.goal.now in
    let none : dest_forall g.conclusion ≡ None = not_found (dest_forall g.conclusion) (c.if-is_forall.ensures ∙ ap (λ (t : Nameless). is_some (dest_forall t)) c.conclusion.ensures.term) in
    let neither : dest_conj g.conclusion ≡ None = not_found (dest_conj g.conclusion) (c.if-is_conj.ensures ∙ ap (λ (t : Nameless). is_some (dest_conj t)) c.conclusion-2.ensures.term) in
    subst (λ (a : TacArgs). AnswersCode code.StripTac (args_value a) g c.args.names.now c.args.turns c.strip_neg.result) (sym c.in-Nothing.is)
    (strips_neg g c.args.names.now c.args.turns c.strip_neg.result none neither (nameless [] c.in-Some-dest_neg.p.now) (ap dest_imp (sym c.conclusion-3.ensures.term) ∙ c.in_default-dest_imp.ensures.parts)
    (ap dest_neg (sym c.conclusion-4.ensures.term) ∙ c.in-Some-dest_neg.ensures.part) c.strip_neg.ensures.answer)

pub returns-in-Some-dest_neg-clause-valid : goal.returns-in-Some-dest_neg-clause-valid
returns-in-Some-dest_neg-clause-valid c = subst (λ (a : TacArgs). IfOk c.strip_neg.result (λ tried. IsJustified (args_value a) c.args.goal.now tried.step)) (sym c.in-Nothing.is) c.strip_neg.ensures.valid

pub returns-clause-answer : goal.returns-clause-answer
returns-clause-answer c =
    let g = c.args.goal.now in
    let none : dest_forall g.conclusion ≡ None = not_found (dest_forall g.conclusion) (c.if-is_forall.ensures ∙ ap (λ (t : Nameless). is_some (dest_forall t)) c.conclusion.ensures.term) in
    let neither : dest_conj g.conclusion ≡ None = not_found (dest_conj g.conclusion) (c.if-is_conj.ensures ∙ ap (λ (t : Nameless). is_some (dest_conj t)) c.conclusion-2.ensures.term) in
    subst (λ (a : TacArgs). AnswersCode code.StripTac (args_value a) g c.args.names.now c.args.turns (Err (Refused c.args.turns c.new-2.result))) (sym c.in-Nothing.is)
    (strips_nothing g c.args.names.now c.args.turns (Err (Refused c.args.turns c.new-2.result)) none neither (ap dest_imp (sym c.conclusion-3.ensures.term) ∙ c.in_default-dest_imp.ensures.parts) (ap dest_neg (sym c.conclusion-4.ensures.term) ∙ c.in_default-dest_neg.ensures.part) (refl, c.new-2.ensures.items))
