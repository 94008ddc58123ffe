use Rattle.std.proofs.Common.{◌≡◌, ◌∙◌, ◌++◌, ap, map, subst, append_assoc}
use Rattle.std.proofs.lemmas.Result.{IfOk-weaker}
use Rattle.hol_kernel.specs.Given.{assumed}
use Rattle.hol_match.specs.Contracta.{contracta}
use Rattle.hol_match.specs.SetView.{AreOf}
use Rattle.hol_just.specs.ConversionTacs.{basic, rules_by}
use Rattle.hol_tac.proofs.rewriting.with_assumed.Goals as goal

-- what is given, in order
pub returns-clause-rules : goal.returns-clause-rules
unfolding basic
returns-clause-rules c =
    let more = map assumed c.args.goal.now.assumptions in
    let put : c.add_assumed.new.to.items ≡ c.args.ths.now ++ more =
    c.in_ok-add_assumed.ensures ∙ (λ i. c.in_ok-add_givens.ensures i ++ map assumed (c.assumptions.ensures.terms i)) ∙ ap (λ xs. (xs ++ c.args.ths.now) ++ more) c.new-givens.ensures.items in
    let whole : c.deref.result.now ++ c.basic.result.now ≡ c.args.ths.now ++ (more ++ basic) = (λ i. (c.deref.ensures.value ∙ put) i ++ c.basic.ensures i) ∙ append_assoc c.args.ths.now more basic in
    IfOk-weaker c.with_kept.result _ _ (λ set is. is ∙ ap (λ gs. contracta (rules_by gs)) whole) c.with_kept.ensures.rules

pub returns-clause-given : goal.returns-clause-given
unfolding basic
returns-clause-given c =
    let more = map assumed c.args.goal.now.assumptions in
    let put : c.add_assumed.new.to.items ≡ c.args.ths.now ++ more =
    c.in_ok-add_assumed.ensures ∙ (λ i. c.in_ok-add_givens.ensures i ++ map assumed (c.assumptions.ensures.terms i)) ∙ ap (λ xs. (xs ++ c.args.ths.now) ++ more) c.new-givens.ensures.items in
    let whole : c.deref.result.now ++ c.basic.result.now ≡ c.args.ths.now ++ (more ++ basic) = (λ i. (c.deref.ensures.value ∙ put) i ++ c.basic.ensures i) ∙ append_assoc c.args.ths.now more basic in
    IfOk-weaker c.with_kept.result _ _ (λ set are. subst (λ gs. AreOf gs set.rules.items) whole are) c.with_kept.ensures.given
