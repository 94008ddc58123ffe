use Rattle.std.proofs.Common.{◌∙◌, sym, ap, refl, subst}
use Rattle.std.proofs.lemmas.Result.{IfOk-weaker}
use Rattle.hol_terms.specs.Named.{comb}
use Rattle.hol_terms.specs.View.{named_of}
use Rattle.hol_subst.specs.Capture.{IsResult}
use Rattle.hol_subst.proofs.Steps.{comb_fits, at_comb, untouched, at_var, at_abs}
use Rattle.hol_subst.proofs.substitution.+substituted.Goals as goal

pub returns-then-not-may_touch : goal.returns-then-not-may_touch
returns-then-not-may_touch t c =
    IfOk-weaker c.copy.result _ _ (λ r e. subst (λ z. IsResult c.args.pairs.now c.args.t.now z) (sym e) (untouched c.args.pairs.now c.args.t.now (c.may_touch.ensures c.if-not-may_touch.true))) c.copy.ensures

pub changed_twice-requires-clause-fits : goal.changed_twice-requires-clause-fits
changed_twice-requires-clause-fits t c =
    let h = c.in-Some.h.now in
    let g = comb c.in_ok-inner-in-Comb.inner c.in_ok-argument-in-Comb.argument in
    comb_fits c.args.pairs.now c.args.t.now c.in-Comb.f c.in-Comb.x g c.in_ok-argument-in-Comb.argument c.requires (sym c.node.ensures ∙ ap named_of c.in-Comb.is)
    (at_comb c.args.pairs.now c.in-Comb.f h c.in-Comb.x c.in_ok-inner-in-Comb.inner c.in_ok-argument-in-Comb.argument g c.in-Some.ensures c.in_ok-inner-in-Comb.ensures c.in_ok-argument-in-Comb.ensures refl)
    c.in_ok-argument-in-Comb.ensures

pub changed_twice-requires-clause-function_fits : goal.changed_twice-requires-clause-function_fits
changed_twice-requires-clause-function_fits t c =
    comb_fits c.args.pairs.now c.in-Comb.f c.in-Some.h.now c.in-Comb.x c.in_ok-inner-in-Comb.inner c.in_ok-argument-in-Comb.argument c.requires c.in-Some.ensures c.in_ok-inner-in-Comb.ensures c.in_ok-argument-in-Comb.ensures

pub changed_application-requires-clause-fits : goal.changed_application-requires-clause-fits
changed_application-requires-clause-fits t c =
    comb_fits c.args.pairs.now c.args.t.now c.in-Comb.f c.in-Comb.x c.in_ok-function-in-Comb.function c.in_ok-argument-in-Comb.argument c.requires (sym c.node.ensures ∙ ap named_of c.in-Comb.is)
    c.in_ok-function-in-Comb.ensures c.in_ok-argument-in-Comb.ensures

pub returns-in-Var : goal.returns-in-Var
returns-in-Var t c =
    IfOk-weaker c.at_variable.result _ _ (λ r e. at_var c.args.pairs.now c.args.t.now c.in-Var.v r (sym c.node.ensures ∙ ap named_of c.in-Var.is) e) c.at_variable.ensures

pub returns-in_ok-inside-in-Abs : goal.returns-in_ok-inside-in-Abs
returns-in_ok-inside-in-Abs t c =
    let b = c.in_ok-inside-in-Abs.inside in
    IfOk-weaker c.changed_abstraction.result _ _
    (λ r e. at_abs c.args.pairs.now c.in_ok-entry-in-Abs.entry.pairs.items c.args.t.now c.in-Abs.b b c.in-Abs.v c.in_ok-entry-in-Abs.entry.binder r
    (sym c.node.ensures ∙ ap named_of c.in-Abs.is) c.in_ok-entry-in-Abs.ensures
    (subst (λ x. IsResult x c.in-Abs.b b) c.deref.ensures.value c.in_ok-inside-in-Abs.ensures) e)
    c.changed_abstraction.ensures
