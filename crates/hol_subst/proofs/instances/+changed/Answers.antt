use Rattle.std.proofs.Common.{◌≡◌, ℕ, List, ◌∷◌, refl, ap, arith, rules, sym, subst, ◌∙◌}
use Rattle.std.proofs.lemmas.Grind.{common_steps}
use Rattle.std.proofs.lemmas.Result.{IfOk-weaker}
use lib.Bits.{bit_and}
use Rattle.hol_types.specs.Tree.{TypeTree}
use Rattle.hol_types.specs.Filter.{pairs_filter}
use Rattle.hol_terms.specs.Filter.{filter_of, type_filter_of}
use Rattle.hol_terms.specs.Named.{Named, comb}
use Rattle.hol_terms.specs.Scope.{binders}
use Rattle.hol_terms.specs.View.{named_of}
use Rattle.hol_subst.specs.Renaming.{image, IsInstance, HasRenamed, KeepsTypes}
use Rattle.hol_subst.specs.Substitution.{variable_inst}
use Rattle.hol_subst.proofs.InstSteps.{variable_at, constant_at, application_at, fits_at, abstraction_at, variant_base}
use Rattle.hol_subst.proofs.Kept.{kept_instance, renamed_inside}
use Rattle.hol_subst.proofs.instances.+changed.Goals as goal

-- what came of a part, where the pairs are those of the call still
at : {p q : List (TypeTree × List ℕ)} {old new : List (List ℕ × TypeTree)} {t r : Named} → p ≡ q → IsInstance p old new t r → IsInstance q old new t r
at {old = old} {new = new} {t = t} {r = r} e i = subst (λ ps. IsInstance ps old new t r) e i

pub returns-then-not-meets-2-clause-is : goal.returns-then-not-meets-2-clause-is
returns-then-not-meets-2-clause-is t c =
    let types : bit_and (type_filter_of c.args.t.now) (pairs_filter c.args.types.now) ≡ 0 = grind (arith, common_steps) in
    let free : bit_and (filter_of c.args.t.now) c.args.renamed.bits ≡ 0 = grind (arith, common_steps) in
    IfOk-weaker c.copy.result _ _
    (λ r e. subst (λ z. IsInstance c.args.types.now (binders c.args.old.now) (binders c.args.new.now) c.args.t.now z) (sym e)
    (kept_instance c.args.types.now (binders c.args.old.now) (binders c.args.new.now) c.args.t.now c.args.renamed.bits c.requires.renamed types free))
    c.copy.ensures

pub returns-in-Var-clause-is : goal.returns-in-Var-clause-is
returns-in-Var-clause-is t c =
    IfOk-weaker c.changed_variable.result _ _
    (λ r e. variable_at c.args.types.now (binders c.args.old.now) (binders c.args.new.now) c.in-Var.v (image c.args.types.now (binders c.args.old.now) (binders c.args.new.now) c.in-Var.v) c.args.t.now r
    (sym c.node.ensures ∙ ap named_of c.in-Var.is) c.requires.types refl e)
    c.changed_variable.ensures.is

pub returns-in-Const-clause-is : goal.returns-in-Const-clause-is
returns-in-Const-clause-is t c =
    IfOk-weaker c.changed_constant.result _ _
    (λ r e. constant_at c.args.types.now (binders c.args.old.now) (binders c.args.new.now) c.in-Const.c c.in-Const.ty c.args.t.now r
    (sym c.node.ensures ∙ ap named_of c.in-Const.is) e)
    c.changed_constant.ensures.is

pub changed_twice-requires-clause-fits : goal.changed_twice-requires-clause-fits
changed_twice-requires-clause-fits t c =
    let pairs = c.args.types.now in
    let old = binders c.args.old.now in
    let new = binders c.args.new.now in
    let g = comb c.in_ok-k-in-Comb.k c.in_ok-y-in-Comb.y in
    fits_at pairs old new c.in-Comb.f c.in-Comb.x c.args.t.now g c.in_ok-y-in-Comb.y (sym c.node.ensures ∙ ap named_of c.in-Comb.is)
    (application_at pairs old new c.in-Some.h.now c.in-Comb.x c.in-Comb.f c.in_ok-k-in-Comb.k c.in_ok-y-in-Comb.y g c.in-Some.ensures (at c.in_ok-y-in-Comb.ensures.kept c.in_ok-k-in-Comb.ensures.is) c.in_ok-y-in-Comb.ensures.is refl)
    c.in_ok-y-in-Comb.ensures.is

pub changed_twice-requires-clause-function_fits : goal.changed_twice-requires-clause-function_fits
changed_twice-requires-clause-function_fits t c =
    fits_at c.args.types.now (binders c.args.old.now) (binders c.args.new.now) c.in-Some.h.now c.in-Comb.x c.in-Comb.f c.in_ok-k-in-Comb.k c.in_ok-y-in-Comb.y
    c.in-Some.ensures (at c.in_ok-y-in-Comb.ensures.kept c.in_ok-k-in-Comb.ensures.is) c.in_ok-y-in-Comb.ensures.is

pub changed_application-requires-clause-fits : goal.changed_application-requires-clause-fits
changed_application-requires-clause-fits t c =
    fits_at c.args.types.now (binders c.args.old.now) (binders c.args.new.now) c.in-Comb.f c.in-Comb.x c.args.t.now c.in_ok-g-in-Comb.g c.in_ok-y-in-Comb.y
    (sym c.node.ensures ∙ ap named_of c.in-Comb.is) (at c.in_ok-y-in-Comb.ensures.kept c.in_ok-g-in-Comb.ensures.is) c.in_ok-y-in-Comb.ensures.is

pub returns-in_ok-c-in-Abs-clause-is : goal.returns-in_ok-c-in-Abs-clause-is
returns-in_ok-c-in-Abs-clause-is t c =
    IfOk-weaker c.changed_abstraction.result _ _
    (λ r e. abstraction_at c.args.types.now (binders c.args.old.now) (binders c.args.new.now) c.in-Abs.v c.in_ok-u-in-Abs.u c.in-Abs.b c.args.t.now c.in_ok-c-in-Abs.c r
    (sym c.node.ensures ∙ ap named_of c.in-Abs.is) c.in_ok-u-in-Abs.ensures.is (at c.in_ok-u-in-Abs.ensures.kept c.in_ok-c-in-Abs.ensures.is) e)
    c.changed_abstraction.ensures

pub returns-in-Some-clause-is : goal.returns-in-Some-clause-is
returns-in-Some-clause-is t c =
    let pairs = c.args.types.now in
    let old = binders c.args.old.now in
    let new = binders c.args.new.now in
    let g = comb c.in_ok-k-in-Comb.k c.in_ok-y-in-Comb.y in
    IfOk-weaker c.changed_twice.result _ _
    (λ r e. application_at pairs old new c.in-Comb.f c.in-Comb.x c.args.t.now g c.in_ok-y-in-Comb.y r (sym c.node.ensures ∙ ap named_of c.in-Comb.is)
    (application_at pairs old new c.in-Some.h.now c.in-Comb.x c.in-Comb.f c.in_ok-k-in-Comb.k c.in_ok-y-in-Comb.y g c.in-Some.ensures (at c.in_ok-y-in-Comb.ensures.kept c.in_ok-k-in-Comb.ensures.is) c.in_ok-y-in-Comb.ensures.is refl)
    c.in_ok-y-in-Comb.ensures.is e)
    c.changed_twice.ensures

pub returns-in_ok-g-in-Comb-clause-is : goal.returns-in_ok-g-in-Comb-clause-is
returns-in_ok-g-in-Comb-clause-is t c =
    IfOk-weaker c.changed_application.result _ _
    (λ r e. application_at c.args.types.now (binders c.args.old.now) (binders c.args.new.now) c.in-Comb.f c.in-Comb.x c.args.t.now c.in_ok-g-in-Comb.g c.in_ok-y-in-Comb.y r
    (sym c.node.ensures ∙ ap named_of c.in-Comb.is) (at c.in_ok-y-in-Comb.ensures.kept c.in_ok-g-in-Comb.ensures.is) c.in_ok-y-in-Comb.ensures.is e)
    c.changed_application.ensures

pub changed-requires-in-Abs : goal.changed-requires-in-Abs
changed-requires-in-Abs t c =
    let old = binders c.args.old.now in
    let new = binders c.args.new.now in
    let v = c.in-Abs.v in
    let u = c.in_ok-u-in-Abs.u in
    let same = sym c.in_ok-u-in-Abs.ensures.kept in (
      search rules,
      (
        subst (λ ps. KeepsTypes ps (v ∷ old) (u ∷ new)) same (c.in_ok-u-in-Abs.ensures.is.same_type, c.requires.types),
        (
          (variant_base _ (variable_inst c.args.types.now v) u c.in_ok-u-in-Abs.ensures.is, c.requires.bases),
          subst (λ ps. HasRenamed ps (v ∷ old) (u ∷ new) c.with_binder-renamed.result.bits) same
              (renamed_inside c.args.types.now old new c.args.renamed.bits c.with_binder-renamed.result.bits v u c.with_binder-renamed.ensures c.requires.renamed),
        ),
      ),
    )
