use Rattle.std.proofs.Common.{◌≡◌, [], ◌∷◌, ap, ◌∙◌, rules}
use Rattle.std.specs.Prelude.{List, IfOk, Some}
use Rattle.hol_terms.specs.Named.{Named, var, named_type}
use Rattle.hol_terms.specs.Nameless.{nameless}
use Rattle.hol_subst.specs.Closing.{open_with}
use Rattle.hol_subst.specs.Pairs.{nameless_pairs}
use Rattle.hol_subst.specs.Substitution.{term_subst}
use Rattle.hol_formulas.specs.Equation.{bool_type}
use Rattle.hol_steps.proofs.Instances.{good_pair, substitution_opens, opened_formula, kept_as, kept_typed}
use Rattle.hol_steps.proofs.quantifiers.at.Goals as goal

pub substituted-requires : goal.substituted-requires
substituted-requires c =
    let all : c.deref.result.now ≡ (c.args.t.now, var c.args.x.now) ∷ [] = search rules in
    λ h. good_pair c.deref.result.now c.args.t.now c.args.x.now all c.requires.argument (c.vsubst.ensures.bad_pair.0 h)

pub returns-clause-is : goal.returns-clause-is
returns-clause-is c =
    let all : c.deref.result.now ≡ (c.args.t.now, var c.args.x.now) ∷ [] = search rules in
    kept_as c.vsubst.result c.substituted.result (term_subst (nameless_pairs c.deref.result.now) 0 (nameless [] c.args.p.now)) (open_with (nameless [] c.args.t.now) 0 (nameless (c.args.x.now ∷ []) c.args.p.now))
    (ap (λ (ps : List (Named × Named)). term_subst (nameless_pairs ps) 0 (nameless [] c.args.p.now)) all ∙ substitution_opens c.args.x.now c.args.p.now c.args.t.now)
    c.vsubst.ensures.ok c.substituted.ensures

pub returns-clause-typed : goal.returns-clause-typed
returns-clause-typed c =
    let all : c.deref.result.now ≡ (c.args.t.now, var c.args.x.now) ∷ [] = search rules in
    let is : IfOk c.substituted.result (λ r. nameless [] r ≡ open_with (nameless [] c.args.t.now) 0 (nameless (c.args.x.now ∷ []) c.args.p.now)) =
    kept_as c.vsubst.result c.substituted.result (term_subst (nameless_pairs c.deref.result.now) 0 (nameless [] c.args.p.now)) (open_with (nameless [] c.args.t.now) 0 (nameless (c.args.x.now ∷ []) c.args.p.now))
    (ap (λ (ps : List (Named × Named)). term_subst (nameless_pairs ps) 0 (nameless [] c.args.p.now)) all ∙ substitution_opens c.args.x.now c.args.p.now c.args.t.now)
    c.vsubst.ensures.ok c.substituted.ensures
    in
    kept_typed c.substituted.result (λ r. nameless [] r ≡ open_with (nameless [] c.args.t.now) 0 (nameless (c.args.x.now ∷ []) c.args.p.now)) (λ r. named_type r ≡ Some bool_type)
    (λ r h. opened_formula c.args.x.now c.args.p.now c.args.t.now r h c.requires.argument c.requires.body) is
