use Rattle.std.proofs.Common.{[], ◌∷◌, ◌≡◌, length, ap, sym, subst, Some, arith, rules}
use Rattle.std.specs.Prelude.{List, ℕ, IsSome}
use Rattle.std.proofs.lemmas.Result.{IfOk-weaker}
use Rattle.hol_types.specs.Tree.{TypeTree}
use Rattle.hol_terms.specs.Named.{Named, var}
use Rattle.hol_terms.specs.Nameless.{nameless}
use Rattle.hol_kernel.specs.Theorem.{over}
use Rattle.hol_derived.specs.Rules.{spec_of}
use Rattle.hol_just.specs.Matching.{bound_variables, specialized}
use Rattle.hol_just.proofs.MatchApplied.{spec_applies, rest_applies, rest_gives}
use Rattle.hol_just.proofs.matching_steps.+specialized.Goals as goal

pub spec-made-requires : goal.spec-made-requires
spec-made-requires t c =
    let th = c.args.th in
    let formula = c.args.formula.now in
    let v = c.in-Some.v.now in
    let body = c.in-Some.body.now in
    let are : bound_variables formula ≡ v ∷ bound_variables body = search rules in
    record {
      applies = subst (λ (x : Named). IsSome (over th.basis (spec_of th.basis (nameless [] x) th.sequent))) (sym c.in_ok-variable.ensures.is) (spec_applies th formula v body are c.requires);
    }

pub specialized-requires : goal.specialized-requires
specialized-requires t c =
    let th = c.args.th in
    let formula = c.args.formula.now in
    let v = c.in-Some.v.now in
    let body = c.in-Some.body.now in
    let are : bound_variables formula ≡ v ∷ bound_variables body = search rules in
    let r = c.in_ok-instance.instance in
    let own : over th.basis (spec_of th.basis (nameless [] (var v)) th.sequent) ≡ Some r = subst (λ (x : Named). over th.basis (spec_of th.basis (nameless [] x) th.sequent) ≡ Some r) c.in_ok-variable.ensures.is c.in_ok-instance.ensures in
    let counted : length (bound_variables formula) ≡ length (v ∷ bound_variables body) = ap length are in
    (omega (arith, counted, c.decreases), rest_applies th formula v body are c.requires r own)

pub returns : goal.returns
returns t c =
    let th = c.args.th in
    let formula = c.args.formula.now in
    let v = c.in-Some.v.now in
    let body = c.in-Some.body.now in
    let are : bound_variables formula ≡ v ∷ bound_variables body = search rules in
    let r = c.in_ok-instance.instance in
    let own : over th.basis (spec_of th.basis (nameless [] (var v)) th.sequent) ≡ Some r = subst (λ (x : Named). over th.basis (spec_of th.basis (nameless [] x) th.sequent) ≡ Some r) c.in_ok-variable.ensures.is c.in_ok-instance.ensures in
    IfOk-weaker c.specialized.result _ _ (λ new made. rest_gives th formula v body are c.requires r own new made) c.specialized.ensures

pub returns-in_default : goal.returns-in_default
returns-in_default t c =
    let none : bound_variables c.args.formula.now ≡ [] = search rules in
    ap (λ (vs : List (List ℕ × TypeTree)). over c.args.th.basis (specialized c.args.th.basis vs c.args.th.sequent)) none
