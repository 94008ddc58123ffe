use Rattle.std.proofs.Common.{◌≡◌, ap, ◌∙◌, [], codes}
use Rattle.std.specs.FinSet as set
use Rattle.hol_terms.specs.Nameless.{Nameless, nameless, fixed, app, base_of}
use Rattle.hol_subst.specs.Closing.{bind}
use Rattle.hol_subst.proofs.Closing.{close_under}
use Rattle.hol_formulas.specs.Formula.{quantifier_type, universal}
use Rattle.hol_kernel.specs.Theorem.{theorem_on, theorem_over}
use Rattle.hol_kernel.proofs.InstRules.{along_nameless}
use Rattle.hol_equal.proofs.Outcomes.{became}
use Rattle.hol_derived.specs.Applied.{generalized}
use Rattle.hol_derived.proofs.QuantifierDerivations.{gen_derived}
use Rattle.hol_derived.proofs.rules.for_each.Goals as goal

pub closed-requires : goal.closed-requires
closed-requires c =
    let B = c.args.a.now.basis in
    let a = c.args.a.now.sequent in
    let v = c.args.v.now in
    along_nameless B c.basis.result.now (a.hyps) c.in_ok-same.same (app (fixed (codes "!") (quantifier_type v.1)) (bind v a.concl)) c.in_ok-concl.concl c.basis.ensures
    (c.in_ok-same.ensures ∙ c.hypotheses.ensures)
    (ap (nameless []) c.in_ok-concl.ensures.is ∙ (λ i. universal (record { base = base_of v.0; domain = v.1; body = close_under [] v c.concl.result.now i })) ∙ ap (λ (n : Nameless). app (fixed (codes "!") (quantifier_type v.1)) (bind v n)) c.concl.ensures.concl)
    (gen_derived B v a c.requires.stands c.requires.absent c.promise.ensures.derives)
    (c.in_ok-concl.ensures.typed)

pub returns : goal.returns
returns c =
    let B = c.args.a.now.basis in
    let a = c.args.a.now.sequent in
    let v = c.args.v.now in
    let hs : c.in_ok-same.same ≡ a.hyps = c.in_ok-same.ensures ∙ c.hypotheses.ensures in
    let is : nameless [] c.in_ok-concl.concl ≡ app (fixed (codes "!") (quantifier_type v.1)) (bind v a.concl) = ap (nameless []) c.in_ok-concl.ensures.is ∙ (λ i. universal (record { base = base_of v.0; domain = v.1; body = close_under [] v c.concl.result.now i })) ∙ ap (λ (n : Nameless). app (fixed (codes "!") (quantifier_type v.1)) (bind v n)) c.concl.ensures.concl in
    became c.closed.result (theorem_over c.basis.result.now c.in_ok-same.same (nameless [] c.in_ok-concl.concl)) (theorem_on B (generalized v a)) c.closed.ensures
    ((λ i. theorem_over (c.basis.ensures i) (hs i) (is i)))
