use Rattle.std.proofs.Common.{◌≡◌, ap, sym, ◌∙◌, subst, [], ◌∷◌, Some, codes}
use Rattle.std.specs.Prelude.{None}
use Rattle.std.specs.FinSet as set
use Rattle.hol_types.specs.Tree.{TypeTree}
use Rattle.hol_types.specs.Fun.{fun_type}
use Rattle.hol_terms.specs.Nameless.{Nameless, nameless, fixed, app, lam, base_of}
use Rattle.hol_subst.specs.Closing.{bind, open_with}
use Rattle.hol_formulas.specs.Equation.{bool_type}
use Rattle.hol_formulas.specs.Formula.{quantifier_type, dest_forall}
use Rattle.hol_kernel.specs.Sequent.{sequent_of}
use Rattle.hol_kernel.specs.Theorem.{theorem_on, theorem_over}
use Rattle.hol_kernel.specs.Typing.{HasType}
use Rattle.hol_kernel.proofs.InstRules.{along_nameless}
use Rattle.hol_equal.proofs.Outcomes.{became}
use Rattle.hol_equal.specs.Applied.{rand, body}
use Rattle.hol_subst.proofs.Closing.{nameless_abs}
use Rattle.hol_subst.proofs.Opening.{open_close_subst}
use Rattle.hol_formulas.proofs.FormulaLaws.{dest_forall_universal}
use Rattle.hol_equal.specs.Rules.{m_with}
use Rattle.hol_derived.specs.Applied.{specialized, bound_type, abstraction_in}
use Rattle.hol_derived.proofs.QuantifierDerivations.{formula_type, spec_derived}
use Rattle.hol_derived.proofs.Typed.{predicate_typed}
use Rattle.hol_derived.proofs.universal.specialize.Goals as goal

pub unreachable-requires : goal.unreachable-requires
unreachable-requires c =
    let s = c.args.a.now.sequent in
    let same : Some (abstraction_in (rand s.concl)) ≡ None = sym (ap dest_forall c.requires.is ∙ dest_forall_universal (abstraction_in (rand s.concl))) ∙ c.in_default.ensures in absurd (cc)

pub closed-requires : goal.closed-requires
closed-requires c =
    let B = c.args.a.now.basis in
    let a = c.args.a.now.sequent in
    let v = c.in-Some.v.now in
    let n = nameless [] c.in-Some.p.now in
    let t = nameless [] c.args.t.now in
    let own = lam (base_of v.0) v.1 (nameless (v ∷ []) c.in-Some.p.now) in
    let bound_is : own ≡ bind v n = nameless_abs v c.in-Some.p.now in
    let parts : a.concl ≡ app (fixed (codes "!") (quantifier_type v.1)) (bind v n) = c.in-Some.ensures ∙ ap (λ (f : Nameless). app (fixed (codes "!") (quantifier_type v.1)) f) bound_is in
    let function : HasType B (bind v n) (fun_type v.1 bool_type) = predicate_typed B (codes "!") v.1 bool_type (bind v n) (subst (λ (u : Nameless). HasType B u bool_type) parts c.well_typed.ensures.conclusion) in
    let member : HasType B t v.1 = subst (λ (d : TypeTree). HasType B t d) (ap (λ (u : Nameless). bound_type (rand u)) parts) c.requires.typed in
    along_nameless B c.basis.result.now (a.hyps) c.in_ok-hyps.hyps (m_with t v n) c.in_ok-concl.concl c.basis.ensures
    (c.in_ok-hyps.ensures ∙ c.hypotheses.ensures)
    (c.in_ok-concl.ensures)
    (spec_derived B v n t function member a parts c.promise.ensures.derives)
    (formula_type B a.hyps c.in_ok-concl.concl (m_with t v n) c.in_ok-concl.ensures (spec_derived B v n t function member a parts c.promise.ensures.derives))

pub returns : goal.returns
returns c =
    let B = c.args.a.now.basis in
    let a = c.args.a.now.sequent in
    let v = c.in-Some.v.now in
    let n = nameless [] c.in-Some.p.now in
    let t = nameless [] c.args.t.now in
    let own = lam (base_of v.0) v.1 (nameless (v ∷ []) c.in-Some.p.now) in
    let bound_is : own ≡ bind v n = nameless_abs v c.in-Some.p.now in
    let parts : a.concl ≡ app (fixed (codes "!") (quantifier_type v.1)) (bind v n) = c.in-Some.ensures ∙ ap (λ (f : Nameless). app (fixed (codes "!") (quantifier_type v.1)) f) bound_is in
    let function : HasType B (bind v n) (fun_type v.1 bool_type) = predicate_typed B (codes "!") v.1 bool_type (bind v n) (subst (λ (u : Nameless). HasType B u bool_type) parts c.well_typed.ensures.conclusion) in
    let member : HasType B t v.1 = subst (λ (d : TypeTree). HasType B t d) (ap (λ (u : Nameless). bound_type (rand u)) parts) c.requires.typed in
    let hs : c.in_ok-hyps.hyps ≡ a.hyps = c.in_ok-hyps.ensures ∙ c.hypotheses.ensures in
    let is : nameless [] c.in_ok-concl.concl ≡ m_with t v n = c.in_ok-concl.ensures in
    became c.closed.result (theorem_over c.basis.result.now c.in_ok-hyps.hyps (nameless [] c.in_ok-concl.concl)) (theorem_on B (specialized t a)) c.closed.ensures
    ((λ i. theorem_over (c.basis.ensures i) (hs i) (is i)) ∙ ap (λ (u : Nameless). theorem_on B (sequent_of a.hyps u)) (sym (open_close_subst v t 0 n)) ∙ ap (λ (u : Nameless). theorem_on B (sequent_of a.hyps (open_with t 0 (body (rand u))))) (sym parts))
