use Rattle.std.proofs.Common.{◌≡◌, ap, sym, ◌∙◌, subst, [], ◌∷◌, codes}
use Rattle.std.specs.FinSet as set
use Rattle.hol_types.specs.Tree.{TypeTree}
use Rattle.hol_types.specs.Fun.{fun_type}
use Rattle.hol_terms.specs.Nameless.{Nameless, nameless, lam, base_of}
use Rattle.hol_terms.specs.Alpha.{strip}
use Rattle.hol_subst.specs.Closing.{bind, open_with}
use Rattle.hol_formulas.specs.Equation.{bool_type}
use Rattle.hol_kernel.specs.Sequent.{sequent_of}
use Rattle.hol_kernel.specs.Theorem.{theorem_on, theorem_over}
use Rattle.hol_kernel.specs.Typing.{HasType}
use Rattle.hol_terms.proofs.Typing.{type_outside}
use Rattle.hol_kernel.proofs.Variables.{known_typed}
use Rattle.hol_kernel.proofs.InstRules.{along_nameless}
use Rattle.hol_equal.proofs.Outcomes.{became}
use Rattle.hol_equal.specs.Applied.{rand}
use Rattle.hol_terms.specs.Named.{named_type}
use Rattle.hol_subst.proofs.Closing.{nameless_abs}
use Rattle.hol_subst.proofs.Opening.{open_close_subst}
use Rattle.hol_formulas.specs.Formula.{dest_exists}
use Rattle.hol_formulas.proofs.FormulaLaws.{dest_quantifier_is, dest_exists_existential}
use Rattle.hol_equal.specs.Rules.{m_with}
use Rattle.hol_derived.specs.Applied.{bound_type, abstraction_in}
use Rattle.hol_derived.specs.Unfolded.{exists_in}
use Rattle.hol_derived.proofs.MoreDerivations.{exists_derived}
use Rattle.hol_derived.proofs.Typed.{predicate_typed}
use Rattle.hol_derived.proofs.Disjunctions.{not_none}
use Rattle.hol_derived.proofs.existential.introduce.Goals as goal

pub unreachable-requires : goal.unreachable-requires
unreachable-requires c =
    let e = nameless [] c.args.e.now in
    not_none (abstraction_in (rand e)) (sym (ap dest_exists c.requires.is ∙ dest_exists_existential (abstraction_in (rand e))) ∙ c.in_default.ensures.parts)

pub closed-requires : goal.closed-requires
closed-requires c =
    let B = c.args.a.now.basis in
    let a = c.args.a.now.sequent in
    let e = nameless [] c.args.e.now in
    let v = c.in-Some._x.now in
    let n = nameless [] c.in-Some._p.now in
    let t = nameless [] c.args.t.now in
    let own = lam (base_of v.0) v.1 (nameless (v ∷ []) c.in-Some._p.now) in
    let bound_is : own ≡ bind v n = nameless_abs v c.in-Some._p.now in
    let whole : e ≡ exists_in v.1 (bind v n) = dest_quantifier_is (codes "?") e (record { base = base_of v.0; domain = v.1; body = nameless (v ∷ []) c.in-Some._p.now }) c.in-Some.ensures.parts ∙ ap (λ (f : Nameless). exists_in v.1 f) bound_is in
    let function : HasType B (bind v n) (fun_type v.1 bool_type) = predicate_typed B (codes "?") v.1 bool_type (bind v n) (subst (λ (u : Nameless). HasType B u bool_type) whole c.requires.stands) in
    let member : HasType B t v.1 = subst (λ (d : TypeTree). HasType B t d) (ap (λ (u : Nameless). bound_type (rand u)) whole) c.requires.typed in
    let fits : strip (m_with t v n) ≡ strip a.concl = ap strip (sym (open_close_subst v t 0 n)) ∙ subst (λ (u : Nameless). strip (open_with t 0 (abstraction_in (rand u)).body) ≡ strip a.concl) whole c.requires.fits in
    along_nameless B c.basis.result.now (a.hyps) c.in_ok-hyps.hyps (exists_in v.1 (bind v n)) c.in_ok-concl.concl c.basis.ensures
    (c.in_ok-hyps.ensures ∙ c.hypotheses.ensures)
    (ap (nameless []) c.in_ok-concl.ensures ∙ whole)
    (exists_derived B v n t function member a fits c.promise.ensures.derives)
    (ap named_type c.in_ok-concl.ensures ∙ sym (type_outside c.args.e.now) ∙ (known_typed B (nameless [] c.args.e.now) bool_type c.requires.stands).1)

pub returns : goal.returns
returns c =
    let B = c.args.a.now.basis in
    let a = c.args.a.now.sequent in
    let e = nameless [] c.args.e.now in
    let v = c.in-Some._x.now in
    let n = nameless [] c.in-Some._p.now in
    let t = nameless [] c.args.t.now in
    let own = lam (base_of v.0) v.1 (nameless (v ∷ []) c.in-Some._p.now) in
    let bound_is : own ≡ bind v n = nameless_abs v c.in-Some._p.now in
    let whole : e ≡ exists_in v.1 (bind v n) = dest_quantifier_is (codes "?") e (record { base = base_of v.0; domain = v.1; body = nameless (v ∷ []) c.in-Some._p.now }) c.in-Some.ensures.parts ∙ ap (λ (f : Nameless). exists_in v.1 f) bound_is in
    let function : HasType B (bind v n) (fun_type v.1 bool_type) = predicate_typed B (codes "?") v.1 bool_type (bind v n) (subst (λ (u : Nameless). HasType B u bool_type) whole c.requires.stands) in
    let member : HasType B t v.1 = subst (λ (d : TypeTree). HasType B t d) (ap (λ (u : Nameless). bound_type (rand u)) whole) c.requires.typed in
    let fits : strip (m_with t v n) ≡ strip a.concl = ap strip (sym (open_close_subst v t 0 n)) ∙ subst (λ (u : Nameless). strip (open_with t 0 (abstraction_in (rand u)).body) ≡ strip a.concl) whole c.requires.fits in
    let hs : c.in_ok-hyps.hyps ≡ a.hyps = c.in_ok-hyps.ensures ∙ c.hypotheses.ensures in
    let is : nameless [] c.in_ok-concl.concl ≡ exists_in v.1 (bind v n) = ap (nameless []) c.in_ok-concl.ensures ∙ whole in
    became c.closed.result (theorem_over c.basis.result.now c.in_ok-hyps.hyps (nameless [] c.in_ok-concl.concl)) (theorem_on B (sequent_of a.hyps (nameless [] c.args.e.now))) c.closed.ensures
    ((λ i. theorem_over (c.basis.ensures i) (hs i) (is i)) ∙ ap (λ (u : Nameless). theorem_on B (sequent_of a.hyps u)) (sym whole))
