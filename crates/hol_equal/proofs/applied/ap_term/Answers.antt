use Rattle.std.specs.Prelude.{IsSome}
use Rattle.std.proofs.Common.{ap, sym, subst, [], refl}
use Rattle.hol_terms.specs.Nameless.{nameless, app}
use Rattle.hol_formulas.specs.Equation.{equation}
use Rattle.hol_kernel.specs.Rules.{mk_comb_of, reflexive}
use Rattle.hol_kernel.specs.Sequent.{sequent_of, Hyps}
use Rattle.hol_kernel.specs.Theorem.{theorem_on}
use Rattle.hol_equal.proofs.HypSets.{none_left}
use Rattle.hol_equal.proofs.Outcomes.{became}
use Rattle.hol_equal.proofs.Steps.{known}
use Rattle.hol_equal.specs.Applied.{combined, under, lhs, rhs, range_of}
use Rattle.hol_equal.proofs.applied.ap_term.Goals as goal

pub ap_term-requires-clause-fits : goal.ap_term-requires-clause-fits
ap_term-requires-clause-fits c = subst IsSome (sym c.requires.applies) refl

pub returns : goal.returns
returns c =
    let B = c.args.a.now.basis in
    let f = nameless [] c.args.f.now in
    let ty = c.args.ty.now in
    let a = c.args.a.now.sequent in
    became c.ap_term.result (theorem_on B (combined (reflexive f ty) a)) (theorem_on B (under ty f a))
    (known B (mk_comb_of (reflexive f ty) a) (combined (reflexive f ty) a) c.requires.applies c.ap_term.result c.ap_term.ensures)
    (ap (λ (ks : Hyps). theorem_on B (sequent_of ks (equation (range_of ty) (app f (lhs a.concl)) (app f (rhs a.concl))))) (none_left a.hyps))
