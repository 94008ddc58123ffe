use Rattle.std.proofs.Common.{ap, ◌∙◌, []}
use Rattle.hol_terms.specs.Nameless.{nameless}
use Rattle.hol_terms.proofs.Alpha.{alpha_eq_decides}
use Rattle.hol_formulas.specs.Equation.{equation}
use Rattle.hol_kernel.specs.Sequent.{no_hyps, sequent_of, Hyps}
use Rattle.hol_kernel.specs.Theorem.{theorem_on}
use Rattle.hol_kernel.proofs.Typed.{typed_type}
use Rattle.hol_equal.specs.Applied.{transitive}
use Rattle.hol_equal.proofs.Applies.{trans_yes}
use Rattle.hol_equal.proofs.HypSets.{none_left}
use Rattle.hol_equal.proofs.Outcomes.{became}
use Rattle.hol_equal.proofs.applied.alpha.Goals as goal

pub refl-requires-2 : goal.refl-requires-2
refl-requires-2 c = record { typed = typed_type c.args.basis.now c.args.t.now c.type_of.result.now c.type_of.ensures.named c.requires.second }

pub trans-requires-clause-applies : goal.trans-requires-clause-applies
trans-requires-clause-applies c =
    let s = nameless [] c.args.s.now in
    let t = nameless [] c.args.t.now in
    rw (c.in_ok-left.ensures, c.in_ok-right.ensures) (trans_yes no_hyps no_hyps c.args.ty.now c.type_of.result.now s s t t ((alpha_eq_decides s t).0 c.requires.equal))

pub returns : goal.returns
returns c =
    let B = c.args.basis.now in
    let a = c.args.ty.now in
    let s = nameless [] c.args.s.now in
    let t = nameless [] c.args.t.now in
    became c.trans.result (theorem_on c.in_ok-left.left.basis (transitive c.in_ok-left.left.sequent c.in_ok-right.right.sequent)) (theorem_on B (sequent_of no_hyps (equation a s t))) c.trans.ensures
    ((λ i. theorem_on (c.in_ok-left.ensures i).basis (transitive (c.in_ok-left.ensures i).sequent (c.in_ok-right.ensures i).sequent)) ∙ ap (λ (hs : Hyps). theorem_on B (sequent_of hs (equation a s t))) (none_left no_hyps))
