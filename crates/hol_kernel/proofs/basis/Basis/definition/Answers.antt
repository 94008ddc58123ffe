use Rattle.std.proofs.Common.{◌≡◌, [], ap, ◌∙◌, refl, subst}
use Rattle.std.specs.Prelude.{IfOk}
use Rattle.hol_terms.specs.Named.{Named, constant}
use Rattle.hol_terms.specs.Nameless.{nameless}
use Rattle.hol_kernel.specs.Sequent.{no_hyps}
use Rattle.hol_formulas.specs.Equation.{mk_eq}
use Rattle.hol_kernel.specs.Theorem.{Theorem, theorem_over}
use Rattle.hol_kernel.proofs.Definable.{definition_derived}
use Rattle.hol_kernel.proofs.basis.Basis.definition.Goals as goal

pub unconditional-requires : goal.unconditional-requires
unconditional-requires c =
    definition_derived c.args.self.now c.args.name.now c.args.right.now c.args.ty.now c.requires.holds c.requires.known c.requires.typed c.args.self.now no_hyps c.in_ok-concl.concl
    refl refl (c.in_ok-concl.ensures.is ∙ ap (λ (l : Named). mk_eq c.args.ty.now l c.args.right.now) c.in_ok-left.ensures.is)

pub returns : goal.returns
returns c =
    let concl : c.in_ok-concl.concl ≡ mk_eq c.args.ty.now (constant c.args.name.now c.args.ty.now) c.args.right.now =
    c.in_ok-concl.ensures.is ∙ ap (λ (l : Named). mk_eq c.args.ty.now l c.args.right.now) c.in_ok-left.ensures.is in
    subst (λ (t : Theorem). IfOk c.unconditional.result (λ th. th ≡ t)) (λ i. theorem_over c.args.self.now no_hyps (nameless [] (concl i))) c.unconditional.ensures
