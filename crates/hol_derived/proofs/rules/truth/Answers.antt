use Rattle.std.specs.Prelude.{[], refl}
use Rattle.std.proofs.Common.{ap}
use Rattle.hol_terms.specs.Nameless.{nameless}
use Rattle.hol_formulas.specs.Formula.{truth}
use Rattle.hol_kernel.specs.Sequent.{no_hyps}
use Rattle.hol_kernel.specs.Theorem.{theorem_over}
use Rattle.hol_kernel.proofs.InstRules.{along_nameless}
use Rattle.hol_equal.proofs.Outcomes.{became}
use Rattle.hol_derived.proofs.OfConnectives.{truth_derived}
use Rattle.hol_derived.proofs.rules.truth.Goals as goal

pub closed-requires : goal.closed-requires
closed-requires c =
    let B = c.args.basis.now in
    along_nameless B B no_hyps c.none.result truth c.in_ok-concl.concl refl c.none.ensures (ap (nameless []) c.in_ok-concl.ensures.is) (truth_derived B) c.in_ok-concl.ensures.typed

pub returns : goal.returns
returns c =
    let B = c.args.basis.now in
    became c.closed.result (theorem_over B c.none.result (nameless [] c.in_ok-concl.concl)) (theorem_over B no_hyps truth) c.closed.ensures
    (λ i. theorem_over B (c.none.ensures i) (nameless [] (c.in_ok-concl.ensures.is i)))
