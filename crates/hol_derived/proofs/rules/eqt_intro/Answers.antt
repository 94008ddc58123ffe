use Rattle.std.proofs.Common.{[], ap, ◌∙◌, refl}
use Rattle.std.specs.FinSet as set
use Rattle.hol_terms.specs.Nameless.{Nameless, nameless}
use Rattle.hol_formulas.specs.Formula.{truth, equivalence}
use Rattle.hol_kernel.proofs.InstRules.{along_nameless}
use Rattle.hol_derived.proofs.Derivations.{eqt_intro_derived}
use Rattle.hol_derived.proofs.rules.eqt_intro.Goals as goal

pub closed-requires : goal.closed-requires
closed-requires c =
    let B = c.args.a.now.basis in
    let a = c.args.a.now.sequent in
    along_nameless B c.basis-2.result.now (a.hyps) c.in_ok-hyps.hyps (equivalence a.concl truth) c.in_ok-concl.concl c.basis-2.ensures
    (c.in_ok-hyps.ensures ∙ c.hypotheses.ensures)
    (ap (nameless []) c.in_ok-concl.ensures.is ∙ ap (λ (n : Nameless). equivalence n truth) c.concl.ensures.concl)
    (eqt_intro_derived B a.concl a.concl c.well_typed.ensures.conclusion c.well_typed.ensures.conclusion a refl c.promise.ensures.derives)
    (c.in_ok-concl.ensures.typed)
