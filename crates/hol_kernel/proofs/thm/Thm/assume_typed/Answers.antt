use Rattle.std.proofs.Common.{[], Some, refl, ap, sym, ◌∙◌}
use Rattle.std.specs.Prelude.{is_some}
use Rattle.std.specs.Option.{option_map}
use Rattle.std.proofs.lemmas.Result.{IfOk-weaker}
use Rattle.hol_terms.specs.Nameless.{nameless}
use Rattle.hol_kernel.specs.Theorem.{theorem_on, theorem_over}
use Rattle.hol_kernel.proofs.TermRules.{assume_derived, assume_yes, formula_type}
use Rattle.hol_kernel.proofs.thm.Thm.assume_typed.Goals as goal

pub closed-requires : goal.closed-requires
closed-requires c =
    assume_derived c.args.basis.now c.args.p.now c.type_of-ty.result.now c.type_of-ty.ensures.named c.args.basis.now c.in_ok-hyps.hyps c.in_ok-concl.concl
    refl c.in_ok-hyps.ensures c.in_ok-concl.ensures
    (formula_type c.args.basis.now c.args.p.now c.type_of-ty.result.now c.type_of-ty.ensures.named c.requires.typed)
    (ap is_some c.requires.typed)

pub returns-clause-sequent : goal.returns-clause-sequent
returns-clause-sequent c =
    let formula = formula_type c.args.basis.now c.args.p.now c.type_of-ty.result.now c.type_of-ty.ensures.named c.requires.typed in
    IfOk-weaker c.closed.result _ _
    (λ th made.
    ap (option_map (theorem_on c.args.basis.now)) (assume_yes c.args.basis.now c.args.p.now c.type_of-ty.result.now c.type_of-ty.ensures.named formula (ap is_some c.requires.typed))
    ∙ ap Some (sym (made ∙ (λ i. theorem_over c.args.basis.now (c.in_ok-hyps.ensures i) (nameless [] (c.in_ok-concl.ensures i))))))
    c.closed.ensures
