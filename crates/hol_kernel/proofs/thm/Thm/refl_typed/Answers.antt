use Rattle.std.proofs.Common.{[], Some, refl, ap, sym, ◌∙◌}
use Rattle.std.proofs.lemmas.Result.{IfOk-weaker}
use Rattle.std.specs.Option.{option_map}
use Rattle.hol_terms.specs.Nameless.{nameless}
use Rattle.hol_kernel.specs.Sequent.{no_hyps}
use Rattle.hol_kernel.specs.Theorem.{theorem_on, theorem_over}
use Rattle.hol_kernel.proofs.TermRules.{refl_derived, refl_yes}
use Rattle.hol_kernel.proofs.thm.Thm.refl_typed.Goals as goal

pub unconditional-requires : goal.unconditional-requires
unconditional-requires c =
    refl_derived c.args.basis.now c.args.term.now c.type_of.result.now c.type_of.ensures.named c.args.basis.now no_hyps c.in_ok-concl.concl
    refl refl c.in_ok-concl.ensures.is c.requires.typed

pub returns-clause-sequent : goal.returns-clause-sequent
returns-clause-sequent c =
    IfOk-weaker c.unconditional.result _ _
    (λ th made.
    ap (option_map (theorem_on c.args.basis.now)) (refl_yes c.args.basis.now c.args.term.now c.type_of.result.now c.type_of.ensures.named c.requires.typed)
    ∙ ap Some (sym (made ∙ (λ i. theorem_over c.args.basis.now no_hyps (nameless [] (c.in_ok-concl.ensures.is i))))))
    c.unconditional.ensures
