use Rattle.std.proofs.Common.{[], ◌∷◌, ◌≡◌, Some, ap, sym, ◌∙◌, refl}
use Rattle.hol_terms.specs.Named.{var}
use Rattle.hol_terms.specs.View.{named_of}
use Rattle.hol_terms.specs.Nameless.{free, nameless, nameless_type}
use Rattle.hol_formulas.specs.Formula.{universal}
use Rattle.hol_derived.specs.Rules.{over_variable}
use Rattle.hol_kernel.specs.Sequent.{no_hyps}
use Rattle.hol_goal.specs.declared.tac_args.TacArgs.TheVariants as args
use Rattle.hol_just.specs.Leaving.{concluding}
use Rattle.hol_just.specs.Replacing.{replace_each}
use Rattle.hol_tac.proofs.Justified.{by_pair}
use Rattle.hol_tac.proofs.Generalizing.{may_generalize}
use Rattle.hol_tac.proofs.substituting.spec_tac.Goals as goal

pub returns-clause-valid : goal.returns-clause-valid
returns-clause-valid c =
    let t = c.in-Pair.t in
    let x = c.in-Var.x in
    let w = c.args.goal.now.conclusion in
    let whole : c.in-Pair.u ≡ var x = sym c.node.ensures ∙ ap named_of c.in-Var.is in
    let of_type : nameless_type [] (nameless [] t) ≡ Some x.1 = c.type_of.ensures.nameless ∙ ap Some (c.if-not-same.ensures.equal.0 refl ∙ c.ty.ensures) in
    by_pair c.args.goal.now c.in_ok-step.step c.in_ok-step.step.just (concluding c.args.goal.now (universal (over_variable x (replace_each (nameless [] t) (free x) w))) ∷ []) refl c.in_ok-step.ensures.goals
    c.args.args.now t (var x) (c.in-Pair.is ∙ ap (args.Pair t) whole)
    (c.in_ok-step.ensures.just x no_hyps c.args.goal.now.assumptions w of_type (may_generalize t c.in-Pair.u x w whole c.if-not-may_generalize.ensures))
