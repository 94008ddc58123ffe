use Rattle.std.proofs.Common.{◌≡◌, [], true, ap, ◌∙◌, rules}
use Rattle.hol_terms.specs.Nameless.{nameless}
use Rattle.hol_subst.specs.Substitution.{types_inst}
use Rattle.hol_kernel.specs.Items.{Items}
use Rattle.hol_kernel.specs.Sequent.{hyps_image}
use Rattle.hol_kernel.specs.Typing.{are_types_for}
use Rattle.hol_kernel.specs.Theorem.{theorem_over}
use Rattle.hol_kernel.proofs.InstRules.{types_derived, types_given}
use Rattle.hol_kernel.proofs.thm.Thm.inst_type.Goals as goal

pub closed-requires : goal.closed-requires
closed-requires c =
    let over : are_types_for c.args.a.now.basis c.args.pairs.now ≡ true = search rules in
    let hyps : c.in_ok-hyps.hyps ≡ hyps_image (types_inst c.args.pairs.now) c.args.a.now.sequent.hyps =
    c.in_ok-hyps.ensures ∙ ap (hyps_image (types_inst c.args.pairs.now)) c.hypotheses.ensures in
    types_derived c.args.a.now.basis c.args.pairs.now c.args.a.now.sequent c.concl.result.now c.basis-2.result.now c.in_ok-hyps.hyps c.in_ok-concl.concl
    c.promise.ensures.derives over c.concl.ensures.concl c.concl.ensures.typed (search rules) hyps c.in_ok-concl.ensures.ok

pub returns-clause-sequent : goal.returns-clause-sequent
returns-clause-sequent c =
    let over : are_types_for c.args.a.now.basis c.args.pairs.now ≡ true = search rules in
    let hyps : c.in_ok-hyps.hyps ≡ hyps_image (types_inst c.args.pairs.now) c.args.a.now.sequent.hyps =
    c.in_ok-hyps.ensures ∙ ap (hyps_image (types_inst c.args.pairs.now)) c.hypotheses.ensures in
    let made = c.in_ok-closed.ensures ∙ ap (λ (b : Items). theorem_over b c.in_ok-hyps.hyps (nameless [] c.in_ok-concl.concl)) c.basis-2.ensures in
    types_given c.args.a.now.basis c.args.pairs.now c.args.a.now.sequent _ c.in_ok-hyps.hyps c.concl.result.now c.in_ok-concl.concl
    over c.concl.ensures.concl hyps c.in_ok-concl.ensures.ok made
