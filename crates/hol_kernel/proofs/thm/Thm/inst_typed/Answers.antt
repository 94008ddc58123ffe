use Rattle.std.proofs.Common.{◌≡◌, [], ap, ◌∙◌, rules}
use Rattle.std.proofs.lemmas.Result.{IfOk-weaker}
use Rattle.hol_terms.specs.Nameless.{nameless}
use Rattle.hol_subst.specs.Pairs.{nameless_pairs}
use Rattle.hol_subst.specs.Substitution.{term_subst}
use Rattle.hol_kernel.specs.Items.{Items}
use Rattle.hol_kernel.specs.Sequent.{hyps_image}
use Rattle.hol_kernel.specs.Theorem.{theorem_over}
use Rattle.hol_kernel.proofs.InstRules.{pairs_good, terms_derived, terms_given}
use Rattle.hol_kernel.proofs.thm.Thm.inst_typed.Goals as goal

pub vsubst_good-requires : goal.vsubst_good-requires
vsubst_good-requires c =
    pairs_good c.args.a.now.basis c.args.pairs.now c.requires.typed

pub vsubst-requires : goal.vsubst-requires
vsubst-requires c =
    pairs_good c.args.a.now.basis c.args.pairs.now c.requires.typed

pub closed-requires : goal.closed-requires
closed-requires c =
    let hyps : c.in_ok-hyps.hyps ≡ hyps_image (term_subst (nameless_pairs c.args.pairs.now) 0) c.args.a.now.sequent.hyps =
    c.in_ok-hyps.ensures ∙ ap (hyps_image (term_subst (nameless_pairs c.args.pairs.now) 0)) c.hypotheses.ensures in
    terms_derived c.args.a.now.basis c.args.pairs.now c.args.a.now.sequent c.concl.result.now c.basis.result.now c.in_ok-hyps.hyps c.in_ok-concl.concl
    c.promise.ensures.derives c.requires.typed c.concl.ensures.concl c.concl.ensures.typed (search rules) hyps c.in_ok-concl.ensures.ok

pub returns-clause-sequent : goal.returns-clause-sequent
returns-clause-sequent c =
    let hyps : c.in_ok-hyps.hyps ≡ hyps_image (term_subst (nameless_pairs c.args.pairs.now) 0) c.args.a.now.sequent.hyps =
    c.in_ok-hyps.ensures ∙ ap (hyps_image (term_subst (nameless_pairs c.args.pairs.now) 0)) c.hypotheses.ensures in
    IfOk-weaker c.closed.result _ _
    (λ th made.
    terms_given c.args.a.now.basis c.args.pairs.now c.args.a.now.sequent th c.in_ok-hyps.hyps c.concl.result.now c.in_ok-concl.concl
    c.requires.typed c.concl.ensures.concl hyps c.in_ok-concl.ensures.ok (made ∙ ap (λ (b : Items). theorem_over b c.in_ok-hyps.hyps (nameless [] c.in_ok-concl.concl)) c.basis.ensures))
    c.closed.ensures
