use Rattle.std.proofs.Common.{◌≡◌, [], subst, ap, ◌∙◌, rules}
use Rattle.std.specs.FinSet as set
use Rattle.hol_terms.specs.Alpha.{strip}
use Rattle.hol_terms.specs.Named.{named_type}
use Rattle.hol_terms.specs.Nameless.{nameless}
use Rattle.hol_kernel.specs.Sequent.{sequent_of}
use Rattle.hol_kernel.proofs.Cuts.{cut_derived}
use Rattle.hol_kernel.proofs.Sound.{Derived, second_over, kept}
use Rattle.hol_kernel.proofs.thm.Thm.prove_hyp.Goals as goal

pub closed-requires : goal.closed-requires
closed-requires c =
    let a = c.args.a.now.sequent in
    let b = c.args.b.now.sequent in
    let s = sequent_of c.in_ok-hyps.hyps (nameless [] c.in_ok-concl.concl) in
    let is : sequent_of (set.union a.hyps (set.remove b.hyps (strip a.concl))) b.concl ≡ s = search rules in
    kept c.args.a.now.basis c.basis.result.now c.in_ok-hyps.hyps c.in_ok-concl.concl c.basis.ensures
    (subst (Derived c.args.a.now.basis) is
    (cut_derived c.args.a.now.basis a b c.promise.ensures.derives (second_over c.args.a.now c.args.b.now c.requires.one_basis c.promise-2.ensures.derives)))
    (ap named_type c.in_ok-concl.ensures ∙ c.concl-2.ensures.typed)
