use Rattle.std.proofs.Common.{◌≡◌, [], subst, rules}
use Rattle.hol_terms.specs.Nameless.{nameless}
use Rattle.hol_kernel.specs.Derivation.{by_deduct_antisym}
use Rattle.hol_kernel.specs.Sequent.{sequent_of}
use Rattle.hol_kernel.specs.Rules.{deduct_antisym_of}
use Rattle.hol_kernel.proofs.Sound.{Derived, second_over, kept}
use Rattle.hol_kernel.proofs.thm.Thm.deduct_antisym.Goals as goal

pub closed-requires : goal.closed-requires
closed-requires c =
    let s = sequent_of c.in_ok-hyps.hyps (nameless [] c.in_ok-concl.concl) in
    let is : deduct_antisym_of c.args.a.now.sequent c.args.b.now.sequent ≡ s = search rules in
    kept c.args.a.now.basis c.basis-2.result.now c.in_ok-hyps.hyps c.in_ok-concl.concl c.basis-2.ensures
    (subst (Derived c.args.a.now.basis) is
    (by_deduct_antisym c.args.a.now.sequent.hyps c.args.b.now.sequent.hyps c.args.a.now.sequent.concl c.args.b.now.sequent.concl c.promise.ensures.derives
    (second_over c.args.a.now c.args.b.now c.requires.one_basis c.promise-2.ensures.derives)))
    c.in_ok-concl.ensures.typed
