use Rattle.std.proofs.Common.{◌≡◌, [], Some, rules}
use Rattle.hol_terms.specs.Nameless.{nameless}
use Rattle.hol_kernel.specs.Sequent.{sequent_of}
use Rattle.hol_kernel.specs.Rules.{mk_comb_of}
use Rattle.hol_kernel.proofs.Sound.{mk_comb_sound, second_over, kept}
use Rattle.hol_kernel.proofs.thm.Thm.mk_comb.Goals as goal

pub closed-requires : goal.closed-requires
closed-requires c =
    let s = sequent_of c.in_ok-hyps.hyps (nameless [] c.in_ok-concl.concl) in
    let is : mk_comb_of c.args.a.now.sequent c.args.b.now.sequent ≡ Some s = search rules in
    kept c.args.a.now.basis c.basis-2.result.now c.in_ok-hyps.hyps c.in_ok-concl.concl c.basis-2.ensures
    (mk_comb_sound c.args.a.now.basis c.args.a.now.sequent c.args.b.now.sequent s c.promise.ensures.derives (second_over c.args.a.now c.args.b.now c.requires.one_basis c.promise-2.ensures.derives) is)
    c.in_ok-concl.ensures.typed
