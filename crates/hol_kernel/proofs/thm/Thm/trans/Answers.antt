use Rattle.std.proofs.Common.{◌≡◌, [], Some, ap, sym, ◌∙◌, rules}
use Rattle.hol_terms.specs.Nameless.{nameless}
use Rattle.hol_kernel.specs.Sequent.{sequent_of}
use Rattle.hol_kernel.specs.Rules.{trans_of}
use Rattle.hol_kernel.proofs.Sound.{trans_sound, second_over, kept, alpha_type}
use Rattle.hol_kernel.proofs.thm.Thm.trans.Goals as goal

pub mk_eq_from-requires-clause-right : goal.mk_eq_from-requires-clause-right
mk_eq_from-requires-clause-right c =
    let one : c.in-Some.x.ty.now ≡ c.in-Some-dest_eq.y.ty.now =
    alpha_type c.in-Some.x.right.now c.in-Some-dest_eq.y.left.now c.in-Some.x.ty.now c.in-Some-dest_eq.y.ty.now (search rules) c.in-Some.ensures.right c.in-Some-dest_eq.ensures.left in
    c.in-Some-dest_eq.ensures.right ∙ ap Some (sym one)

pub closed-requires : goal.closed-requires
closed-requires c =
    let s = sequent_of c.in_ok-hyps.hyps (nameless [] c.in_ok-concl.concl) in
    let is : trans_of c.args.a.now.sequent c.args.b.now.sequent ≡ Some s = search rules in
    kept c.args.a.now.basis c.basis.result.now c.in_ok-hyps.hyps c.in_ok-concl.concl c.basis.ensures
    (trans_sound c.args.a.now.basis c.args.a.now.sequent c.args.b.now.sequent s c.promise.ensures.derives (second_over c.args.a.now c.args.b.now c.requires.one_basis c.promise-2.ensures.derives) is)
    c.in_ok-concl.ensures.typed
