use Rattle.std.proofs.Common.{◌≡◌, [], Some, ap, ◌∙◌, rules}
use Rattle.hol_terms.specs.Named.{named_type}
use Rattle.hol_terms.specs.Nameless.{nameless}
use Rattle.hol_formulas.specs.Equation.{bool_type}
use Rattle.hol_kernel.specs.Sequent.{sequent_of}
use Rattle.hol_kernel.specs.Rules.{eq_mp_of}
use Rattle.hol_kernel.proofs.Sound.{eq_mp_sound, second_over, kept, alpha_type}
use Rattle.hol_kernel.proofs.thm.Thm.eq_mp.Goals as goal

pub closed-requires : goal.closed-requires
closed-requires c =
    let s = sequent_of c.in_ok-hyps.hyps (nameless [] c.in_ok-concl.concl) in
    let is : eq_mp_of c.args.a.now.sequent c.args.b.now.sequent ≡ Some s = search rules in
    let one : c.in-Some.x.ty.now ≡ bool_type =
    alpha_type c.in-Some.x.left.now c.concl-2.result.now c.in-Some.x.ty.now bool_type (search rules) c.in-Some.ensures.left c.concl-2.ensures.typed in
    kept c.args.a.now.basis c.basis.result.now c.in_ok-hyps.hyps c.in_ok-concl.concl c.basis.ensures
    (eq_mp_sound c.args.a.now.basis c.args.a.now.sequent c.args.b.now.sequent s c.promise.ensures.derives (second_over c.args.a.now c.args.b.now c.requires.one_basis c.promise-2.ensures.derives) is)
    (ap named_type c.in_ok-concl.ensures ∙ c.in-Some.ensures.right ∙ ap Some one)
