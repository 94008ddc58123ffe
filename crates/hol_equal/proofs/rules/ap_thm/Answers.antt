use Rattle.std.proofs.Common.{◌≡◌, ap, [], Some, true, rules}
use Rattle.hol_types.specs.Tree.{TypeTree}
use Rattle.hol_types.specs.Fun.{fun_parts}
use Rattle.hol_terms.specs.Nameless.{nameless}
use Rattle.hol_kernel.specs.Typing.{has_type}
use Rattle.hol_kernel.specs.Theorem.{Theorem}
use Rattle.hol_equal.specs.Applied.{at_argument}
use Rattle.hol_equal.proofs.Answered.{gives, ap_thm_gives, ap_thm_applies}
use Rattle.hol_equal.specs.Rules.{ap_thm_of}
use Rattle.hol_kernel.proofs.Declared.{has_type_is}
use Rattle.hol_equal.proofs.rules.ap_thm.Goals as goal

pub ap_thm-requires : goal.ap_thm-requires
ap_thm-requires c =
    let B = c.args.a.now.basis in
    let a = c.args.a.now.sequent in
    let s = c.in-Some.sides.ty.now in
    let l = nameless [] c.in-Some.sides.left.now in
    let r = nameless [] c.in-Some.sides.right.now in
    let x = nameless [] c.args.x.now in
    let p : TypeTree × TypeTree = (c.in-Some-dest_fun.domain.now, c.in-Some-dest_fun._range.now) in
    let parts : fun_parts s ≡ Some p = c.in-Some-dest_fun.ensures in
    let has : has_type B x p.0 ≡ true = search rules in
    record { typed = has_type_is B x p.0 has; applies = ap_thm_applies B x a s l r c.in-Some.ensures p parts }

pub returns-clause-sequent : goal.returns-clause-sequent
returns-clause-sequent c =
    let B = c.args.a.now.basis in
    let a = c.args.a.now.sequent in
    let s = c.in-Some.sides.ty.now in
    let l = nameless [] c.in-Some.sides.left.now in
    let r = nameless [] c.in-Some.sides.right.now in
    let x = nameless [] c.args.x.now in
    let p : TypeTree × TypeTree = (c.in-Some-dest_fun.domain.now, c.in-Some-dest_fun._range.now) in
    let parts : fun_parts s ≡ Some p = c.in-Some-dest_fun.ensures in
    let has : has_type B x p.0 ≡ true = search rules in
    gives B (ap_thm_of B a x) (at_argument x a) c.in_ok-ap_thm.field-0 (ap_thm_gives B x a s l r c.in-Some.ensures p parts has) c.in_ok-ap_thm.ensures

pub returns-clause-basis : goal.returns-clause-basis
returns-clause-basis c =
    ap (λ (th : Theorem). th.basis) c.in_ok-ap_thm.ensures
