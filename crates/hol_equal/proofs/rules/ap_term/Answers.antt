use Rattle.std.proofs.Common.{◌≡◌, ap, sym, ◌∙◌, [], Some, true, rules}
use Rattle.hol_types.specs.Tree.{TypeTree}
use Rattle.hol_types.specs.Fun.{fun_parts}
use Rattle.hol_types.specs.Equal.{type_eq}
use Rattle.hol_terms.specs.Nameless.{nameless}
use Rattle.hol_kernel.specs.Typing.{HasType, is_typed}
use Rattle.hol_kernel.specs.Theorem.{Theorem}
use Rattle.hol_kernel.proofs.Stands.{some_is}
use Rattle.hol_equal.specs.Applied.{under}
use Rattle.hol_equal.proofs.Answered.{gives, ap_term_gives, ap_term_applies}
use Rattle.hol_equal.specs.Rules.{ap_term_of}
use Rattle.hol_kernel.proofs.Typed.{typed_type}
use Rattle.hol_equal.proofs.rules.ap_term.Goals as goal

pub ap_term-requires : goal.ap_term-requires
ap_term-requires c =
    let B = c.args.a.now.basis in
    let a = c.args.a.now.sequent in
    let s = c.in-Some.sides.ty.now in
    let l = nameless [] c.in-Some.sides.left.now in
    let r = nameless [] c.in-Some.sides.right.now in
    let f = c.args.f.now in
    let ty = c.type_of-2.result.now in
    let p : TypeTree × TypeTree = (c.in-Some-dest_fun.domain.now, c.in-Some-dest_fun._range.now) in
    let one : ty ≡ c.type_of.result.now = some_is ty c.type_of.result.now (sym c.type_of-2.ensures.named ∙ c.type_of.ensures.named) in
    let parts : fun_parts ty ≡ Some p = ap fun_parts one ∙ c.in-Some-dest_fun.ensures in
    let same : type_eq p.0 s ≡ true = search rules in
    let tested : is_typed B (nameless [] f) ≡ true = search rules in
    let typed : HasType B (nameless [] f) ty = typed_type B f ty c.type_of-2.ensures.named tested in
    record { typed = typed; applies = ap_term_applies B f ty c.type_of-2.ensures.named a s l r c.in-Some.ensures p parts same }

pub returns-clause-sequent : goal.returns-clause-sequent
returns-clause-sequent c =
    let B = c.args.a.now.basis in
    let a = c.args.a.now.sequent in
    let s = c.in-Some.sides.ty.now in
    let l = nameless [] c.in-Some.sides.left.now in
    let r = nameless [] c.in-Some.sides.right.now in
    let f = c.args.f.now in
    let ty = c.type_of-2.result.now in
    let p : TypeTree × TypeTree = (c.in-Some-dest_fun.domain.now, c.in-Some-dest_fun._range.now) in
    let one : ty ≡ c.type_of.result.now = some_is ty c.type_of.result.now (sym c.type_of-2.ensures.named ∙ c.type_of.ensures.named) in
    let parts : fun_parts ty ≡ Some p = ap fun_parts one ∙ c.in-Some-dest_fun.ensures in
    let same : type_eq p.0 s ≡ true = search rules in
    let tested : is_typed B (nameless [] f) ≡ true = search rules in
    gives B (ap_term_of B (nameless [] f) a) (under ty (nameless [] f) a) c.in_ok-ap_term.field-0 (ap_term_gives B f ty c.type_of-2.ensures.named a s l r c.in-Some.ensures p parts same tested) c.in_ok-ap_term.ensures

pub returns-clause-basis : goal.returns-clause-basis
returns-clause-basis c =
    ap (λ (th : Theorem). th.basis) c.in_ok-ap_term.ensures
