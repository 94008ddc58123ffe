use Rattle.std.proofs.Common.{◌≡◌, [], true, false, Some, ap, sym, ◌∙◌, rules}
use Rattle.std.specs.Option.{option_map}
use Rattle.std.specs.FinSet as set
use Rattle.hol_types.specs.Fun.{fun_type}
use Rattle.hol_terms.specs.Named.{Named, abs, var}
use Rattle.hol_terms.specs.Nameless.{nameless}
use Rattle.hol_subst.specs.Variant.{is_free_in}
use Rattle.hol_formulas.specs.Equation.{mk_eq}
use Rattle.hol_kernel.specs.Typing.{is_type}
use Rattle.hol_kernel.specs.Theorem.{theorem_on, theorem_over, over}
use Rattle.hol_kernel.specs.Rules.{abs_of}
use Rattle.hol_kernel.proofs.TermRules.{abs_derived, abs_gives, abs_concl}
use Rattle.hol_kernel.proofs.thm.Thm.abs.Goals as goal

pub closed-requires : goal.closed-requires
closed-requires c =
    let typed : is_type c.args.a.now.basis c.in-Var.variable.1 ≡ true = search rules in
    let fresh : is_free_in (set.items c.args.a.now.sequent.hyps) c.in-Var.variable ≡ false = search rules in
    let concl : c.in_ok-concl.concl ≡ mk_eq (fun_type c.in-Var.variable.1 c.in-Some.x.ty.now) (abs c.in-Var.variable c.in-Some.x.left.now) (abs c.in-Var.variable c.in-Some.x.right.now) = search rules in
    abs_derived c.args.a.now.basis c.in-Var.variable c.args.a.now.sequent c.in-Some.x.ty.now c.in-Some.x.left.now c.in-Some.x.right.now c.promise.ensures.derives (search rules) typed fresh c.in-Some.ensures.left c.in-Some.ensures.right
    c.basis-3.result.now c.in_ok-hyps.hyps c.in_ok-concl.concl (search rules) (search rules) concl

pub returns-clause-sequent : goal.returns-clause-sequent
returns-clause-sequent c =
    let typed : is_type c.args.a.now.basis c.in-Var.variable.1 ≡ true = search rules in
    let fresh : is_free_in (set.items c.args.a.now.sequent.hyps) c.in-Var.variable ≡ false = search rules in
    let concl : c.in_ok-concl.concl ≡ mk_eq (fun_type c.in-Var.variable.1 c.in-Some.x.ty.now) (abs c.in-Var.variable c.in-Some.x.left.now) (abs c.in-Var.variable c.in-Some.x.right.now) = search rules in
    let is : c.args.v.now ≡ var c.in-Var.variable = search rules in
    let hyps : c.in_ok-hyps.hyps ≡ c.args.a.now.sequent.hyps = search rules in
    ap (λ (v : Named). over c.args.a.now.basis (abs_of c.args.a.now.basis v c.args.a.now.sequent)) is
    ∙ ap (option_map (theorem_on c.args.a.now.basis))
    (abs_gives c.args.a.now.basis c.in-Var.variable c.args.a.now.sequent (record { sides_type = c.in-Some.x.ty.now; left = nameless [] c.in-Some.x.left.now; right = nameless [] c.in-Some.x.right.now }) (search rules) typed fresh)
    ∙ ap Some (sym (c.in_ok-closed.ensures ∙ (λ i. theorem_over (c.basis-3.ensures i) (hyps i) ((ap (nameless []) concl ∙ abs_concl c.in-Var.variable c.in-Some.x.ty.now c.in-Some.x.left.now c.in-Some.x.right.now) i))))
