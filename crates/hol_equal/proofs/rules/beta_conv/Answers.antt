use Rattle.std.proofs.Common.{◌≡◌, ap, sym, subst, [], Some, true, rules}
use Rattle.hol_terms.specs.Nameless.{nameless}
use Rattle.hol_terms.specs.Named.{comb, abs, Named}
use Rattle.hol_kernel.specs.Typing.{HasType, is_typed}
use Rattle.hol_kernel.specs.Theorem.{Theorem}
use Rattle.hol_equal.specs.Applied.{contraction}
use Rattle.hol_equal.proofs.Answered.{gives, beta_conv_gives}
use Rattle.hol_equal.specs.Rules.{beta_conv_of}
use Rattle.hol_kernel.proofs.Typed.{typed_type}
use Rattle.hol_equal.proofs.rules.beta_conv.Goals as goal

pub beta_conv-requires : goal.beta_conv-requires
beta_conv-requires c =
    let B = c.args.basis.now in
    let v = c.in-Abs._v in
    let b = c.in-Abs._b in
    let x = c.in-Comb._x in
    let s = c.type_of.result.now in
    let is : c.args.redex.now ≡ comb (abs v b) x = search rules in
    let tested : is_typed B (nameless [] c.args.redex.now) ≡ true = search rules in
    let typed : HasType B (nameless [] c.args.redex.now) s = typed_type B c.args.redex.now s c.type_of.ensures.named tested in
    let applies : beta_conv_of B (nameless [] c.args.redex.now) ≡ Some (contraction s (nameless [] c.args.redex.now)) = subst (λ (u : Named). beta_conv_of B (nameless [] u) ≡ Some (contraction s (nameless [] u))) (sym is) (beta_conv_gives B v b x s (subst (λ (u : Named). HasType B (nameless [] u) s) is typed)) in
    record { typed = typed; applies = applies }

pub returns-clause-sequent : goal.returns-clause-sequent
returns-clause-sequent c =
    let B = c.args.basis.now in
    let v = c.in-Abs._v in
    let b = c.in-Abs._b in
    let x = c.in-Comb._x in
    let s = c.type_of.result.now in
    let is : c.args.redex.now ≡ comb (abs v b) x = search rules in
    let tested : is_typed B (nameless [] c.args.redex.now) ≡ true = search rules in
    let typed : HasType B (nameless [] c.args.redex.now) s = typed_type B c.args.redex.now s c.type_of.ensures.named tested in
    let applies : beta_conv_of B (nameless [] c.args.redex.now) ≡ Some (contraction s (nameless [] c.args.redex.now)) = subst (λ (u : Named). beta_conv_of B (nameless [] u) ≡ Some (contraction s (nameless [] u))) (sym is) (beta_conv_gives B v b x s (subst (λ (u : Named). HasType B (nameless [] u) s) is typed)) in
    gives B (beta_conv_of B (nameless [] c.args.redex.now)) (contraction s (nameless [] c.args.redex.now)) c.in_ok-beta_conv.field-0 applies c.in_ok-beta_conv.ensures

pub returns-clause-basis : goal.returns-clause-basis
returns-clause-basis c =
    ap (λ (th : Theorem). th.basis) c.in_ok-beta_conv.ensures
