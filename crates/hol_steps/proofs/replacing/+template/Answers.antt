use Rattle.std.proofs.Common.{[], ◌≡◌, Some, ap, sym, ◌∙◌, subst}
use Rattle.std.proofs.lemmas.Result.{IfOk-weaker}
use Rattle.hol_terms.specs.Named.{Named, var, abs, named_type}
use Rattle.hol_terms.specs.Nameless.{free, nameless}
use Rattle.hol_terms.specs.View.{named_of}
use Rattle.hol_terms.specs.Alpha.{alpha_eq}
use Rattle.hol_just.specs.Replacing.{replace_each}
use Rattle.hol_steps.specs.Unused.{HasNo}
use Rattle.hol_steps.proofs.Templates.{here, here_type, under_own, at_abstraction}
use Rattle.hol_steps.proofs.replacing.+template.Goals as goal

pub returns-then-alpha_equivalent-clause-is : goal.returns-then-alpha_equivalent-clause-is
returns-then-alpha_equivalent-clause-is t c =
    IfOk-weaker c.occurrence.result (λ m. m ≡ var c.args.v.now) (λ m. nameless [] m ≡ replace_each (nameless [] c.args.s.now) (free c.args.v.now) (nameless [] c.args.term.now))
    (λ m is. ap (nameless []) is ∙ here c.args.s.now c.args.v.now c.args.term.now (sym c.if-alpha_equivalent.ensures.test)) c.occurrence.ensures.is

pub returns-then-alpha_equivalent-clause-typed : goal.returns-then-alpha_equivalent-clause-typed
returns-then-alpha_equivalent-clause-typed t c =
    IfOk-weaker c.occurrence.result (λ m. named_type m ≡ Some c.args.v.now.1) (λ m. named_type m ≡ named_type c.args.term.now)
    (λ m typed. typed ∙ here_type c.args.s.now c.args.v.now c.args.term.now (sym c.if-alpha_equivalent.ensures.test) c.requires.of_type) c.occurrence.ensures.typed

pub returns-then-vfree_in-clause-is : goal.returns-then-vfree_in-clause-is
returns-then-vfree_in-clause-is t c =
    let whole : c.args.term.now ≡ abs c.in-Abs.u c.in-Abs.b = sym c.node.ensures ∙ ap named_of c.in-Abs.is in
    IfOk-weaker c.copy-then-vfree_in.result (λ m. m ≡ c.args.term.now) (λ m. nameless [] m ≡ replace_each (nameless [] c.args.s.now) (free c.args.v.now) (nameless [] c.args.term.now))
    (λ m is.
    ap (nameless []) is
    ∙ subst (λ (n : Named). nameless [] n ≡ replace_each (nameless [] c.args.s.now) (free c.args.v.now) (nameless [] n)) (sym whole)
    (under_own c.args.s.now c.args.v.now c.in-Abs.u c.in-Abs.b (sym c.if-vfree_in.ensures.free)))
    c.copy-then-vfree_in.ensures

pub returns-in_ok-body-in-Abs-clause-is : goal.returns-in_ok-body-in-Abs-clause-is
returns-in_ok-body-in-Abs-clause-is t c =
    let whole : c.args.term.now ≡ abs c.in-Abs.u c.in-Abs.b = sym c.node.ensures ∙ ap named_of c.in-Abs.is in
    let other = subst (λ (n : Named). HasNo c.args.v.now n) whole c.requires.other in
    let apart = ap (λ (n : Named). alpha_eq (nameless [] n) (nameless [] c.args.s.now)) (sym whole) ∙ sym c.if-alpha_equivalent.ensures.test in
    IfOk-weaker c.abstracted.result (λ m. m ≡ abs c.in-Abs.u c.in_ok-body-in-Abs.body) (λ m. nameless [] m ≡ replace_each (nameless [] c.args.s.now) (free c.args.v.now) (nameless [] c.args.term.now))
    (λ m is.
    ap (nameless []) is
    ∙ subst (λ (n : Named). nameless [] (abs c.in-Abs.u c.in_ok-body-in-Abs.body) ≡ replace_each (nameless [] c.args.s.now) (free c.args.v.now) (nameless [] n)) (sym whole)
    (at_abstraction c.args.s.now c.args.v.now c.in-Abs.u c.in-Abs.b c.in_ok-body-in-Abs.body apart (sym c.if-vfree_in.ensures.free) other.0 c.in_ok-body-in-Abs.ensures.is))
    c.abstracted.ensures
