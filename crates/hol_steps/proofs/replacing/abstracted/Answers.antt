use Rattle.std.proofs.Common.{◌≡◌, ap, sym, ◌∙◌, rules}
use Rattle.std.proofs.lemmas.Result.{IfOk-weaker}
use Rattle.hol_terms.specs.Named.{abs}
use Rattle.hol_terms.specs.View.{named_of}
use Rattle.hol_terms.proofs.Same.{variable_eq_decides}
use Rattle.hol_steps.proofs.replacing.abstracted.Goals as goal

pub returns-then-same_node : goal.returns-then-same_node
returns-then-same_node c =
    let whole : c.args.term.now ≡ abs c.in-Abs.u c.in-Abs.b = sym c.node.ensures ∙ ap named_of c.in-Abs.is in
    let variable : c.in-Abs.u ≡ c.args.v.now = (variable_eq_decides c.in-Abs.u c.args.v.now).0 (sym c.if-same.ensures) in
    let body : c.in-Abs.b ≡ c.args.body.now = search rules in
    IfOk-weaker c.copy.result (λ t. t ≡ c.args.term.now) (λ t. t ≡ abs c.args.v.now c.args.body.now) (λ t is. is ∙ whole ∙ (λ i. abs (variable i) (body i))) c.copy.ensures
