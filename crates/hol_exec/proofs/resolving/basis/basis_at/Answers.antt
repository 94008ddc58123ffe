use Rattle.std.proofs.Common.{◌≡◌, true, ◌∙◌, ap, sym, rules}
use Rattle.std.proofs.lemmas.Result.{IfOk-weaker}
use Rattle.hol_resolve.specs.ReadingView.{list_value}
use Rattle.hol_theory.specs.EntryView.{entry_of_node}
use Rattle.hol_exec.specs.Resolved.{occurs_in}
use Rattle.hol_exec.proofs.CitedBases.{adds_type, adds_constant, adds_theorem, adds_tac}
use Rattle.hol_exec.proofs.resolving.basis.basis_at.Goals as goal

pub returns-in-Type : goal.returns-in-Type
returns-in-Type c =
    IfOk-weaker c.copy.result _ _
    (λ basis e. adds_type (list_value c.args.readings.now) c.args.value.now.0 _ c.in-Some.entry c.in-Type.arity c.in-Type.item c.in-Type.basis basis c.in-Some.is (sym c.node.ensures ∙ ap entry_of_node c.in-Type.is) e)
    c.copy.ensures

pub returns-else-not-occurs_in : goal.returns-else-not-occurs_in
returns-else-not-occurs_in c =
    let there : occurs_in c.args.value.now.0.name (list_value c.args.readings.now) ≡ true = search rules in
    IfOk-weaker c.copy-in-Constant.result _ _
    (λ basis e. adds_constant (list_value c.args.readings.now) c.args.value.now.0 _ c.in-Some.entry c.in-Constant.ty c.in-Constant.item c.in-Constant.basis basis c.in-Some.is (sym c.node.ensures ∙ ap entry_of_node c.in-Constant.is) there e)
    c.copy-in-Constant.ensures

pub returns-in-Theorem : goal.returns-in-Theorem
returns-in-Theorem c =
    IfOk-weaker c.copy-in-Theorem.result _ _
    (λ basis e. adds_theorem (list_value c.args.readings.now) c.args.value.now.0 _ c.in-Some.entry c.in-Theorem.theorem c.basis.result.now basis c.in-Some.is (sym c.node.ensures ∙ ap entry_of_node c.in-Theorem.is) c.basis.ensures e)
    c.copy-in-Theorem.ensures

pub returns-in-Tac : goal.returns-in-Tac
returns-in-Tac c =
    IfOk-weaker c.copy-in-Tac.result _ _
    (λ basis e. adds_tac (list_value c.args.readings.now) c.args.value.now.0 _ c.in-Some.entry c.in-Tac.expr c.in-Tac.bases.items c.in-Tac.basis basis c.in-Some.is (sym c.node.ensures ∙ ap entry_of_node c.in-Tac.is) e)
    c.copy-in-Tac.ensures
