use Rattle.std.proofs.Common.{◌≡◌, sym, ◌∙◌, ap, arith}
use Rattle.std.proofs.lemmas.Result.{on_ok_weaker, IfErr-weaker}
use Rattle.hol_typing.proofs.Solving.{same_solutions_trans, has_no_solution_same, roots_edge, turned_edge, drop_edge}
use Rattle.hol_typing.proofs.graph.equate.Goals as goal

pub returns-then-left-right-clause-untypable : goal.returns-then-left-right-clause-untypable
returns-then-left-right-clause-untypable c = IfErr-weaker c.settle.result _ _
    (λ e h u. has_no_solution_same _ _ _ _ (roots_edge c.args.cells.now c.args.pending.now.items c.args.equation c.root-left.result c.root-right.result c.root-left.ensures.same c.root-right.ensures.same) (h u))
    c.settle.ensures.untypable

pub returns-then-right-left-clause-untypable : goal.returns-then-right-left-clause-untypable
returns-then-right-left-clause-untypable c = IfErr-weaker c.settle-then-right-left.result _ _
    (λ e h u. has_no_solution_same _ _ _ _ (turned_edge c.args.cells.now c.args.pending.now.items c.args.equation c.root-left.result c.root-right.result c.root-left.ensures.same c.root-right.ensures.same) (h u))
    c.settle-then-right-left.ensures.untypable

pub returns-then-right-left-clause-solutions : goal.returns-then-right-left-clause-solutions
returns-then-right-left-clause-solutions c = on_ok_weaker c.settle-then-right-left.result
    (λ h. same_solutions_trans _ _ _ _ _ _ h (turned_edge c.args.cells.now c.args.pending.now.items c.args.equation c.root-left.result c.root-right.result c.root-left.ensures.same c.root-right.ensures.same))
    c.settle-then-right-left.ensures.solutions

pub returns-clause-solutions : goal.returns-clause-solutions
returns-clause-solutions c = drop_edge c.args.cells.now c.args.pending.now.items c.args.equation
    (λ types r. let e : c.root-left.result ≡ c.root-right.result = omega arith in
    c.root-left.ensures.same types r ∙ ap types e ∙ sym (c.root-right.ensures.same types r))
