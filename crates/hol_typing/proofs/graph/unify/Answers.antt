use Rattle.std.proofs.Common.{List, subst, ◌∙◌, arith}
use Rattle.hol_typing.specs.declared.cell.Equation.{Equation}
use Rattle.hol_typing.specs.Graph.{SameSolutions}
use Rattle.hol_typing.proofs.Solving.{same_solutions_trans, last_first}
use Rattle.hol_typing.proofs.graph.unify.Goals as goal

pub loop-equation-preserved : goal.loop-equation-preserved
loop-equation-preserved c = record {
  graph = c.in_ok-slot.ensures.graph;
  len = c.in_ok-slot.ensures.len ∙ c.loop-equation.invariant.len;
  pending_in = c.in_ok-slot.ensures.pending_in;
  solutions = same_solutions_trans _ _ _ _ _ _ c.in_ok-slot.ensures.solutions
      (same_solutions_trans _ _ _ _ _ _ (last_first c.loop-equation.cells c.pop.new.self.items c.in-Some.equation)
      (subst (λ (p : List Equation). SameSolutions c.loop-equation.cells p c.args.cells.now c.args.pending.now.items) c.in-Some.ensures.items c.loop-equation.invariant.solutions));
  generics = (let a = c.in_ok-slot.ensures.generics in let b = c.loop-equation.invariant.generics in omega (arith, a, b));
}

pub returns-in-Some-2-clause-solutions : goal.returns-in-Some-2-clause-solutions
returns-in-Some-2-clause-solutions c = same_solutions_trans _ _ _ _ _ _ c.in_ok-slot.ensures.solutions
    (same_solutions_trans _ _ _ _ _ _ (last_first c.loop-equation.cells c.pop.new.self.items c.in-Some.equation)
    (subst (λ (p : List Equation). SameSolutions c.loop-equation.cells p c.args.cells.now c.args.pending.now.items) c.in-Some.ensures.items c.loop-equation.invariant.solutions))
