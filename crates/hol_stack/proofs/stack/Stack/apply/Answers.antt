use Rattle.std.specs.Prelude.{◌++◌, drop}
use Rattle.std.proofs.Common.{sym, ◌∙◌, subst}
use Rattle.std.specs.FinSet as set
use Rattle.hol_kernel.specs.Extends.{Agree}
use Rattle.hol_stack.specs.StackValue.{StackValue}
use Rattle.hol_stack.proofs.Elements.{step_follows}
use Rattle.hol_stack.proofs.stack.Stack.apply.Goals as goal

pub replaced-requires : goal.replaced-requires
replaced-requires c = subst (λ (s : StackValue). Agree s.newest.basis c.args.basis.now) (sym c.self.view_is) c.requires.joins

pub follow-requires : goal.follow-requires
follow-requires c =
    step_follows c.args.self.now.newest c.in_ok-next.next c.args.basis.now c.args.step.now c.in_ok-own.own c.in_ok-own.ensures c.requires.step
    (c.in_ok-next.ensures ∙ (λ i. record { goals = c.goals.ensures i ++ drop 1 (c.self.view_is i).newest.goals; basis = set.union (c.self.view_is i).newest.basis c.args.basis.now }))
