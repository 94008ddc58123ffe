use Rattle.std.proofs.Common.{sym, subst}
use Rattle.hol_stack.specs.StackValue.{StepValue}
use Rattle.hol_stack.specs.Sound.{Follows}
use Rattle.hol_stack.specs.declared.element.Change.TheVariants.{Left}
use Rattle.hol_stack.proofs.Elements.{goals_follow}
use Rattle.hol_stack.proofs.stack.Stack.follow_with.Goals as goal

pub follow-requires : goal.follow-requires
follow-requires c =
    subst (Follows c.args.self.now.newest (Left c.in_ok-own.own)) (sym c.in_ok-element.ensures)
    (goals_follow c.args.self.now.newest c.args.next.now c.args.step.now c.in_ok-own.own c.in_ok-own.ensures c.requires.within c.requires.step c.requires.goals)
