use Rattle.std.specs.Prelude.{◌++◌, ◌%◌, drop, take, length, refl}
use Rattle.std.proofs.Common.{ap, ◌∙◌}
use Rattle.hol_stack.specs.StackValue.{StackValue}
use Rattle.hol_stack.proofs.Elements.{turn_follows, turn_fits, rotated_by}
use Rattle.hol_stack.proofs.stack.Stack.rotate.Goals as goal

pub follow-requires : goal.follow-requires
follow-requires c =
    let by = c.args.times % length c.goals-open.result.now in
    turn_follows c.args.self.now.newest c.in_ok-next.next by
    (turn_fits c.args.times c.goals-open.result.now c.args.self.now.newest.goals c.goals-open.ensures c.if-open-eq0.false)
    (c.in_ok-next.ensures ∙ ap (λ (s : StackValue). record { goals = drop by s.newest.goals ++ take by s.newest.goals; basis = s.newest.basis }) c.self.view_is)

pub returns : goal.returns
returns c =
    let by = c.args.times % length c.goals-open.result.now in (
      λ none. c.if-open-eq0.false (ap length (c.goals-open.ensures ∙ none)),
      rotated_by c.args.self.now c.follow.new.self c.in_ok-next.next c.args.times by (length c.goals-open.result.now) (ap length c.goals-open.ensures) refl
          (turn_fits c.args.times c.goals-open.result.now c.args.self.now.newest.goals c.goals-open.ensures c.if-open-eq0.false)
          (c.in_ok-next.ensures ∙ ap (λ (s : StackValue). record { goals = drop by s.newest.goals ++ take by s.newest.goals; basis = s.newest.basis }) c.self.view_is)
          c.in_ok-follow.ensures.ok,
    )
