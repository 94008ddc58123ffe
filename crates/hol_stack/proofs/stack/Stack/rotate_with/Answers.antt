use Rattle.std.specs.Prelude.{◌%◌, length, refl}
use Rattle.std.proofs.Common.{ap}
use Rattle.hol_stack.proofs.Elements.{kept_turn, some_open, turn_fits}
use Rattle.hol_stack.proofs.stack.Stack.rotate_with.Goals as goal

pub follow-requires : goal.follow-requires
follow-requires c =
    let open_goals = c.goals-open.result.now in
    kept_turn c.args.self.now.newest c.args.next.now c.in_ok-element.element c.args.times (c.args.times % length open_goals) (length open_goals) c.in_ok-element.ensures c.requires.turned
    (ap length c.goals-open.ensures) refl
    (turn_fits c.args.times open_goals c.args.self.now.newest.goals c.goals-open.ensures (some_open open_goals c.args.self.now.newest.goals c.goals-open.ensures c.requires.open))
