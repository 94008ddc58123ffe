use Rattle.std.proofs.Common.{sym, subst, ◌≤◌}
use Rattle.hol_stack.proofs.Exact.{turn_within, turn_achieves}
use Rattle.hol_stack.proofs.finishing.before.Goals as goal

pub rotate_right-requires : goal.rotate_right-requires
rotate_right-requires c =
    subst (λ n. c.in-Turned.by ≤ n) (sym c.args.thms.ok.0) (turn_within c.args.basis.now c.args.one.now c.in-Turned.by c.args.thms.items c.requires.next c.in-Turned.is)

pub returns-in-Turned-clause-achieved : goal.returns-in-Turned-clause-achieved
returns-in-Turned-clause-achieved c =
    turn_achieves c.args.basis.now c.args.one.now c.in-Turned.by c.args.thms.len c.args.thms.items c.rotate_right.new.self.items c.requires.next c.in-Turned.is c.args.thms.ok.0 c.rotate_right.ensures.items
