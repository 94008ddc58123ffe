-- The state after all slots is the one that those after the last kept state lead to.
use Rattle.std.proofs.Common.{sym, subst, map}
use Rattle.hol_document.specs.Slots.{AreSlots, ended_of}
use Rattle.hol_document.proofs.Redone.{led_here, rest_here}
use Rattle.hol_document.proofs.growing.resumed.Goals as goal

pub resume_each-requires : goal.resume_each-requires
resume_each-requires c =
    let led = c.in_ok-from.ensures.state c.requires.0 (map ended_of c.args.earlier.now) c.requires.1 c.requires.2 in (
      c.requires.0,
      map ended_of c.args.earlier.now,
      c.promise_each.ensures,
      c.requires.1,
      subst (λ zs. AreSlots c.requires.0 (map ended_of c.args.earlier.now) c.in_ok-from.state zs c.requires.1) (sym (rest_here (λ x. x.value) c.args.slots.now c.in_ok-from.from)) led,
    )

pub returns-clause-state : goal.returns-clause-state
returns-clause-state c = led_here (λ x. x.value) c.args.slots.now c.in_ok-from.from c.in_ok-from.state c.resume_each.new.state c.in_ok-from.ensures.state c.in_ok-resume_each.ensures
