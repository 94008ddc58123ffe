-- One turn of the loop: the slot here is the first of those that are left, and what settles it is added to what is done.
use Rattle.std.proofs.Common.{◌∙◌, map, arith}
use Rattle.hol_document.specs.RunnerView.{setup_of}
use Rattle.hol_document.specs.Slots.{IsSlot, ended_of}
use Rattle.hol_document.proofs.Redone.{added_next, slot_here, left_next, pushed}
use Rattle.hol_document.proofs.growing.settle_each.Goals as goal

pub settle-requires : goal.settle-requires
settle-requires g c =
    let inv = c.loop-at.invariant in
    let left = inv.left c.requires.stood.0 c.requires.stood.1 c.requires.stood.2 c.requires.stood.3 c.requires.stood.4 in
    let here = slot_here (λ x. x.value) (setup_of c.args.runner.now) c.requires.stood.0 left.0 c.requires.stood.2 c.args.slots.now c.loop-at.at c.index-slots-at.result c.loop-at-test.true c.index-slots-at.is left.1 in
    record { theories = c.requires.theories; kept = c.in_ok-kept.ensures; stood = (c.requires.stood.0, left.0, rw inv.goes.0 here.0, left.2) }

pub loop-at-preserved : goal.loop-at-preserved
loop-at-preserved g c =
    let inv = c.loop-at.invariant in
    let slot : IsSlot (setup_of c.args.runner.now) (map ended_of c.args.earlier.now) c.loop-at.growing.state c.in_ok-new.new.value = rw (← inv.goes.0) c.in_ok-new.ensures.slot in
    record {
      goes = (c.in_ok-new.ensures.few.0 ∙ inv.goes.0, omega (arith, inv.goes.1, c.in_ok-new.ensures.few.1));
      done = added_next (λ x. x.value) (setup_of c.args.runner.now) (map ended_of c.args.earlier.now) c.args.growing.now.state c.loop-at.growing.state c.settle.new.state
          c.args.slots.now c.loop-at.at c.index-slots-at.result _ (map (λ x. x.value) c.loop-at.growing.slots.items) (map (λ x. x.value) c.push.new.self.items) c.in_ok-new.new.value
          _ _ _ c.loop-at-test.true c.index-slots-at.is
          (pushed (λ x. x.value) c.loop-at.growing.slots.items c.push.new.self.items c.in_ok-new.new c.in_ok-push.ensures.items) inv.done
          slot c.in_ok-new.ensures.text c.in_ok-new.ensures.state c.in_ok-new.ensures.few.2;
      left = λ before s last slots alike.
          left_next (λ x. x.value) (setup_of c.args.runner.now) before c.loop-at.growing.drift c.settle.new.drift last c.loop-at.growing.state c.settle.new.state c.in_ok-new.new.value.row.outcome
          c.args.slots.now c.loop-at.at c.index-slots-at.result c.loop-at-test.true c.index-slots-at.is c.in_ok-new.ensures.state
          (λ t is like. c.in_ok-new.ensures.alike before t (rw inv.goes.0 is) like) (inv.left before s last slots alike);
    }
