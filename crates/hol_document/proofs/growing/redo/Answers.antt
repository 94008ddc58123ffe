-- What was settled, and after that what is left of the old slots, if any is, as it stands.
use Rattle.std.proofs.Common.{◌-◌, ap, sym, ◌∙◌, subst, map, take, drop, length}
use Rattle.hol_document.specs.RunnerView.{setup_of}
use Rattle.hol_document.specs.Slots.{AreSlots, ended_of}
use Rattle.hol_document.proofs.Redone.{from_here, added_either, end_either}
use Rattle.hol_document.proofs.growing.redo.Goals as goal

pub settle_each-requires-clause-stood : goal.settle_each-requires-clause-stood
settle_each-requires-clause-stood g c =
    let slots = from_here (λ x. x.value) c.slots.result.now c.args.from ∙ ap (drop c.args.from) c.slots.ensures in
    (c.requires.stood.0, c.requires.stood.1, c.args.theory.now.last, subst (λ zs. AreSlots (setup_of c.args.runner.now) c.requires.stood.0 c.requires.stood.1 zs c.args.theory.now.last) (sym slots) c.requires.stood.2, c.requires.stood.3)

pub returns-clause-slots : goal.returns-clause-slots
returns-clause-slots g c =
    let xs = take (length c.slots.result.now - c.args.from) (drop c.args.from c.slots.result.now) in
    let slots = from_here (λ x. x.value) c.slots.result.now c.args.from ∙ ap (drop c.args.from) c.slots.ensures in
    let left = c.in_ok-at.ensures.left c.requires.stood.0 c.requires.stood.1 c.args.theory.now.last
    (subst (λ zs. AreSlots (setup_of c.args.runner.now) c.requires.stood.0 c.requires.stood.1 zs c.args.theory.now.last) (sym slots) c.requires.stood.2) c.requires.stood.3 in
    added_either (λ x. x.value) (setup_of c.args.runner.now) c.requires.stood.0 (map ended_of c.args.earlier.now) c.settle_each.new.growing.drift c.args.growing.state c.settle_each.new.growing.state c.args.theory.now.last c.in_ok-theory.theory.last
    xs c.in_ok-at.at c.args.until _ _ (drop c.args.from c.args.theory.now.slots) (map (λ x. x.value) c.args.growing.slots.items)
    (map (λ x. x.value) c.settle_each.new.growing.slots.items) c.in_ok-theory.theory.slots
    (sym slots) c.in_ok-at.ensures.within c.in_ok-theory.ensures.slots c.in_ok-theory.ensures.all c.in_ok-theory.ensures.cut
    c.in_ok-at.ensures.entries c.in_ok-at.ensures.proof c.in_ok-at.ensures.past c.requires.stood.4 left c.in_ok-at.ensures.done

pub returns-clause-same : goal.returns-clause-same
returns-clause-same g c = λ e.
    let xs = take (length c.slots.result.now - c.args.from) (drop c.args.from c.slots.result.now) in
    let slots = from_here (λ x. x.value) c.slots.result.now c.args.from ∙ ap (drop c.args.from) c.slots.ensures in
    let left = c.in_ok-at.ensures.left c.requires.stood.0 c.requires.stood.1 c.args.theory.now.last
    (subst (λ zs. AreSlots (setup_of c.args.runner.now) c.requires.stood.0 c.requires.stood.1 zs c.args.theory.now.last) (sym slots) c.requires.stood.2) c.requires.stood.3 in
    end_either (λ x. x.value) (setup_of c.args.runner.now) c.requires.stood.0 c.settle_each.new.growing.drift c.settle_each.new.growing.state c.args.theory.now.last c.in_ok-theory.theory.last xs c.in_ok-at.at
    c.in_ok-at.ensures.within c.in_ok-theory.ensures.all c.in_ok-theory.ensures.cut (sym c.has_same_entries-is_same.ensures ∙ e) left
