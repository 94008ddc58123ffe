use Rattle.std.proofs.Common.{arith}
use Rattle.std.proofs.lemmas.Result.{on_ok_weaker}
use Rattle.hol_typing.proofs.generate.Graph.open_annotation.Goals as goal

pub returns-clause-opens : goal.returns-clause-opens
returns-clause-opens c = on_ok_weaker c.equate.result
    (λ same. record {
      middle = c.type_slot.new.self;
      slot = c.in_ok-slot.slot;
      builds = c.in_ok-slot.ensures;
      same = same;
    })
    c.equate.ensures

pub returns-clause-well_formed : goal.returns-clause-well_formed
returns-clause-well_formed c = on_ok_weaker c.equate.result (λ same. same.well_formed) c.equate.ensures

pub returns-clause-more : goal.returns-clause-more
returns-clause-more c = on_ok_weaker c.equate.result
    (λ same.
    let more = c.in_ok-slot.ensures.more in
    let slots_are = same.slots_are in
    omega (arith, more, slots_are))
    c.equate.ensures
