use Rattle.std.proofs.Common.{◌≡◌, ap, sym, ◌∙◌, subst, map, take, length}
use Rattle.std.proofs.Math.Seq.{take-length}
use Rattle.std.proofs.lemmas.Result.{IfOk-weaker}
use Rattle.hol_exec.specs.StateValue.{start}
use Rattle.hol_document.specs.Slots.{AreSlots, ended_of}
use Rattle.hol_document.proofs.Redone.{take_map, map_length}
use Rattle.hol_document.proofs.Standing.{slots_split, slots_end, front_split}
use Rattle.hol_document.proofs.growing.front.Goals as goal

pub resumed-requires : goal.resumed-requires
resumed-requires c =
    let split = slots_split c.requires.stood.0 (map ended_of c.args.earlier.now) start c.args.theory.now.last c.args.at c.args.theory.now.slots c.requires.stood.1 in
    let slots = take_map (λ x. x.value) c.slots-else-at-slots.result.now c.args.at ∙ ap (take c.args.at) c.slots-else-at-slots.ensures in
    (c.requires.stood.0, split.0, subst (λ zs. AreSlots c.requires.stood.0 (map ended_of c.args.earlier.now) start zs split.0) (sym slots) split.1)

pub returns-else-at-slots-clause-slots : goal.returns-else-at-slots-clause-slots
returns-else-at-slots-clause-slots c =
    IfOk-weaker c.resumed.result _ _ (λ growing e. e ∙ (take_map (λ x. x.value) c.slots-else-at-slots.result.now c.args.at ∙ ap (take c.args.at) c.slots-else-at-slots.ensures)) c.resumed.ensures.slots

pub returns-else-at-slots-clause-are : goal.returns-else-at-slots-clause-are
returns-else-at-slots-clause-are c =
    let slots = take_map (λ x. x.value) c.slots-else-at-slots.result.now c.args.at ∙ ap (take c.args.at) c.slots-else-at-slots.ensures in
    IfOk-weaker c.resumed.result _ _ (λ growing is. λ setup before last h. front_split setup before last growing.state c.args.at c.args.theory.now.slots h
    (λ mid front. is setup before mid (subst (λ zs. AreSlots setup before start zs mid) (sym slots) front))) c.resumed.ensures.state

-- at the end nothing is run through: slots lead to one state
pub returns-then-at-slots-clause-are : goal.returns-then-at-slots-clause-are
returns-then-at-slots-clause-are c =
    let slots = c.args.theory.now.slots in
    let count : c.args.at ≡ length slots = c.if-at-slots.true ∙ sym (map_length (λ x. x.value) c.slots.result.now) ∙ ap length c.slots.ensures in
    let whole : take c.args.at slots ≡ slots = ap (λ n. take n slots) count ∙ take-length slots in
    IfOk-weaker c.at_end.result _ _ (λ growing is. λ setup before last h. front_split setup before last growing.state c.args.at slots h
    (λ mid front. is ∙ slots_end c.requires.stood.0 setup (map ended_of c.args.earlier.now) before start c.args.theory.now.last mid slots c.requires.stood.1 (subst (λ zs. AreSlots setup before start zs mid) whole front))) c.at_end.ensures.state
