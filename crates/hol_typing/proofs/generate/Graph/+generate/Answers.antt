-- Of each form of term: that what the calls on its parts did to the graph, one after the other, is what generating does for the whole.
use Rattle.std.proofs.Common.{◌≡◌, sym, ap, refl, subst, length, Box, Global}
use Rattle.hol_typing.specs.declared.skeleton.Skeleton.{Skeleton}
use Rattle.std.proofs.lemmas.Result.{IfOk-weaker}
use Rattle.hol_typing.specs.Generate.{IsClosedAt}
use Rattle.hol_typing.specs.Raw.{RawTree, RawBound, RawConstant, RawFree, RawApply, RawAbstraction, RawAnnotated}
use Rattle.hol_typing.specs.SlotTree.{SlotApply, SlotAbstraction}
use Rattle.hol_typing.specs.RawView.{raw_tree, slot_tree, scope_slots}
use Rattle.hol_typing.proofs.Generating.{told, generates_apply, generates_abstraction, generates_annotated, generates_same}
use Rattle.hol_typing.proofs.generate.Graph.+generate.Goals as goal

pub bound-requires-clause-index_in : goal.bound-requires-clause-index_in
bound-requires-clause-index_in t c = subst (λ (r : RawTree). IsClosedAt (length (scope_slots c.args.scope.now)) r) (ap raw_tree c.in-Bound.is) c.requires.closed

pub returns-in-Bound : goal.returns-in-Bound
returns-in-Bound t c =
    let e : raw_tree c.args.term.now ≡ RawBound c.in-Bound.index = ap raw_tree c.in-Bound.is in
    IfOk-weaker _ _ _
    (λ (s : Box Skeleton Global) made. let h = told _ _ _ made c.bound.ensures in generates_same c.args.self.now c.bound.new.self (scope_slots c.args.scope.now) (RawBound c.in-Bound.index) (raw_tree c.args.term.now) c.args.expected (slot_tree s.value) (slot_tree s.value) (sym e) refl h)
    c.boxed.ensures

pub returns-in-Constant : goal.returns-in-Constant
returns-in-Constant t c =
    let e : raw_tree c.args.term.now ≡ RawConstant c.in-Constant.name c.in-Constant.generic = ap raw_tree c.in-Constant.is in
    IfOk-weaker _ _ _
    (λ (s : Box Skeleton Global) made. let h = told _ _ _ made c.constant.ensures in generates_same c.args.self.now c.constant.new.self (scope_slots c.args.scope.now) (RawConstant c.in-Constant.name c.in-Constant.generic) (raw_tree c.args.term.now) c.args.expected (slot_tree s.value) (slot_tree s.value) (sym e) refl (h (scope_slots c.args.scope.now)))
    c.boxed-in-Constant.ensures

pub returns-in-Free : goal.returns-in-Free
returns-in-Free t c =
    let e : raw_tree c.args.term.now ≡ RawFree c.in-Free.name = ap raw_tree c.in-Free.is in
    IfOk-weaker _ _ _
    (λ (s : Box Skeleton Global) made. let h = told _ _ _ made c.free.ensures in generates_same c.args.self.now c.free.new.self (scope_slots c.args.scope.now) (RawFree c.in-Free.name) (raw_tree c.args.term.now) c.args.expected (slot_tree s.value) (slot_tree s.value) (sym e) refl (h (scope_slots c.args.scope.now)))
    c.boxed-in-Free.ensures

pub returns-in_ok-right-in-Apply : goal.returns-in_ok-right-in-Apply
returns-in_ok-right-in-Apply t c =
    let e : raw_tree c.args.term.now ≡ RawApply (raw_tree c.in-Apply.function.value) (raw_tree c.in-Apply.argument.value) = ap raw_tree c.in-Apply.is in
    IfOk-weaker _ _ _
    (λ (s : Box Skeleton Global) whole. generates_same c.args.self.now c.generate-in-Apply.new.self (scope_slots c.args.scope.now)
    (RawApply (raw_tree c.in-Apply.function.value) (raw_tree c.in-Apply.argument.value)) (raw_tree c.args.term.now) c.args.expected
    (SlotApply (slot_tree c.in_ok-left-in-Apply.left.value) (slot_tree c.in_ok-right-in-Apply.right.value)) (slot_tree s.value)
    (sym e) (sym whole)
    (generates_apply c.args.self.now c.in_ok-function_slot-in-Apply.ensures.opens.middle c.open_application.new.self c.generate.new.self c.generate-in-Apply.new.self (scope_slots c.args.scope.now)
    (raw_tree c.in-Apply.function.value) (raw_tree c.in-Apply.argument.value) c.args.expected c.in_ok-function_slot-in-Apply.domain c.in_ok-function_slot-in-Apply.function_slot
    (slot_tree c.in_ok-left-in-Apply.left.value) (slot_tree c.in_ok-right-in-Apply.right.value)
    c.requires.well_formed c.requires.bound_in c.requires.expected_in
    c.in_ok-function_slot-in-Apply.ensures.opens.domain c.in_ok-function_slot-in-Apply.ensures.opens.function
    (generates_same _ _ _ _ _ _ _ _ (ap raw_tree c.deref.ensures) refl c.in_ok-left-in-Apply.ensures)
    (generates_same _ _ _ _ _ _ _ _ (ap raw_tree c.deref-in-Apply.ensures) refl c.in_ok-right-in-Apply.ensures)))
    c.apply.ensures

pub returns-in_ok-inner-in-Abstraction : goal.returns-in_ok-inner-in-Abstraction
returns-in_ok-inner-in-Abstraction t c =
    let e : raw_tree c.args.term.now ≡ RawAbstraction c.in-Abstraction.name c.in-Abstraction.annotation (raw_tree c.in-Abstraction.body.value) = ap raw_tree c.in-Abstraction.is in
    IfOk-weaker _ _ _
    (λ (s : Box Skeleton Global) whole. generates_same c.args.self.now c.generate-in-Abstraction.new.self (scope_slots c.args.scope.now)
    (RawAbstraction c.in-Abstraction.name c.in-Abstraction.annotation (raw_tree c.in-Abstraction.body.value)) (raw_tree c.args.term.now) c.args.expected
    (SlotAbstraction c.in-Abstraction.name c.in_ok-variable-in-Abstraction.variable (slot_tree c.in_ok-inner-in-Abstraction.inner.value)) (slot_tree s.value)
    (sym e) (sym whole)
    (generates_abstraction c.args.self.now c.in_ok-variable-in-Abstraction.ensures.opens.first c.in_ok-variable-in-Abstraction.ensures.opens.second c.in_ok-variable-in-Abstraction.ensures.opens.third c.open_abstraction.new.self c.generate-in-Abstraction.new.self (scope_slots c.args.scope.now)
    c.in-Abstraction.name c.in-Abstraction.annotation (raw_tree c.in-Abstraction.body.value) c.args.expected c.in_ok-variable-in-Abstraction.variable c.in_ok-variable-in-Abstraction.range c.in_ok-variable-in-Abstraction.ensures.opens.slot (slot_tree c.in_ok-inner-in-Abstraction.inner.value)
    c.requires.well_formed c.requires.bound_in c.requires.expected_in
    c.in_ok-variable-in-Abstraction.ensures.opens.variable c.in_ok-variable-in-Abstraction.ensures.opens.range c.in_ok-variable-in-Abstraction.ensures.opens.whole c.in_ok-variable-in-Abstraction.ensures.opens.same
    (generates_same _ _ _ _ _ _ _ _ (ap raw_tree c.deref-in-Abstraction.ensures) refl c.in_ok-inner-in-Abstraction.ensures)))
    c.abstraction.ensures

pub returns-in_ok-open_annotation-in-Annotated : goal.returns-in_ok-open_annotation-in-Annotated
returns-in_ok-open_annotation-in-Annotated t c =
    let e : raw_tree c.args.term.now ≡ RawAnnotated (raw_tree c.in-Annotated.inner.value) c.in-Annotated.ty = ap raw_tree c.in-Annotated.is in
    IfOk-weaker _ _ _
    (λ (s : Box Skeleton Global) inner. generates_same c.args.self.now c.generate-in-Annotated.new.self (scope_slots c.args.scope.now)
    (RawAnnotated (raw_tree c.in-Annotated.inner.value) c.in-Annotated.ty) (raw_tree c.args.term.now) c.args.expected
    (slot_tree s.value) (slot_tree s.value)
    (sym e) refl
    (generates_annotated c.args.self.now c.in_ok-open_annotation-in-Annotated.ensures.opens.middle c.open_annotation.new.self c.generate-in-Annotated.new.self (scope_slots c.args.scope.now)
    (raw_tree c.in-Annotated.inner.value) c.in-Annotated.ty c.args.expected c.in_ok-open_annotation-in-Annotated.ensures.opens.slot (slot_tree s.value)
    c.requires.bound_in c.requires.expected_in
    c.in_ok-open_annotation-in-Annotated.ensures.opens.builds c.in_ok-open_annotation-in-Annotated.ensures.opens.same
    (generates_same _ _ _ _ _ _ _ _ (ap raw_tree c.deref-in-Annotated.ensures) refl inner)))
    c.generate-in-Annotated.ensures
