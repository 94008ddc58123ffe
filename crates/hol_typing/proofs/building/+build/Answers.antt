-- Of each part of the term: that it is smaller, and meets what `build` asks for as the whole does. Of each form: that what is built is the
-- term of its typing.
use Rattle.std.proofs.Common.{◌≡◌, map, length, sym, subst, ap, ◌∙◌, rules, List, ℕ, ◌∷◌}
use Rattle.std.proofs.lemmas.Result.{IfOk-weaker}
use Rattle.hol_types.specs.Tree.{TypeTree}
use Rattle.hol_terms.specs.Named.{var, constant, abs}
use Rattle.hol_terms.specs.Scope.{binders}
use Rattle.hol_terms.specs.Nameless.{nameless, bound, base_of}
use Rattle.hol_typing.specs.RawView.{slot_tree}
use Rattle.hol_typing.specs.SlotTree.{SlotTree, SlotBound, SlotConstant, SlotFree, SlotApply, SlotAbstraction, typed, AreSlotsIn}
use Rattle.hol_typing.specs.Scoped.{IsSlotScoped}
use Rattle.hol_typing.specs.Found.{types_at}
use Rattle.hol_typing.specs.Holes.{open_type}
use Rattle.hol_typing.specs.Solved.{IsWellTyped}
use Rattle.hol_typing.proofs.Named.{free_place, abstraction_built, typed_function, typed_argument, typed_body, comb_fits, only_memory, function_falls, argument_falls, body_falls}
use Rattle.hol_typing.proofs.building.+build.Goals as goal

pub build-requires : goal.build-requires
build-requires t c =
    let e : slot_tree c.args.term.now ≡ SlotApply (slot_tree c.in-Apply.function.value) (slot_tree c.in-Apply.argument.value) = ap slot_tree c.in-Apply.is in
    let f : slot_tree c.in-Apply.function.value ≡ slot_tree c.deref.result.now = sym (ap slot_tree c.deref.ensures) in
    let whole = subst (λ (s : SlotTree). IsWellTyped (map (λ v. v.1) (binders c.args.scope.now)) (typed (types_at c.args.shapes.now (open_type c.args.order.now)) s)) e c.requires.well_typed in
    let size = function_falls (slot_tree c.args.term.now) (slot_tree c.in-Apply.function.value) (slot_tree c.in-Apply.argument.value) (slot_tree c.deref.result.now) e f in (
      search rules,
      (
        subst (λ (s : SlotTree). AreSlotsIn (length c.args.shapes.now) s) f (subst (λ (s : SlotTree). AreSlotsIn (length c.args.shapes.now) s) e c.requires.slots_in).0,
        (
          subst (λ (s : SlotTree). IsSlotScoped (map (λ v. v.0) (binders c.args.scope.now)) s) f (subst (λ (s : SlotTree). IsSlotScoped (map (λ v. v.0) (binders c.args.scope.now)) s) e c.requires.scoped).0,
          subst (λ (s : SlotTree). IsWellTyped (map (λ v. v.1) (binders c.args.scope.now)) (typed (types_at c.args.shapes.now (open_type c.args.order.now)) s)) f
              (typed_function (map (λ v. v.1) (binders c.args.scope.now)) (typed (types_at c.args.shapes.now (open_type c.args.order.now)) (slot_tree c.in-Apply.function.value)) (typed (types_at c.args.shapes.now (open_type c.args.order.now)) (slot_tree c.in-Apply.argument.value)) whole),
        ),
      ),
    )

pub build-requires-in-Apply : goal.build-requires-in-Apply
build-requires-in-Apply t c =
    let e : slot_tree c.args.term.now ≡ SlotApply (slot_tree c.in-Apply.function.value) (slot_tree c.in-Apply.argument.value) = ap slot_tree c.in-Apply.is in
    let f : slot_tree c.in-Apply.argument.value ≡ slot_tree c.deref-in-Apply.result.now = sym (ap slot_tree c.deref-in-Apply.ensures) in
    let whole = subst (λ (s : SlotTree). IsWellTyped (map (λ v. v.1) (binders c.args.scope.now)) (typed (types_at c.args.shapes.now (open_type c.args.order.now)) s)) e c.requires.well_typed in
    let size = argument_falls (slot_tree c.args.term.now) (slot_tree c.in-Apply.function.value) (slot_tree c.in-Apply.argument.value) (slot_tree c.deref-in-Apply.result.now) e f in (
      search rules,
      (
        subst (λ (s : SlotTree). AreSlotsIn (length c.args.shapes.now) s) f (subst (λ (s : SlotTree). AreSlotsIn (length c.args.shapes.now) s) e c.requires.slots_in).1,
        (
          subst (λ (s : SlotTree). IsSlotScoped (map (λ v. v.0) (binders c.args.scope.now)) s) f (subst (λ (s : SlotTree). IsSlotScoped (map (λ v. v.0) (binders c.args.scope.now)) s) e c.requires.scoped).1,
          subst (λ (s : SlotTree). IsWellTyped (map (λ v. v.1) (binders c.args.scope.now)) (typed (types_at c.args.shapes.now (open_type c.args.order.now)) s)) f
              (typed_argument (map (λ v. v.1) (binders c.args.scope.now)) (typed (types_at c.args.shapes.now (open_type c.args.order.now)) (slot_tree c.in-Apply.function.value)) (typed (types_at c.args.shapes.now (open_type c.args.order.now)) (slot_tree c.in-Apply.argument.value)) whole),
        ),
      ),
    )

pub build-requires-in-Abstraction : goal.build-requires-in-Abstraction
build-requires-in-Abstraction t c =
    let e : slot_tree c.args.term.now ≡ SlotAbstraction c.in-Abstraction.name c.in-Abstraction.slot (slot_tree c.in-Abstraction.body.value) = ap slot_tree c.in-Abstraction.is in
    let f : slot_tree c.in-Abstraction.body.value ≡ slot_tree c.deref-in-Abstraction.result.now = sym (ap slot_tree c.deref-in-Abstraction.ensures) in
    let v_is : c.in_ok-variable-in-Abstraction.variable ≡ (c.in-Abstraction.name, types_at c.args.shapes.now (open_type c.args.order.now) c.in-Abstraction.slot) =
    c.in_ok-variable-in-Abstraction.ensures in
    let whole = subst (λ (s : SlotTree). IsWellTyped (map (λ v. v.1) (binders c.args.scope.now)) (typed (types_at c.args.shapes.now (open_type c.args.order.now)) s)) e c.requires.well_typed in
    let size = body_falls (slot_tree c.args.term.now) (slot_tree c.in-Abstraction.body.value) (slot_tree c.deref-in-Abstraction.result.now) c.in-Abstraction.name c.in-Abstraction.slot e f in (
      search rules,
      (
        subst (λ (s : SlotTree). AreSlotsIn (length c.args.shapes.now) s) f (subst (λ (s : SlotTree). AreSlotsIn (length c.args.shapes.now) s) e c.requires.slots_in).1,
        (
          subst (λ (w : List ℕ × TypeTree). IsSlotScoped (w.0 ∷ map (λ v. v.0) (binders c.args.scope.now)) (slot_tree c.deref-in-Abstraction.result.now)) (sym v_is)
              (subst (λ (s : SlotTree). IsSlotScoped (c.in-Abstraction.name ∷ map (λ v. v.0) (binders c.args.scope.now)) s) f (subst (λ (s : SlotTree). IsSlotScoped (map (λ v. v.0) (binders c.args.scope.now)) s) e c.requires.scoped)),
          subst (λ (w : List ℕ × TypeTree). IsWellTyped (w.1 ∷ map (λ v. v.1) (binders c.args.scope.now)) (typed (types_at c.args.shapes.now (open_type c.args.order.now)) (slot_tree c.deref-in-Abstraction.result.now))) (sym v_is)
              (subst (λ (s : SlotTree). IsWellTyped (types_at c.args.shapes.now (open_type c.args.order.now) c.in-Abstraction.slot ∷ map (λ v. v.1) (binders c.args.scope.now)) (typed (types_at c.args.shapes.now (open_type c.args.order.now)) s)) f
              (typed_body (map (λ v. v.1) (binders c.args.scope.now)) (base_of c.in-Abstraction.name) (types_at c.args.shapes.now (open_type c.args.order.now) c.in-Abstraction.slot) (typed (types_at c.args.shapes.now (open_type c.args.order.now)) (slot_tree c.in-Abstraction.body.value)) whole)),
        ),
      ),
    )

pub bound_at-requires : goal.bound_at-requires
bound_at-requires t c =
    let e : slot_tree c.args.term.now ≡ SlotBound c.in-Bound.index = ap slot_tree c.in-Bound.is in
    subst (λ (s : SlotTree). IsSlotScoped (map (λ v. v.0) (binders c.args.scope.now)) s) e c.requires.scoped

pub returns-in-Bound-clause-ok : goal.returns-in-Bound-clause-ok
returns-in-Bound-clause-ok t c =
    let e : slot_tree c.args.term.now ≡ SlotBound c.in-Bound.index = ap slot_tree c.in-Bound.is in
    IfOk-weaker c.bound_at.result
    (λ r. nameless (binders c.args.scope.now) r ≡ bound c.in-Bound.index)
    (λ r. nameless (binders c.args.scope.now) r ≡ typed (types_at c.args.shapes.now (open_type c.args.order.now)) (slot_tree c.args.term.now))
    (λ r is. is ∙ sym (ap (typed (types_at c.args.shapes.now (open_type c.args.order.now))) e))
    c.bound_at.ensures.ok

pub returns-in-Constant-clause-ok : goal.returns-in-Constant-clause-ok
returns-in-Constant-clause-ok t c =
    let e : slot_tree c.args.term.now ≡ SlotConstant c.in-Constant.name c.in-Constant.slot = ap slot_tree c.in-Constant.is in
    IfOk-weaker c.constant_at.result
    (λ r. r ≡ constant c.in-Constant.name (types_at c.args.shapes.now (open_type c.args.order.now) c.in-Constant.slot))
    (λ r. nameless (binders c.args.scope.now) r ≡ typed (types_at c.args.shapes.now (open_type c.args.order.now)) (slot_tree c.args.term.now))
    (λ r is. ap (nameless (binders c.args.scope.now)) is ∙ sym (ap (typed (types_at c.args.shapes.now (open_type c.args.order.now))) e))
    c.constant_at.ensures.ok

pub returns-in-Free-clause-ok : goal.returns-in-Free-clause-ok
returns-in-Free-clause-ok t c =
    let e : slot_tree c.args.term.now ≡ SlotFree c.in-Free.name c.in-Free.slot = ap slot_tree c.in-Free.is in
    IfOk-weaker c.free_at.result
    (λ r. r ≡ var (c.in-Free.name, types_at c.args.shapes.now (open_type c.args.order.now) c.in-Free.slot))
    (λ r. nameless (binders c.args.scope.now) r ≡ typed (types_at c.args.shapes.now (open_type c.args.order.now)) (slot_tree c.args.term.now))
    (λ r is. ap (nameless (binders c.args.scope.now)) is
    ∙ free_place (binders c.args.scope.now) c.in-Free.name (types_at c.args.shapes.now (open_type c.args.order.now) c.in-Free.slot) (subst (λ (s : SlotTree). IsSlotScoped (map (λ v. v.0) (binders c.args.scope.now)) s) e c.requires.scoped)
    ∙ sym (ap (typed (types_at c.args.shapes.now (open_type c.args.order.now))) e))
    c.free_at.ensures.ok

pub returns-in_ok-right-in-Apply-clause-memory : goal.returns-in_ok-right-in-Apply-clause-memory
returns-in_ok-right-in-Apply-clause-memory t c =
    let e : slot_tree c.args.term.now ≡ SlotApply (slot_tree c.in-Apply.function.value) (slot_tree c.in-Apply.argument.value) = ap slot_tree c.in-Apply.is in
    let whole = subst (λ (s : SlotTree). IsWellTyped (map (λ v. v.1) (binders c.args.scope.now)) (typed (types_at c.args.shapes.now (open_type c.args.order.now)) s)) e c.requires.well_typed in
    let left_is = c.in_ok-left-in-Apply.ensures.ok ∙ ap (λ (s : SlotTree). typed (types_at c.args.shapes.now (open_type c.args.order.now)) s) (ap slot_tree c.deref.ensures) in
    let right_is = c.in_ok-right-in-Apply.ensures.ok ∙ ap (λ (s : SlotTree). typed (types_at c.args.shapes.now (open_type c.args.order.now)) s) (ap slot_tree c.deref-in-Apply.ensures) in
    only_memory c.comb.result
    (λ bad. comb_fits (binders c.args.scope.now) c.in_ok-left-in-Apply.left c.in_ok-right-in-Apply.right
    (typed (types_at c.args.shapes.now (open_type c.args.order.now)) (slot_tree c.in-Apply.function.value)) (typed (types_at c.args.shapes.now (open_type c.args.order.now)) (slot_tree c.in-Apply.argument.value))
    left_is right_is whole (c.comb.ensures.fits.0 bad))
    (λ bad. c.comb.ensures.no_other bad)

pub returns-in_ok-inner-in-Abstraction-clause-ok : goal.returns-in_ok-inner-in-Abstraction-clause-ok
returns-in_ok-inner-in-Abstraction-clause-ok t c =
    let e : slot_tree c.args.term.now ≡ SlotAbstraction c.in-Abstraction.name c.in-Abstraction.slot (slot_tree c.in-Abstraction.body.value) = ap slot_tree c.in-Abstraction.is in
    let inner_is = c.in_ok-inner-in-Abstraction.ensures.ok ∙ ap (λ (s : SlotTree). typed (types_at c.args.shapes.now (open_type c.args.order.now)) s) (ap slot_tree c.deref-in-Abstraction.ensures) in
    IfOk-weaker c.abstracted.result
    (λ r. r ≡ abs c.in_ok-variable-in-Abstraction.variable c.in_ok-inner-in-Abstraction.inner)
    (λ r. nameless (binders c.args.scope.now) r ≡ typed (types_at c.args.shapes.now (open_type c.args.order.now)) (slot_tree c.args.term.now))
    (λ r is. abstraction_built (types_at c.args.shapes.now (open_type c.args.order.now)) (binders c.args.scope.now) (slot_tree c.args.term.now) c.in-Abstraction.name c.in-Abstraction.slot (slot_tree c.in-Abstraction.body.value)
    c.in_ok-variable-in-Abstraction.variable c.in_ok-inner-in-Abstraction.inner r e c.in_ok-variable-in-Abstraction.ensures inner_is is)
    c.abstracted.ensures.ok
