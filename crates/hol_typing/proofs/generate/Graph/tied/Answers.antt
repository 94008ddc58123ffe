use Rattle.std.proofs.Common.{◌≡◌, List, ℕ, length, map, sym, refl, subst, arith, rules}
use Rattle.std.specs.Prelude.{◌↔◌}
use Rattle.hol_types.specs.Tree.{TyApp, type_list}
use Rattle.hol_typing.specs.Generate.{AddsUnknown}
use Rattle.hol_typing.proofs.Bound.{builds_bound}
use Rattle.hol_typing.proofs.Linear.{linear_but_args, apart_but_args}
use Rattle.hol_typing.proofs.generate.Graph.tied.Goals as goal

pub bound_slots-requires-clause-well_formed : goal.bound_slots-requires-clause-well_formed
bound_slots-requires-clause-well_formed c = c.in_ok-base.ensures.adds.well_formed

pub bound_slots-requires-clause-row_in : goal.bound_slots-requires-clause-row_in
bound_slots-requires-clause-row_in c =
    let count : c.len.result ≡ length c.args.names.now.value.items = search rules in
    let more = c.in_ok-base.ensures.adds.slots_are in
    let base = c.in_ok-base.ensures.base in
    omega (arith, count, more, base)

pub bound_slots-requires-clause-linear : goal.bound_slots-requires-clause-linear
bound_slots-requires-clause-linear c = linear_but_args c.args.names.now.value.items c.args.args.now c.requires.linear

pub returns : goal.returns
returns c =
    let count : c.len.result ≡ length c.args.names.now.value.items = search rules in
    builds_bound c.args.self.now c.unknowns.new.self c.bound_slots.new.self c.args.name.now c.args.names.now.value.items c.in_ok-base.base c.in_ok-parts.parts.items c.args.args.now _ c.requires.well_formed
    c.in_ok-base.ensures.base
    (subst (λ (n : ℕ). AddsUnknown c.args.self.now c.unknowns.new.self n) count c.in_ok-base.ensures.adds)
    (apart_but_args c.args.names.now.value.items c.args.args.now c.requires.linear)
    c.in_ok-parts.ensures
    (λ types t. subst (λ (d : List ℕ). (t ≡ TyApp d (type_list (map types c.in_ok-parts.parts.items))) ↔ (t ≡ TyApp c.args.name.now (type_list (map types c.in_ok-parts.parts.items)))) (sym c.in_ok-copy.ensures) (λ e. e, λ e. e))
    (λ i. c.in_ok-parts.ensures.parts_in)
    refl
