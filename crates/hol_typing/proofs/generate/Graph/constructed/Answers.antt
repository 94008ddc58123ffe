use Rattle.std.proofs.Common.{◌≡◌, List, ℕ, length, map, sym, ◌∙◌, subst, true, rules}
use Rattle.std.specs.Prelude.{◌↔◌}
use Rattle.hol_types.specs.Tree.{TypeTree, TyApp, type_list}
use Rattle.hol_types.specs.Names.{is_among, type_names}
use Rattle.hol_typing.specs.Generate.{AreRigidBut, AddsUnknown, BuildsTypes}
use Rattle.hol_typing.proofs.Instances.{covered_rigid}
use Rattle.hol_typing.proofs.Opening.{builds_constructed, builds_same}
use Rattle.hol_typing.proofs.generate.Graph.constructed.Goals as goal

pub type_slots-requires-clause-rigid : goal.type_slots-requires-clause-rigid
type_slots-requires-clause-rigid c =
    subst (λ (names : List (List ℕ)). AreRigidBut names (type_list c.args.args.now)) (sym c.deref.ensures.value)
    (covered_rigid c.in_ok-names.names.items (TyApp c.args.name.now (type_list c.args.args.now))
    (λ a e. c.in_ok-names.ensures.occurring a ∙ subst (λ (u : TypeTree). is_among (type_names u) a ≡ true) c.requires.parts e))

pub returns : goal.returns
returns c =
    let count : c.len.result ≡ length c.in_ok-names.names.items = search rules in
    builds_same c.args.self.now c.type_slots.new.self _ (TyApp c.args.name.now (type_list c.args.args.now)) c.args.generic.now c.requires.parts
    (builds_constructed c.args.self.now c.unknowns.new.self c.type_slots.new.self c.args.name.now c.args.args.now c.in_ok-names.names.items c.in_ok-base.base c.in_ok-parts.parts.items _ c.requires.well_formed
    (λ a e. c.in_ok-names.ensures.occurring a ∙ subst (λ (u : TypeTree). is_among (type_names u) a ≡ true) c.requires.parts e)
    c.in_ok-base.ensures.base
    (subst (λ (n : ℕ). AddsUnknown c.args.self.now c.unknowns.new.self n) count c.in_ok-base.ensures.adds)
    (subst (λ (names : List (List ℕ)). BuildsTypes c.unknowns.new.self c.type_slots.new.self names c.in_ok-base.base c.in_ok-parts.parts.items c.args.args.now) c.deref.ensures.value c.in_ok-parts.ensures)
    (λ types t. subst (λ (d : List ℕ). (t ≡ TyApp d (type_list (map types c.in_ok-parts.parts.items))) ↔ (t ≡ TyApp c.args.name.now (type_list (map types c.in_ok-parts.parts.items)))) (sym c.in_ok-copy.ensures) (λ e. e, λ e. e))
    (λ i. c.in_ok-parts.ensures.parts_in)
    tt)
