use Rattle.std.proofs.Common.{◌≡◌, List, ℕ, map, sym, refl, subst}
use Rattle.std.specs.Prelude.{◌↔◌}
use Rattle.hol_types.specs.Tree.{TypeTree, TyApp, type_list}
use Rattle.hol_typing.specs.Graph.{IsApplied, bound_names}
use Rattle.hol_typing.specs.Linear.{IsLinearBut, AreLinearBut}
use Rattle.hol_typing.specs.Expanding.{BuildsAllBound}
use Rattle.hol_typing.proofs.Bound.{builds_part}
use Rattle.hol_typing.proofs.Linear.{linear_but_args, apart_but_args}
use Rattle.hol_typing.proofs.generate.Graph.part_instance.Goals as goal

pub returns-in-Var : goal.returns-in-Var
returns-in-Var c = absurd (subst IsApplied (sym (rw c.in-Var.is at c.node.ensures)) c.requires.part_in.applied)

pub bound_slots-requires-clause-row_in : goal.bound_slots-requires-clause-row_in
bound_slots-requires-clause-row_in c = c.requires.part_in.row_in

pub bound_slots-requires-clause-distinct : goal.bound_slots-requires-clause-distinct
bound_slots-requires-clause-distinct c = c.requires.part_in.distinct

pub bound_slots-requires-clause-linear : goal.bound_slots-requires-clause-linear
bound_slots-requires-clause-linear c =
    subst (AreLinearBut (bound_names c.args.part.now)) (sym c.deref.ensures.value)
    (linear_but_args (bound_names c.args.part.now) c.in-App.args.items (subst (IsLinearBut (bound_names c.args.part.now)) (sym (rw c.in-App.is at c.node.ensures)) c.requires.part_in.linear))

pub returns-in_ok-copy-in-App : goal.returns-in_ok-copy-in-App
returns-in_ok-copy-in-App c =
    builds_part c.args.self.now c.bound_slots.new.self c.in-App.name c.in_ok-parts-in-App.parts.items c.in-App.args.items c.args.part.now _ (sym (rw c.in-App.is at c.node.ensures))
    (apart_but_args (bound_names c.args.part.now) c.in-App.args.items (subst (IsLinearBut (bound_names c.args.part.now)) (sym (rw c.in-App.is at c.node.ensures)) c.requires.part_in.linear))
    (subst (λ (tys : List TypeTree). BuildsAllBound c.args.self.now c.bound_slots.new.self (bound_names c.args.part.now) c.args.part.now.base c.in_ok-parts-in-App.parts.items tys) c.deref.ensures.value c.in_ok-parts-in-App.ensures)
    (λ types t. subst (λ (d : List ℕ). (t ≡ TyApp d (type_list (map types c.in_ok-parts-in-App.parts.items))) ↔ (t ≡ TyApp c.in-App.name (type_list (map types c.in_ok-parts-in-App.parts.items)))) (sym c.in_ok-copy-in-App.ensures) (λ e. e, λ e. e))
    (λ i. c.in_ok-parts-in-App.ensures.parts_in)
    refl
