use Rattle.std.proofs.Common.{◌≡◌, ◌+◌, ◌≤◌, ◌∙◌, List, ℕ, length, sym, refl, subst, rules}
use Rattle.hol_typing.specs.declared.cell.GenericPart.{GenericPart}
use Rattle.hol_typing.specs.Graph.{IsPartIn, IsApplied}
use Rattle.hol_typing.specs.Generate.{slots}
use Rattle.hol_typing.specs.Linear.{IsLinearBut, AreDistinct}
use Rattle.std.proofs.lemmas.Result.{IfOk-weaker}
use Rattle.hol_types.specs.Tree.{TypeTree}
use Rattle.hol_typing.specs.Expanding.{BuildsBound}
use Rattle.hol_typing.proofs.Bound.{bound_applied}
use Rattle.hol_typing.proofs.generate.Graph.bound_slot.Goals as goal

pub returns-in-Var : goal.returns-in-Var
returns-in-Var c = IfOk-weaker c.bound_variable.result _ _
    (λ slot b. subst (λ (names : List (List ℕ)). BuildsBound c.args.self.now c.bound_variable.new.self names c.args.base slot c.args.ty.now) (search rules)
    (subst (λ (ty : TypeTree). BuildsBound c.args.self.now c.bound_variable.new.self c.deref-in-Var.result.now c.args.base slot ty) (rw c.in-Var.is at c.node.ensures) b))
    c.bound_variable.ensures

pub returns-in_ok-clone-in-App : goal.returns-in_ok-clone-in-App
returns-in_ok-clone-in-App c =
    let names : c.in_ok-clone-in-App.field-0.value.items ≡ c.args.names.now.value.items = search rules in
    let ty : c.in_ok-copy-in-App.field-0 ≡ c.args.ty.now = c.in_ok-copy-in-App.ensures in
    let part : GenericPart = record { ty = c.in_ok-copy-in-App.field-0; names = c.in_ok-clone-in-App.field-0; base = c.args.base } in
    let is : IsPartIn (slots c.args.self.now) part = record {
      row_in = subst (λ (ns : List (List ℕ)). c.args.base + length ns ≤ slots c.args.self.now) (sym names) c.requires.row_in;
      linear = subst (λ (ns : List (List ℕ)). IsLinearBut ns c.in_ok-copy-in-App.field-0) (sym names) (subst (λ (t : TypeTree). IsLinearBut c.args.names.now.value.items t) (sym ty) c.requires.linear);
      distinct = subst AreDistinct (sym names) c.requires.distinct;
      applied = subst IsApplied (rw c.in-App.is at c.node.ensures ∙ sym ty) tt;
    } in
    IfOk-weaker c.fresh.result _ _
    (λ slot f. bound_applied c.args.self.now c.fresh.new.self c.args.names.now.value.items c.args.base slot c.args.ty.now part c.requires.well_formed is ty names refl f)
    c.fresh.ensures
