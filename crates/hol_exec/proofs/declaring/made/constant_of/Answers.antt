use Rattle.std.specs.Prelude.{refl}
use Rattle.std.proofs.Common.{ap, sym, ◌∙◌, List, ℕ, ◌∷◌, []}
use Rattle.hol_kernel.specs.declared.error.Rule.TheVariants as rule
use Rattle.hol_resolve.specs.Readings.{AType}
use Rattle.hol_theory.specs.Key.{constant_key}
use Rattle.hol_exec.proofs.ReadOver.{type_over_resolved}
use Rattle.hol_exec.proofs.NewNames.{only_memory, constant_unrefused, constant_entry_is}
use Rattle.hol_exec.proofs.UnlessTaken.{taken_refused, untaken_made, one_is, constant_at_name}
use Rattle.hol_exec.proofs.declaring.made.constant_of.Goals as goal

pub returns-in-Some : goal.returns-in-Some
returns-in-Some c = taken_refused c.name_taken.result _ _ c.in-Some.key.now c.in-Some.ensures.key c.name_taken.ensures

pub one_made-requires : goal.one_made-requires
one_made-requires c =
    constant_entry_is _ _ c.first_taken.ensures.theory ((c.args.place, AType c.args.ty) ∷ []) c.args.name.now c.args.ty c.in-Ok.entry
    (constant_at_name c.in_ok-basis.basis _ c.in_ok-name.name c.args.name.now c.args.ty c.in-Ok.entry c.in_ok-basis.ensures c.in_ok-name.ensures c.in-Ok.ensures)

pub returns-in-Ok : goal.returns-in-Ok
returns-in-Ok c =
    untaken_made c.one_made.result _ _ c.in_default.ensures.key
    (one_is c.one_made.result c.in-Ok.entry _
    (constant_at_name c.in_ok-basis.basis _ c.in_ok-name.name c.args.name.now c.args.ty c.in-Ok.entry c.in_ok-basis.ensures c.in_ok-name.ensures c.in-Ok.ensures) c.one_made.ensures)

pub memory_alone-requires : goal.memory_alone-requires
memory_alone-requires c =
    only_memory rule.DeclareConst _ c.in-Err.error c.in-Err.ensures
    (λ refused. constant_unrefused _ _ c.first_taken.ensures.theory ((c.args.place, AType c.args.ty) ∷ []) c.in_ok-name.name c.args.ty (c.requires.made ∙ ap (λ (n : List ℕ). constant_key n ∷ []) (sym c.in_ok-name.ensures)) (sym c.in_default.ensures.key)
    (type_over_resolved _ _ c.args.place c.requires.read.0 c.args.ty c.first_taken.ensures.theory c.requires.read.1)
    (λ e is. refused e (constant_at_name _ c.in_ok-basis.basis _ _ c.args.ty e (sym c.in_ok-basis.ensures) refl is)))
