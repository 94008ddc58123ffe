use Rattle.std.proofs.Common.{ap, sym, ◌∙◌, List, ℕ, ◌∷◌, []}
use Rattle.hol_kernel.specs.declared.error.Rule.TheVariants as rule
use Rattle.hol_theory.specs.Key.{type_key}
use Rattle.hol_exec.proofs.NewNames.{only_memory, type_unrefused, type_entry_is}
use Rattle.hol_exec.proofs.UnlessTaken.{taken_refused, untaken_made, one_is, type_at_name}
use Rattle.hol_exec.proofs.declaring.made.makes_type.Goals as goal

pub returns-in-Some : goal.returns-in-Some
returns-in-Some c = taken_refused c.name_taken.result _ _ c.in-Some.key.now c.in-Some.ensures.key c.name_taken.ensures

pub one_made-requires : goal.one_made-requires
one_made-requires c =
    type_entry_is _ _ c.first_taken.ensures.theory c.args.name.now c.args.arity c.in-Ok.entry (type_at_name c.in_ok-basis.basis c.in_ok-name.name c.args.name.now c.args.arity c.in-Ok.entry c.in_ok-basis.ensures c.in_ok-name.ensures c.in-Ok.ensures)

pub returns-in-Ok : goal.returns-in-Ok
returns-in-Ok c =
    untaken_made c.one_made.result _ _ c.in_default.ensures.key
    (one_is c.one_made.result c.in-Ok.entry _ (type_at_name c.in_ok-basis.basis c.in_ok-name.name c.args.name.now c.args.arity c.in-Ok.entry c.in_ok-basis.ensures c.in_ok-name.ensures c.in-Ok.ensures) c.one_made.ensures)

pub memory_alone-requires : goal.memory_alone-requires
memory_alone-requires c =
    only_memory rule.DeclareType _ c.in-Err.error c.in-Err.ensures
    (type_unrefused _ _ c.first_taken.ensures.theory c.in_ok-name.name c.args.arity c.in_ok-basis.basis c.in_ok-basis.ensures (c.requires ∙ ap (λ (n : List ℕ). type_key n ∷ []) (sym c.in_ok-name.ensures)) (sym c.in_default.ensures.key))
