use Rattle.std.specs.Prelude.{refl}
use Rattle.std.proofs.Common.{ap, sym, ◌∙◌, List, ℕ, ◌∷◌, []}
use Rattle.hol_terms.specs.Nameless.{nameless}
use Rattle.hol_kernel.specs.declared.error.Rule.TheVariants as rule
use Rattle.hol_resolve.specs.Readings.{ATerm}
use Rattle.hol_theory.specs.Key.{theorem_key}
use Rattle.hol_exec.proofs.NewNames.{only_memory, axiom_unrefused, axiom_entry_is}
use Rattle.hol_exec.proofs.UnlessTaken.{one_is, axiom_at_name}
use Rattle.hol_exec.proofs.declaring.made.axiom_stated.Goals as goal

pub one_made-requires : goal.one_made-requires
one_made-requires c =
    axiom_entry_is _ _ c.promise.ensures ((c.args.place, ATerm (nameless [] c.args.statement.now)) ∷ []) c.args.name.now (nameless [] c.args.statement.now) c.in-Ok.entry
    (axiom_at_name c.in_ok-basis.basis _ c.in_ok-name.name c.args.name.now (nameless [] c.args.statement.now) c.in-Ok.entry c.in_ok-basis.ensures c.in_ok-name.ensures c.in-Ok.ensures)

pub returns-in-Ok : goal.returns-in-Ok
returns-in-Ok c =
    one_is c.one_made.result c.in-Ok.entry _
    (axiom_at_name c.in_ok-basis.basis _ c.in_ok-name.name c.args.name.now (nameless [] c.args.statement.now) c.in-Ok.entry c.in_ok-basis.ensures c.in_ok-name.ensures c.in-Ok.ensures) c.one_made.ensures

pub memory_alone-requires : goal.memory_alone-requires
memory_alone-requires c =
    only_memory rule.DeclareAxiom _ c.in-Err.error c.in-Err.ensures
    (λ refused. axiom_unrefused _ _ c.promise.ensures ((c.args.place, ATerm (nameless [] c.args.statement.now)) ∷ []) c.in_ok-name.name (nameless [] c.args.statement.now) (c.requires.made ∙ ap (λ (n : List ℕ). theorem_key n ∷ []) (sym c.in_ok-name.ensures)) c.requires.new c.requires.statement
    (λ e is. refused e (axiom_at_name _ c.in_ok-basis.basis _ _ (nameless [] c.args.statement.now) e (sym c.in_ok-basis.ensures) refl is)))
