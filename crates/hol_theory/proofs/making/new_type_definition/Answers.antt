use Rattle.std.proofs.lemmas.Result.{err_from_is_err_and}
use Rattle.hol_theory.proofs.Defining.{type_found, type_definition_made, type_definition_entries}
use Rattle.hol_theory.proofs.making.new_type_definition.Goals as goal

pub returns-in_err-made-clause-refused : goal.returns-in_err-made-clause-refused
returns-in_err-made-clause-refused c =
    let p = err_from_is_err_and c.from_residual.result c.from_residual.ensures.1 in
    rw (p.1, p.2) c.in_err-made.ensures.made

pub definition_entries-requires : goal.definition_entries-requires
definition_entries-requires c =
    type_found c.args.basis.now c.in_ok-made.made.basis c.args.names.now.name.now c.args.names.now.abs.now c.args.names.now.rep.now c.args.member.now c.in_ok-made.made.abs_rep c.in_ok-made.made.rep_abs c.in_ok-made.ensures.made

pub returns-clause-made : goal.returns-clause-made
returns-clause-made c =
    type_definition_made c.args.basis.now c.in_ok-made.made.basis c.args.names.now.name.now c.args.names.now.abs.now c.args.names.now.rep.now c.args.member.now c.in_ok-made.made.abs_rep c.in_ok-made.made.rep_abs c.in_ok-made.ensures.made
    c.args.names.now.abs_rep.now c.args.names.now.rep_abs.now c.in_ok-definition_entries.field-0.items c.in_ok-definition_entries.ensures

pub returns-clause-entries : goal.returns-clause-entries
returns-clause-entries c =
    type_definition_entries c.args.basis.now c.in_ok-made.made.basis c.args.names.now.name.now c.args.names.now.abs.now c.args.names.now.rep.now c.args.member.now c.in_ok-made.made.abs_rep c.in_ok-made.made.rep_abs c.in_ok-made.ensures.made
    c.args.names.now.abs_rep.now c.args.names.now.rep_abs.now c.in_ok-definition_entries.field-0.items c.in_ok-definition_entries.ensures c.promise.ensures c.promise-2.ensures
