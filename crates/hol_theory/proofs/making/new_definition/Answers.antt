use Rattle.std.proofs.Common.{[]}
use Rattle.std.proofs.lemmas.Result.{err_from_is_err_and}
use Rattle.hol_terms.specs.Nameless.{nameless}
use Rattle.hol_theory.proofs.Defining.{definition_found, definition_made, definition_entries}
use Rattle.hol_theory.proofs.making.new_definition.Goals as goal

pub returns-in_err-larger-clause-refused : goal.returns-in_err-larger-clause-refused
returns-in_err-larger-clause-refused c =
    let p = err_from_is_err_and c.from_residual.result c.from_residual.ensures.1 in
    rw (p.1, p.2) c.in_err-larger.ensures.made

pub made_entries-requires : goal.made_entries-requires
made_entries-requires c = definition_found c.args.basis.now c.in_ok-larger.larger c.args.name.now (nameless [] c.args.right.now) c.in_ok-larger.th c.in_ok-larger.ensures.made

pub returns-clause-made : goal.returns-clause-made
returns-clause-made c =
    definition_made c.args.basis.now c.in_ok-larger.larger c.args.name.now (nameless [] c.args.right.now) c.in_ok-larger.th c.in_ok-larger.ensures.made c.in_ok-entries.entries.items c.in_ok-entries.ensures

pub returns-clause-entries : goal.returns-clause-entries
returns-clause-entries c =
    definition_entries c.args.basis.now c.in_ok-larger.larger c.args.name.now (nameless [] c.args.right.now) c.in_ok-larger.th c.in_ok-larger.ensures.made c.in_ok-entries.entries.items c.in_ok-entries.ensures
    c.promise.ensures.legal
