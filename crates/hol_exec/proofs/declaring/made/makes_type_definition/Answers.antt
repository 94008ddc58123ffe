use Rattle.std.proofs.Common.{sym}
use Rattle.hol_exec.proofs.CitedTheorem.{cited_unconditional, cited_within}
use Rattle.hol_exec.proofs.MadeDefinitions.{new_type_names}
use Rattle.hol_exec.proofs.declaring.made.makes_type_definition.Goals as goal

pub type_by-requires-clause-unconditional : goal.type_by-requires-clause-unconditional
type_by-requires-clause-unconditional g c =
    cited_unconditional c.args.reads.now.cited c.args.reads.now.made c.first_taken.ensures.theory c.in-Some.member.now c.in-Some.ensures

pub type_by-requires-clause-new : goal.type_by-requires-clause-new
type_by-requires-clause-new g c =
    let h = c.first_taken.ensures.theory in
    new_type_names c.args.reads.now.cited c.args.reads.now.made h c.in-Some.member.now.basis c.args.definition.now
    (cited_within c.args.reads.now.cited c.args.reads.now.made h c.in-Some.member.now c.in-Some.ensures) c.requires.made (sym c.in_default-first_taken.ensures.key)
