use Rattle.std.proofs.Common.{[], ap, sym, ◌∙◌}
use Rattle.hol_terms.specs.Named.{named_type}
use Rattle.hol_terms.specs.Nameless.{nameless}
use Rattle.hol_formulas.specs.Equation.{bool_type}
use Rattle.hol_formulas.proofs.TakingApart.{applied_parts}
use Rattle.hol_exec.proofs.MadeDefinitions.{can_define_type}
use Rattle.hol_exec.proofs.declaring.made.type_by.Goals as goal

pub type_defined-requires-clause-some : goal.type_defined-requires-clause-some
type_defined-requires-clause-some c =
    let parts = applied_parts c.in-Comb.predicate c.in-Comb.field-1 bool_type (ap named_type (rw c.in-Comb.is at c.node.ensures) ∙ c.concl.ensures.typed) in
    can_define_type c.args.member.now c.args.definition.now c.in-Comb.predicate (nameless [] c.in-Comb.field-1) parts.domain c.requires.new c.promise.ensures.derives c.requires.unconditional
    (sym c.concl.ensures.concl ∙ ap (nameless []) (sym (rw c.in-Comb.is at c.node.ensures))) parts.function (sym c.in_ok-variable-in-Comb.ensures ∙ c.in-None.is)
