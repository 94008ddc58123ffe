use Rattle.std.proofs.Common.{◌≡◌, [], true, ap, sym, ◌∙◌, rules}
use Rattle.hol_terms.specs.Named.{comb, abs, named_type}
use Rattle.hol_terms.specs.Nameless.{nameless}
use Rattle.hol_formulas.specs.Formula.{quantifier_type, is_constant}
use Rattle.hol_formulas.proofs.TakingApart.{body_typed}
use Rattle.hol_formulas.proofs.quantifiers.quantified.Goals as goal

pub returns-clause-typed : goal.returns-clause-typed
returns-clause-typed c =
    let is : c.args.term.now ≡ comb c.in-Comb.quantifier (abs c.in-Abs.v c.in-Abs.body) = search rules in
    let tested : is_constant c.args.name.now (quantifier_type c.in-Abs.v.1) (nameless [] c.in-Comb.quantifier) ≡ true = search rules in
    body_typed c.args.name.now c.in-Comb.quantifier c.in-Abs.v c.in-Abs.body c.type_of-ty.result.now tested (ap named_type (sym is) ∙ c.type_of-ty.ensures.named)
