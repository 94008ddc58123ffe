use Rattle.std.proofs.Common.{◌≡◌, ◌∙◌, ap, sym, subst}
use Rattle.hol_formulas.specs.Equation.{bool_type}
use Rattle.hol_kernel.specs.Given.{given_sequent}
use Rattle.hol_kernel.proofs.Declared.{has_type_of}
use Rattle.hol_match.specs.Rules.{pattern_variables}
use Rattle.hol_match.proofs.Formulas.{IsFormula}
use Rattle.hol_match.proofs.Keeping.{names_kept, variables_kept}
use Rattle.hol_match.proofs.source.Source.of.Goals as goal

pub invariant_of-result : goal.invariant_of-result
invariant_of-result c =
    let g = c.in_ok-copy.field-0 in
    let f = c.in_ok-fixed.fixed in
    let formula : IsFormula g = subst IsFormula (sym c.in_ok-copy.ensures) c.conclusion_typed.ensures in
    let own : (given_sequent c.args.given.now).hyps ≡ (given_sequent g).hyps = ap (λ x. (given_sequent x).hyps) (sym c.in_ok-copy.ensures) in
    record {
      own = c.in_ok-variables.ensures ∙ ap (pattern_variables f.variables.items) (c.concl.ensures.concl ∙ ap (λ x. (given_sequent x).concl) (sym c.in_ok-copy.ensures));
      variables_stay = variables_kept (given_sequent g).hyps c.args.hyps.now f (c.requires ∙ own) c.in_ok-fixed.ensures.kept;
      names_stay = names_kept (given_sequent g).hyps c.args.hyps.now f (c.requires ∙ own) c.in_ok-fixed.ensures.kept;
      formula = λ basis suit. has_type_of basis (given_sequent g).concl bool_type (formula basis suit);
    }
