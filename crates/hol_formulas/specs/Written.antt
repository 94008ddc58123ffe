-- What written terms stand for.
use Rattle.hol_types.specs.Tree.{TypeTree}
use Rattle.hol_types.specs.Fun.{fun_type}
use Rattle.hol_terms.specs.Named.{Named, var, constant, comb, abs}
use Rattle.hol_formulas.specs.Equation.{bool_type, mk_eq}
use Rattle.hol_formulas.specs.Formula.{negation_type, connective_type}
use Rattle.hol_formulas.specs.Making.{mk_binary, mk_quantifier}
use Rattle.hol_formulas.specs.Constants.{var_a, var_b, binder_type, choice_type, function_property_type}
use Rattle.hol_formulas.specs.Prelude.{ind_type, property_type}
use Rattle.hol_formulas.specs.declared.sort.Sort.{Sort}
use Rattle.hol_formulas.specs.declared.sort.Sort.TheVariants.{Truth, Negation, Connective, OfConnective, Element, Value, Function, Property, Binder, Choice, OfFunction, OnIndividuals, OfOnIndividuals}
use Rattle.hol_formulas.specs.declared.written.Written as written

abbrev pub sort_type : Sort → TypeTree
sort_type Truth = bool_type
sort_type Negation = negation_type
sort_type Connective = connective_type
sort_type OfConnective = property_type connective_type
sort_type Element = var_a
sort_type Value = var_b
sort_type Function = fun_type var_a var_b
sort_type Property = property_type var_a
sort_type Binder = binder_type
sort_type Choice = choice_type
sort_type OfFunction = function_property_type
sort_type OnIndividuals = fun_type ind_type ind_type
sort_type OfOnIndividuals = property_type (fun_type ind_type ind_type)

abbrev pub written_term : written.Written → Named
written_term (written.Variable x s) = var (x.now, sort_type s)
written_term (written.Constant c s) = constant c.now (sort_type s)
written_term (written.Applied' p f q x) = comb (written_term f) (written_term x)
written_term (written.Function' x s p b) = abs (x.now, sort_type s) (written_term b)
written_term (written.Equation' s p l q r) = mk_eq (sort_type s) (written_term l) (written_term r)
written_term (written.Connective' c p l q r) = mk_binary c.now (written_term l) (written_term r)
written_term (written.Quantified' c x s p b) = mk_quantifier c.now (x.now, sort_type s) (written_term b)
