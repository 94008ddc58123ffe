use Rattle.std.proofs.Common.{codes}
use Rattle.hol_formulas.specs.Formula.{connective_type, negation_type}
use Rattle.hol_formulas.proofs.FormulaLaws.{dest_binary_is, dest_unary_is, dest_quantifier_is}
use Rattle.hol_formulas.proofs.laws.parts_make_formulas.Goals as goal

pub returns-clause-conjunction : goal.returns-clause-conjunction
returns-clause-conjunction c = λ t p q. dest_binary_is (codes "/\\") connective_type t (p, q)

pub returns-clause-disjunction : goal.returns-clause-disjunction
returns-clause-disjunction c = λ t p q. dest_binary_is (codes "\\/") connective_type t (p, q)

pub returns-clause-implication : goal.returns-clause-implication
returns-clause-implication c = λ t p q. dest_binary_is (codes "==>") connective_type t (p, q)

pub returns-clause-negation : goal.returns-clause-negation
returns-clause-negation c = λ t p. dest_unary_is (codes "~") negation_type t p

pub returns-clause-universal : goal.returns-clause-universal
returns-clause-universal c = λ t x. dest_quantifier_is (codes "!") t x

pub returns-clause-existential : goal.returns-clause-existential
returns-clause-existential c = λ t x. dest_quantifier_is (codes "?") t x
